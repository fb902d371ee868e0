use mathlib.Core.Path.{◌≡◌, sym, ◌∙◌, ap, subst}
use Rattle.std.specs.Prelude.{Result, Ok, Err, IfOk}
use Rattle.std.specs.Result.{result_unwrap_or}
use Rattle.exact.specs.declared.refusals.Refusal.{Refusal}
use Rattle.week.specs.Week.{Week, Entry, entry_of}
use Rattle.week.specs.Told.{FromCalls}
use Rattle.customer.proofs.entered.Goals as goal

after_is : {w v : Week} {e : Entry} (r : Result Week Refusal) → FromCalls w → (entry_of w r ≡ e) × IfOk r FromCalls → v ≡ result_unwrap_or r w → (v ≡ e.week) × FromCalls v
after_is (Ok x) f i u = (u ∙ ap (λ (t : Entry). t.week) i.0, subst FromCalls (sym u) i.1)
after_is (Err x) f i u = (u ∙ ap (λ (t : Entry). t.week) i.0, subst FromCalls (sym u) f)

pub returns : goal.returns
returns c = after_is c.enter.result c.requires.0 c.enter.ensures c.unwrap_or.ensures
