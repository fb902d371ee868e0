use mathlib.Core.Path.{sym, ap, ◌∙◌}
use native.Mathlib.Omega.{arith}
use lib.ListN.{length}
use Rattle.std.specs.Prelude.{◌≡◌, ℕ}
use Rattle.std.proofs.Common.{rules}
use Rattle.encounter.specs.declared.state.Answer.{Answer}
use Rattle.encounter.specs.Calls.{reads, call}
use Rattle.week.specs.declared.Ends.{Ends}
use Rattle.week.specs.Week.{next_place, ends_of}
use Rattle.week.proofs.Places.{found, none_found}
use Rattle.week.proofs.Entering.{refused_24, accepted}
use Rattle.week.proofs.entry.Goals as goal

pub returns-in_default-None-clause-number : goal.returns-in_default-None-clause-number
returns-in_default-None-clause-number c =
    let l = none_found c.args.day.now (sym c.next_place.ensures ∙ c.in_default-None.is-1) in
    let e : length c.args.day.now ≡ 8 = search rules in
    refused_24 c.args.day.now c.args.s c.in_default-None.ensures (omega (arith, l, e))

pub returns-in-Ok-Some-clause-number : goal.returns-in-Ok-Some-clause-number
returns-in-Ok-Some-clause-number c =
    let f = found c.args.day.now (sym c.next_place.ensures ∙ c.in-Ok-Some.is-1) in
    let e : length c.args.day.now ≡ 8 = search rules in
    accepted c.args.day.now c.args.s c.in-Ok-Some.ensures (omega (arith, f, e))

pub returns-in-Ok-Some-clause-value : goal.returns-in-Ok-Some-clause-value
returns-in-Ok-Some-clause-value c =
    let f = found c.args.day.now (sym c.next_place.ensures ∙ c.in-Ok-Some.is-1) in
    let e : ◌≡◌ {A = ℕ × Ends} (c.in-Ok-Some.p, c.from.result) (next_place c.args.day.now, ends_of (call reads c.args.s).answer) = λ i. (f.0 i, (c.from.ensures ∙ ap (λ (a : Answer). ends_of a) c.in-Ok-Some.ensures) i) in
    e
