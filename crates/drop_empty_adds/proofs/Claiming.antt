-- Request #110: the claims.
use mathlib.Core.Path.{◌≡◌, ap, ◌∙◌}
use mathlib.Core.Bool.{false}
use mathlib.Core.List.{List}
use Prim.Native.Nat.{ℕ}
use Rattle.exact.specs.Refusals.{refuses_8}
use Rattle.encounter.specs.Session.{empty}
use Rattle.drop_empty_adds.specs.Dropping.{records, is_empty_add, without, dropped}
use Rattle.drop_empty_adds.specs.Answers.{answered, answers, lines_from}
use Rattle.drop_empty_adds.specs.Claims.{Claims}
use Rattle.drop_empty_adds.proofs.Cutting.{cuts, all_bytes}
use Rattle.drop_empty_adds.proofs.Remaining.{new_records, still_short, none_left, once, unchanged}
use Rattle.drop_empty_adds.proofs.Answering.{refused_as_12, answers_remain}
use Rattle.drop_empty_adds.proofs.JustTwelve.{just_12}
use Rattle.drop_empty_adds.proofs.Printing.{as_printed, own_bytes}

same : (l : List ℕ) → refuses_8 l ≡ false → answers (dropped l) ≡ without (λ a. is_empty_add a.bytes) (answers l)
same l z = ap (answered empty) (new_records l z) ∙ answers_remain (records l) empty

pub claims : Claims
claims = record {
  same_answers = same;
  new_listing = λ l z. as_printed (dropped l) (still_short l z) ∙ ap (lines_from 0) (same l z);
  own_bytes = own_bytes;
  as_printed = as_printed;
  all_bytes = λ l. all_bytes (cuts l);
  refused_as_12 = refused_as_12;
  just_12 = just_12;
  none_left = none_left;
  once = once;
  unchanged = unchanged;
}
