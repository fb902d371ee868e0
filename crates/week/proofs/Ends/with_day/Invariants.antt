use mathlib.Core.Path.{◌≡◌}
use lib.ListN.{drop}
use Rattle.std.specs.Prelude.{fold}
use Rattle.week.specs.Week.{held_in}
use Rattle.week.specs.Private.Walk.{with_bracket}
use Rattle.week.proofs.Ends.with_day.Given as goal

-- with the places that are left it comes to the same
abbrev pub invariant-loop-place : goal.invariant-loop-place
invariant-loop-place l = fold with_bracket l.ends (held_in (drop l.place-index l.day)) ≡ fold with_bracket l.fn.self (held_in l.day)
