use mathlib.Core.Path.{◌≡◌}
use mathlib.Core.List.{map}
use lib.ListN.{drop}
use Rattle.std.specs.Prelude.{fold}
use Rattle.week.specs.Week.{held_in}
use Rattle.week.specs.Private.Walk.{with_bracket}
use Rattle.jinthuol.specs.Week.{place_in}
use Rattle.jinthuol.proofs.weeks.with_day.Given as goal

-- with the places that are left it comes to the same
abbrev pub invariant-loop-place : goal.invariant-loop-place
invariant-loop-place l = fold with_bracket l.ends (held_in (drop l.place-index (map place_in l.fn.day.places))) ≡ fold with_bracket l.fn.ends (held_in (map place_in l.fn.day.places))
