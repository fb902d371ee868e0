use mathlib.Core.Path.{◌≡◌}
use lib.ListN.{drop}
use Rattle.std.specs.Prelude.{fold}
use Rattle.week.specs.Week.{held}
use Rattle.week.specs.Private.Walk.{no_ends, with_bracket}
use Rattle.week.proofs.week_ends.Given as goal

-- with the days that are left it comes to the same
abbrev pub invariant-loop-day : goal.invariant-loop-day
invariant-loop-day l = fold with_bracket l.ends (held (drop l.day-index l.day-items)) ≡ fold with_bracket no_ends (held l.fn.week)
