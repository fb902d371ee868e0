use mathlib.Core.Path.{◌≡◌}
use Rattle.jinthuol.proofs.weeks.Copies.{partly, day_again}
use Rattle.jinthuol.proofs.weeks.write_week.Given as goal

abbrev pub invariant-loop-day : goal.invariant-loop-day
invariant-loop-day l = l.day-items ≡ partly day_again l.fn.week.days l.day-index
