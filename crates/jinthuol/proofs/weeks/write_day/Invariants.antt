use mathlib.Core.Path.{◌≡◌}
use Rattle.jinthuol.proofs.weeks.Copies.{partly, again}
use Rattle.jinthuol.proofs.weeks.write_day.Given as goal

abbrev pub invariant-loop-place : goal.invariant-loop-place
invariant-loop-place l = l.place-items ≡ partly again l.fn.day.places l.place-index
