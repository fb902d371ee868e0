use mathlib.Core.Path.{◌∙◌}
use native.Mathlib.Omega.{arith}
use Rattle.std.specs.Prelude.{None}
use Rattle.week.proofs.Walking.{none_there, one_there, no_place_left}
use Rattle.week.proofs.Ends.with_day.Goals as goal
use Rattle.week.proofs.Ends.with_day.Goals.{in-Some, in_default}

pub loop-place-preserved : goal.loop-place-preserved
loop-place-preserved c =
    let l = c.loop-place in
    elim c.match-place.branch [
      | in-Some w ↦ rw (w.ends-is, w.with-ends.ensures) (one_there l.ends c.args.day.now l.place-index None (omega arith) w.in-Some.is ∙ l.invariant)
      | in_default w ↦ rw w.ends-is (none_there l.ends c.args.day.now l.place-index None (omega arith) w.in_default.is ∙ l.invariant)
    ]

pub returns : goal.returns
returns c = no_place_left _ c.args.day.now c.loop-place.place-index (omega arith) ∙ c.loop-place.invariant
