use mathlib.Core.Path.{◌∙◌}
use mathlib.Core.List.{[]}
use native.Mathlib.Omega.{arith}
use Rattle.week.proofs.Walking.{one_day_more, no_day_left, held_give}
use Rattle.week.proofs.Claiming.{claims}
use Rattle.week.proofs.week_ends.Goals as goal

pub loop-day-preserved : goal.loop-day-preserved
loop-day-preserved c =
    let l = c.loop-day in
    rw c.with_day-ends.ensures (one_day_more l.ends c.args.week l.day-index [] (omega arith) ∙ l.invariant)

pub returns : goal.returns
returns c =
    let l = c.loop-day in
    record {
      value = no_day_left l.ends c.args.week l.day-index (omega arith) ∙ l.invariant ∙ held_give c.requires;
      claims = claims;
    }
