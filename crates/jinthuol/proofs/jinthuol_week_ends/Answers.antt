use mathlib.Core.Path.{refl, ◌∙◌}
use mathlib.Core.List.{[]}
use native.Mathlib.Omega.{arith}
use Rattle.week.proofs.Walking.{no_day_left, held_give}
use Rattle.jinthuol.specs.Week.{days_of}
use Rattle.jinthuol.proofs.weeks.Copies.{as_many, day_turn}
use Rattle.jinthuol.proofs.jinthuol_week_ends.Goals as goal

pub loop-day-preserved : goal.loop-day-preserved
loop-day-preserved c =
    let l = c.loop-day in
    (refl, day_turn l.ends c.args.week l.day-index (record { places = [] }) (omega arith) c.with_day-ends.ensures ∙ l.invariant.1)

pub returns : goal.returns
returns c =
    let l = c.loop-day in
    no_day_left l.ends (days_of c.args.week) l.day-index (omega (arith, as_many c.args.week)) ∙ l.invariant.1 ∙ held_give c.requires
