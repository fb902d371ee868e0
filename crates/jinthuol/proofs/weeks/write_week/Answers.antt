use mathlib.Core.Path.{◌∙◌, ap}
use mathlib.Core.List.{List, []}
use native.Mathlib.Omega.{arith}
use Rattle.jinthuol.specs.declared.Day.{Day}
use Rattle.jinthuol.proofs.weeks.Copies.{day_again, partly_none, partly_turn, partly_all, week_again}
use Rattle.jinthuol.proofs.weeks.write_week.Goals as goal

pub loop-day-init : goal.loop-day-init
loop-day-init c = partly_none day_again _

pub returns : goal.returns
returns c = ap (λ (l : List Day). record { days = l }) (c.loop-day.invariant ∙ partly_all day_again _ c.loop-day.day-index (omega arith)) ∙ week_again _

pub loop-day-preserved : goal.loop-day-preserved
loop-day-preserved c =
    let l = c.loop-day in
    partly_turn day_again c.args.week.now.days l.day-index (record { places = [] }) l.invariant (omega arith) c.write_day.ensures
