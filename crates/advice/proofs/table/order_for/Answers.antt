use Rattle.advice.proofs.Test.{computed}
use Rattle.advice.proofs.table.order_for.Goals as goal

pub returns : goal.returns
returns c =
    let (p, l) = c.requires in
    let h = c.orders.ensures.orders.entry c.args.M p l in
    (computed p l h, h)
