use Rattle.std.proofs.Common.{arith}
use Rattle.drop_empty_adds.proofs.Moving.{some, fits, next}
use Rattle.drop_empty_adds.proofs.dropping.drop_empty_adds.Goals as goal

pub keep-to-requires : goal.keep-to-requires
keep-to-requires c =
    let z = c.loop-from.invariant.0 in
    (z.down, fits _ _ _ _ z c.loop-from-test.true _ c.first_length-n.ensures)

pub overflow_add-from : goal.overflow_add-from
overflow_add-from c =
    let (z, short) = c.loop-from.invariant in
    record { fits = omega (arith, fits _ _ _ _ z c.loop-from-test.true _ c.first_length-n.ensures, z.same, short) }

pub loop-from-smaller : goal.loop-from-smaller
loop-from-smaller c =
    let z = c.loop-from.invariant.0 in
    let g = next _ _ _ _ z c.loop-from-test.true _ c.first_length-n.ensures _ _ c.keep-to.ensures in
    omega (arith, g.same, z.same, some _ _ _ _ z c.loop-from-test.true _ c.first_length-n.ensures)

pub loop-from-preserved : goal.loop-from-preserved
loop-from-preserved c =
    let (z, short) = c.loop-from.invariant in
    (next _ _ _ _ z c.loop-from-test.true _ c.first_length-n.ensures _ _ c.keep-to.ensures, short)
