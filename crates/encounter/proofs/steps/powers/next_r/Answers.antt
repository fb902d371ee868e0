use native.Mathlib.Numerals.{add-one}
use native.Mathlib.Omega.{arith}
use lib.Dec.{lit≤}
use Rattle.exact.proofs.Ranges.{widen}
use Rattle.exact.proofs.Exponents.{in_range}
use Rattle.encounter.proofs.steps.BothSides.{product_side, quotient_side}
use Rattle.encounter.proofs.steps.powers.next_r.Goals as goal

pub over-requires : goal.over-requires
over-requires c =
    ((λ up. rw (product_side up _ _ c.product.ensures) (widen (lit≤ tt) ((in_range up).product (c.requires.1 up).1 (c.requires.1 up).0))), omega arith, omega (arith, c.requires.0))

pub returns : goal.returns
returns c = λ up. rw (quotient_side up _ _ c.over.ensures, product_side up _ _ c.product.ensures, add-one)
