use mathlib.Core.Bool.{true, false}
use Rattle.encounter.specs.Private.Operations.{both, pair}
use Rattle.exact.specs.Arithmetic.{rounded}
use Rattle.encounter.proofs.steps.sides.BothSidesOperations.product.Goals as goal

pub product-requires : goal.product-requires
product-requires c = (c.requires.0 false, c.requires.1 false)

pub product-requires-2 : goal.product-requires-2
product-requires-2 c = (c.requires.0 true, c.requires.1 true)

pub returns : goal.returns
unfolding both rounded
returns c = λ i. pair (c.product.ensures.0 i) (c.product-2.ensures.0 i)
