use mathlib.Core.Bool.{true, false}
use Rattle.encounter.specs.Private.Operations.{both, pair}
use Rattle.exact.specs.Arithmetic.{rounded}
use Rattle.encounter.proofs.steps.sides.BothSidesOperations.sum.Goals as goal

pub sum-requires : goal.sum-requires
sum-requires c = (c.requires.0 false, c.requires.1 false)

pub sum-requires-2 : goal.sum-requires-2
sum-requires-2 c = (c.requires.0 true, c.requires.1 true)

pub returns : goal.returns
unfolding both rounded
returns c = λ i. pair (c.sum.ensures.0 i) (c.sum-2.ensures.0 i)
