use mathlib.Core.Bool.{true, false}
use Rattle.encounter.specs.Private.Operations.{both, pair}
use Rattle.exact.specs.Arithmetic.{rounded}
use Rattle.encounter.proofs.steps.sides.BothSidesOperations.half.Goals as goal

pub halved-requires : goal.halved-requires
halved-requires c = c.requires false

pub halved-requires-2 : goal.halved-requires-2
halved-requires-2 c = c.requires true

pub returns : goal.returns
unfolding both rounded
returns c = λ i. pair (c.halved.ensures i) (c.halved-2.ensures i)
