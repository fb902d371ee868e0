use mathlib.Core.Bool.{true, false}
use Rattle.encounter.specs.Private.Operations.{both, pair}
use Rattle.exact.specs.Arithmetic.{rounded}
use Rattle.encounter.proofs.steps.sides.BothSidesOperations.over.Goals as goal

pub over-requires : goal.over-requires
over-requires c = (c.requires.0 false, c.requires.1, c.requires.2)

pub over-requires-2 : goal.over-requires-2
over-requires-2 c = (c.requires.0 true, c.requires.1, c.requires.2)

pub returns : goal.returns
unfolding both rounded
returns c = λ i. pair (c.over.ensures.0 i) (c.over-2.ensures.0 i)
