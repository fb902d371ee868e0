use mathlib.Core.Bool.{true, false}
use Rattle.encounter.specs.Private.Operations.{both, pair}
use Rattle.exact.specs.Arithmetic.{rounded}
use Rattle.encounter.proofs.steps.sides.BothSidesOperations.over_by.Goals as goal

pub over_by-requires : goal.over_by-requires
over_by-requires c = (c.requires.0 false, c.requires.1)

pub over_by-requires-2 : goal.over_by-requires-2
over_by-requires-2 c = (c.requires.0 true, c.requires.1)

pub returns : goal.returns
unfolding both rounded
returns c = λ i. pair (c.over_by.ensures.0 i) (c.over_by-2.ensures.0 i)
