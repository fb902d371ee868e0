use mathlib.Core.Path.{refl}
use Rattle.exact.specs.Losses.{operand_lost}
use Rattle.encounter.proofs.steps.losses.losses_at.Goals as goal

pub returns : goal.returns
unfolding operand_lost
returns c = (refl, refl)
