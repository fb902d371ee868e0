use Rattle.exact.specs.Steps.{first}
use Rattle.encounter.proofs.steps.losses.first_terms.Goals as goal

pub returns : goal.returns
unfolding first
returns c = rw c.product.ensures
