use Rattle.exact.specs.Arithmetic.{traced}
use Rattle.encounter.proofs.arithmetic.traced.halved.Goals as goal

pub returns : goal.returns
unfolding traced
returns c = λ up. rw c.halved.ensures
