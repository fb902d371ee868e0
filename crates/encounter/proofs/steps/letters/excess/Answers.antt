use Rattle.exact.specs.Arithmetic.{traced}
use Rattle.encounter.proofs.steps.letters.excess.Goals as goal

pub returns : goal.returns
unfolding traced
returns c = rw (c.ratio.ensures, c.times-yy.ensures.0, c.times-xx.ensures.0)
