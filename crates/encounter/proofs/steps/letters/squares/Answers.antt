use Rattle.exact.specs.Arithmetic.{traced}
use Rattle.encounter.proofs.steps.letters.squares.Goals as goal

pub returns : goal.returns
unfolding traced
returns c = rw (c.ratio.ensures, c.times-2.ensures.0, c.times.ensures.0)
