use Rattle.exact.specs.Arithmetic.{traced}
use Rattle.exact.specs.Series.{a₀}
use Rattle.exact.specs.Steps.{start}
use Rattle.encounter.proofs.steps.letters.start.Goals as goal

pub returns : goal.returns
unfolding start a₀ traced
returns c = rw (c.ratio.ensures, c.times-2.ensures.0, c.times.ensures.0)
