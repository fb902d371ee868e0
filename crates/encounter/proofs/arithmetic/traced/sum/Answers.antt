use mathlib.Core.Path.{refl}
use Rattle.exact.specs.Arithmetic.{traced}
use Rattle.encounter.proofs.arithmetic.Results.{passed_is}
use Rattle.encounter.proofs.arithmetic.traced.sum.Goals as goal

pub returns : goal.returns
unfolding traced
returns c = passed_is c.args.up _ _ refl c.sum.ensures c.passed_on.ensures
