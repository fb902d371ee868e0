use mathlib.Core.Path.{refl}
use Rattle.encounter.proofs.arithmetic.WholeParts.{raised_quotient}
use Rattle.encounter.proofs.arithmetic.rounding.divided.Goals as goal

pub returns : goal.returns
returns c = (rw c.upward.ensures (raised_quotient c.args.n c.args.k c.requires.0 c.args.up), refl)
