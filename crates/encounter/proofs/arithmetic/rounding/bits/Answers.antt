use mathlib.Core.Path.{◌∙◌}
use Rattle.exact.proofs.Bits.{bits_are}
use Rattle.encounter.proofs.arithmetic.rounding.bits.Goals as goal

pub returns : goal.returns
returns c = c.from.ensures ∙ (bits_are c.args.n c.requires c.ranges.n.fits).1
