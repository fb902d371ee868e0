use mathlib.Core.Path.{◌∙◌, ap}
use lib.Dec.{lit≤}
use Rattle.exact.specs.Scaled.{double}
use Rattle.exact.proofs.Ranges.{widen}
use Rattle.encounter.proofs.arithmetic.Fitting.{double_of}
use Rattle.encounter.proofs.arithmetic.scaled.doubled.Goals as goal

pub narrowed-requires : goal.narrowed-requires
narrowed-requires c = widen (lit≤ tt) (double_of (c.moved.ensures ∙ ap double c.from.ensures) c.requires)
