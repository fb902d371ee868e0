use mathlib.Core.Path.{◌∙◌, ap}
use lib.Dec.{lit≤}
use Rattle.exact.specs.Scaled.{half}
use Rattle.exact.proofs.Ranges.{widen}
use Rattle.encounter.proofs.arithmetic.Fitting.{half_of}
use Rattle.encounter.proofs.arithmetic.scaled.halved.Goals as goal

pub narrowed-requires : goal.narrowed-requires
narrowed-requires c = widen (lit≤ tt) (half_of (c.halved.ensures ∙ ap half c.from.ensures) c.requires)
