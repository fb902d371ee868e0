use mathlib.Core.Bool.{true}
use native.Mathlib.Numerals.{add-two}
use native.Mathlib.Omega.{arith}
use lib.Dec.{lit≤}
use Rattle.exact.specs.Arithmetic.{rounded}
use Rattle.exact.specs.Steps.{next_d}
use Rattle.exact.proofs.Ranges.{widen}
use Rattle.encounter.proofs.arithmetic.Fitting.{product_of}
use Rattle.encounter.proofs.steps.terms.next_tail.Goals as goal

pub over-requires : goal.over-requires
over-requires c = (widen (lit≤ tt) (product_of true c.product.ensures.0 c.requires.2 c.requires.1), omega arith, omega (arith, c.requires.0))

pub returns : goal.returns
unfolding next_d rounded
returns c = rw (c.over.ensures.0, c.product.ensures.0, add-two)
