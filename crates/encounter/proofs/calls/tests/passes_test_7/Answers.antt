use mathlib.Core.Path.{◌∙◌}
use mathlib.Core.Bool.{false}
use lib.Dec.{lit<, lit≤}
use Rattle.exact.specs.Numbers.{largest_t}
use Rattle.exact.proofs.Fractions.{≈_refl}
use Rattle.exact.proofs.Operations.{whole_exact}
use Rattle.exact.proofs.Order.{at_most_cong}
use Rattle.exact.proofs.Ranges.{widen}
use Rattle.encounter.proofs.arithmetic.Fitting.{whole_of}
use Rattle.encounter.proofs.calls.tests.passes_test_7.Goals as goal

pub at_most-requires : goal.at_most-requires
at_most-requires c = (widen (lit≤ tt) c.requires, widen (lit≤ tt) (whole_of false largest_t c.whole.ensures.0 (lit< tt)))

pub returns : goal.returns
returns c = c.at_most.ensures ∙ rw c.whole.ensures.0 (at_most_cong _ _ _ _ (≈_refl _) (whole_exact false 32 largest_t (lit< tt) (lit< tt)))
