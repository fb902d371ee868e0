use mathlib.Core.Path.{◌∙◌}
use mathlib.Core.Bool.{false}
use native.Mathlib.Omega.{arith}
use lib.Dec.{lit<, lit≤}
use Prim.Native.Nat.{◌+◌}
use Rattle.exact.proofs.Operations.{whole_exact}
use Rattle.exact.proofs.Order.{at_most_cong, double_exact}
use Rattle.exact.proofs.Ranges.{widen}
use Rattle.encounter.proofs.arithmetic.Fitting.{double_of, whole_of}
use Rattle.encounter.proofs.calls.tests.passes_test_23.Goals as goal

pub at_most-requires : goal.at_most-requires
at_most-requires c =
    (widen (lit≤ tt) (double_of c.doubled.ensures c.requires.0), widen (lit≤ tt) (whole_of false _ c.whole.ensures.0 (omega (arith, c.requires.1))))

pub returns : goal.returns
returns c =
    c.at_most.ensures ∙
    rw (c.doubled.ensures, c.whole.ensures.0)
    (at_most_cong _ _ _ _ (double_exact c.args.M) (whole_exact false 32 (c.args.n + 2) (lit< tt) (omega (arith, c.requires.1))))
