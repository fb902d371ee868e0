use native.Mathlib.Omega.{arith}
use lib.Dec.{lit≤}
use Rattle.exact.proofs.Ranges.{widen}
use Rattle.encounter.proofs.arithmetic.Fitting.{over_of}
use Rattle.encounter.proofs.arithmetic.Results.{traced_is}
use Rattle.encounter.proofs.arithmetic.scaled.over.Goals as goal

pub narrowed-requires : goal.narrowed-requires
narrowed-requires c =
    widen (lit≤ tt) (over_of c.args.up _ (rw c.from.ensures at c.over.ensures.0) c.requires.1 (omega (arith, c.requires.2)) c.requires.0)

pub returns : goal.returns
returns c = traced_is c.args.up _ (rw c.from.ensures at c.over.ensures) c.narrowed.ensures
