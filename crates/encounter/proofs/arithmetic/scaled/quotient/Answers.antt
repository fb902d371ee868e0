use lib.Dec.{lit≤}
use Rattle.exact.proofs.Ranges.{widen}
use Rattle.encounter.proofs.arithmetic.Results.{traced_is}
use Rattle.encounter.proofs.arithmetic.Fitting.{quotient_of}
use Rattle.encounter.proofs.arithmetic.scaled.quotient.Goals as goal

pub narrowed-requires : goal.narrowed-requires
narrowed-requires c =
    widen (lit≤ tt) (quotient_of c.args.up (rw (c.from.ensures, c.from-2.ensures) at c.quotient.ensures.0) c.requires.0 c.requires.1 c.requires.2)

pub returns : goal.returns
returns c =
    traced_is c.args.up _ (rw (c.from.ensures, c.from-2.ensures) at c.quotient.ensures) c.narrowed.ensures
