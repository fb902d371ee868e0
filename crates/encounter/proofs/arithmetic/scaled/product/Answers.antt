use lib.Dec.{lit≤}
use Rattle.exact.proofs.Ranges.{widen}
use Rattle.encounter.proofs.arithmetic.Results.{traced_is}
use Rattle.encounter.proofs.arithmetic.Fitting.{product_of}
use Rattle.encounter.proofs.arithmetic.scaled.product.Goals as goal

pub narrowed-requires : goal.narrowed-requires
narrowed-requires c =
    widen (lit≤ tt) (product_of c.args.up (rw (c.from.ensures, c.from-2.ensures) at c.product.ensures.0) c.requires.0 c.requires.1)

pub returns : goal.returns
returns c =
    traced_is c.args.up _ (rw (c.from.ensures, c.from-2.ensures) at c.product.ensures) c.narrowed.ensures
