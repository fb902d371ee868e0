use native.Mathlib.Omega.{arith}
use Rattle.encounter.proofs.arithmetic.Reciprocals.{few, whole_fits}
use Rattle.encounter.proofs.arithmetic.wide.Reciprocal.of.Goals as goal

pub followed-n-requires : goal.followed-n-requires
followed-n-requires c =
    rw c.bits-bits.ensures (omega (arith, few c.args.k c.requires.0 c.requires.1), whole_fits c.args.k c.requires.0 c.requires.1)
