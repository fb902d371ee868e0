use mathlib.Core.Path.{sym}
use Rattle.encounter.proofs.sums.Limits.{range_of}
use Rattle.encounter.proofs.sums.greater.Goals as goal

pub at_most-requires : goal.at_most-requires
at_most-requires c = (range_of c.args.a (sym c.if-in_limits.ensures), range_of c.args.b (sym c.if-in_limits-2.ensures))
