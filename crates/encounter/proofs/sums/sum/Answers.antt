use mathlib.Core.Path.{sym}
use Rattle.encounter.proofs.sums.Limits.{range_of}
use Rattle.encounter.proofs.sums.sum.Goals as goal

pub sum-requires : goal.sum-requires
sum-requires c = (range_of c.args.a (sym c.if-in_limits.ensures), range_of c.args.b (sym c.if-in_limits-2.ensures))
