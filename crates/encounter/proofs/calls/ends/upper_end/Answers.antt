use lib.Dec.{lit≤}
use mathlib.Core.Bool.{true}
use Rattle.exact.proofs.Ranges.{widen}
use Rattle.encounter.proofs.arithmetic.Fitting.{sum_of, double_of}
use Rattle.encounter.proofs.arithmetic.Results.{number_of}
use Rattle.encounter.proofs.calls.ReadNumbers.{d_fine, lower_exponential_fine, upper_sum_fine, lower_exponential_normal, upper_end_is}
use Rattle.encounter.proofs.calls.ends.upper_end.Goals as goal

pub doubled-requires : goal.doubled-requires
doubled-requires c = widen (lit≤ tt) (d_fine c.args.s c.requires)

pub sum-over-requires : goal.sum-over-requires
sum-over-requires c =
    (widen (lit≤ tt) (upper_sum_fine c.args.s c.requires), widen (lit≤ tt) (double_of c.doubled.ensures (d_fine c.args.s c.requires)))

pub quotient-requires : goal.quotient-requires
quotient-requires c =
    let y = double_of c.doubled.ensures (d_fine c.args.s c.requires) in (
      widen (lit≤ tt) (sum_of true (number_of true _ _ c.sum-over.ensures) (widen (lit≤ tt) (upper_sum_fine c.args.s c.requires)) y),
      widen (lit≤ tt) (lower_exponential_fine c.args.s c.requires),
      lower_exponential_normal c.args.s c.requires,
    )

pub returns : goal.returns
returns c =
    upper_end_is c.args.s c.requires c.doubled.ensures (number_of true _ _ c.sum-over.ensures) (number_of true _ _ c.quotient.ensures)
