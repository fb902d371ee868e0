use lib.Dec.{lit≤}
use mathlib.Core.Bool.{true, false}
use Rattle.exact.proofs.Ranges.{widen}
use Rattle.encounter.proofs.arithmetic.Fitting.{sum_of, double_of}
use Rattle.encounter.proofs.arithmetic.Results.{number_of}
use Rattle.encounter.proofs.calls.ReadNumbers.{r256_fine, upper_exponential_fine, lower_sum_fine, divisor_normal, lower_end_is}
use Rattle.encounter.proofs.calls.ends.lower_end.Goals as goal

pub doubled-requires : goal.doubled-requires
doubled-requires c = widen (lit≤ tt) (r256_fine c.args.s c.requires)

pub sum-under-requires : goal.sum-under-requires
sum-under-requires c =
    (widen (lit≤ tt) (upper_exponential_fine c.args.s c.requires), widen (lit≤ tt) (double_of c.doubled.ensures (r256_fine c.args.s c.requires)))

pub quotient-requires : goal.quotient-requires
quotient-requires c =
    let y = double_of c.doubled.ensures (r256_fine c.args.s c.requires) in (
      widen (lit≤ tt) (lower_sum_fine c.args.s c.requires),
      widen (lit≤ tt) (sum_of true (number_of true _ _ c.sum-under.ensures) (widen (lit≤ tt) (upper_exponential_fine c.args.s c.requires)) y),
      divisor_normal c.args.s c.requires c.doubled.result (number_of true _ _ c.sum-under.ensures),
    )

pub returns : goal.returns
returns c =
    lower_end_is c.args.s c.requires c.doubled.ensures (number_of true _ _ c.sum-under.ensures) (number_of false _ _ c.quotient.ensures)
