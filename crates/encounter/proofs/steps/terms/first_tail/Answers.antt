use mathlib.Core.Bool.{true}
use native.Mathlib.Nat.{zero-lt-suc}
use lib.Dec.{lit≤}
use Rattle.exact.specs.Steps.{next_d}
use Rattle.exact.proofs.Exponents.{in_range}
use Rattle.exact.proofs.Ranges.{widen}
use Rattle.encounter.proofs.steps.terms.first_tail.Goals as goal

pub narrowed-requires : goal.narrowed-requires
unfolding next_d
narrowed-requires c =
    rw (c.next_tail.ensures, c.from.ensures, c.from-2.ensures) (widen (lit≤ tt) ((in_range true).quotient _ (zero-lt-suc _) (lit≤ tt) ((in_range true).product c.requires.1 c.requires.0)))
