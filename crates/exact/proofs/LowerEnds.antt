-- More terms do not lower the lower end.
use mathlib.Core.Bool.{false}
use Prim.Native.Nat.{ℕ, zero, suc, pred, ◌≤◌}
use native.Mathlib.Omega.{arith}
use lib.Dec.{lit<}
use Rattle.exact.specs.declared.Encounter.{Encounter}
use Rattle.exact.specs.Fraction.{Frac, ◌≼◌}
use Rattle.exact.specs.Scaled.{value, D, IsScaled}
use Rattle.exact.specs.Arithmetic.{rounded}
use Rattle.exact.specs.Steps.{start, first, next, terms, side_start, side_terms, sum_to, lower_end}
use Rattle.exact.proofs.Fractions.{never_falls, quot_left, drop_last}
use Rattle.exact.proofs.Rounding.{round_is, round_mono}

D_scaled : (q : Frac) → IsScaled 32 (D q)
D_scaled q = (round_is false 32 q (lit< tt)).is_scaled

module _ (E : Encounter) where
  sum_scaled : (n : ℕ) → IsScaled 32 (side_terms false E n).sum
  unfolding side_terms terms first next rounded side_start start
  sum_scaled zero = D_scaled _
  sum_scaled (suc n) = D_scaled _

  -- one term more: the sum so far is a scaled number not above the exact sum, so D of that is not below it
  pub sum_next : (n : ℕ) → value (side_terms false E n).sum ≼ value (side_terms false E (suc n)).sum
  unfolding side_terms terms next rounded
  sum_next n = (round_is false 32 _ (lit< tt)).best _ (sum_scaled n) (drop_last _ _)

  pub lower_end_never_falls : (N N' : ℕ) → N ≤ N' → value (lower_end E N) ≼ value (lower_end E N')
  unfolding lower_end sum_to
  lower_end_never_falls N N' l =
      round_mono false 32 (lit< tt) (quot_left _ (never_falls (λ (n : ℕ). value (side_terms false E n).sum) sum_next (pred N) (pred N') (omega arith)))
