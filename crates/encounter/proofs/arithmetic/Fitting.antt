-- Ranges of results, from what a call promised of them.
use mathlib.Core.Path.{◌≡◌}
use mathlib.Core.Bool.{Bool}
use Prim.Native.Nat.{ℕ, ◌+◌, ◌^◌, ◌≤◌, ◌<◌}
use native.Mathlib.Omega.{arith}
use lib.Dec.{lit<}
use Rattle.exact.specs.declared.Scaled.{Scaled}
use Rattle.exact.specs.Fraction.{◌⊕◌, ◌⊗◌, ◌÷◌, ◌⊘◌, ◌over◌, whole}
use Rattle.exact.specs.Scaled.{value, half, double, Normal}
use Rattle.exact.specs.Private.Ranges.{InRange}
use Rattle.exact.specs.Private.Round.{round}
use Rattle.exact.proofs.Ranges.{product_range, sum_range, over_range, per_range, fraction_range, ratio_range, half_range, double_range}

module _ (up : Bool) where
  pub product_of : {A B : ℕ} {a b r : Scaled} → r ≡ round up 32 (value a ⊗ value b) → InRange 32 A a → InRange 32 B b → InRange 32 (A + B + 32 + 1) r
  product_of e h k = rw e (product_range up 32 (lit< tt) h k)

  pub sum_of : {A : ℕ} {a b r : Scaled} → r ≡ round up 32 (value a ⊕ value b) → InRange 32 A a → InRange 32 A b → InRange 32 (A + 1 + 1) r
  sum_of e h k = rw e (sum_range up 32 (lit< tt) h k)

  pub over_of : {A : ℕ} {a r : Scaled} (k : ℕ) → r ≡ round up 32 (value a ÷ k) → 0 < k → k ≤ 2 ^ 32 → InRange 32 A a → InRange 32 (A + 32 + 1) r
  over_of k e p l h = rw e (over_range up 32 (lit< tt) k p l h)

  pub quotient_of : {A B : ℕ} {a b r : Scaled} → r ≡ round up 32 (value a ⊘ value b) → InRange 32 A a → InRange 32 B b → Normal 32 b → InRange 32 (A + B + 32 + 1) r
  quotient_of e h k n = rw e (per_range up 32 (lit< tt) h k n)

  pub ratio_of : (n d : ℕ) {r : Scaled} → r ≡ round up 32 (n over d) → n < 2 ^ 48 → d < 2 ^ 48 → 0 < d → InRange 32 177 r
  ratio_of n d e nl dl dp = rw e (ratio_range up 32 (lit< tt) 48 n d nl dl dp)

  pub whole_of : (n : ℕ) {r : Scaled} → r ≡ round up 32 (whole n) → n < 2 ^ 32 → InRange 32 177 r
  unfolding whole
  whole_of n e l = rw e (fraction_range up 32 (lit< tt) 48 (whole n) (omega arith) (lit< tt))

pub half_of : {A : ℕ} {a r : Scaled} → r ≡ half a → InRange 32 A a → InRange 32 (A + 1) r
half_of e h = rw e (half_range h)

pub double_of : {A : ℕ} {a r : Scaled} → r ≡ double a → InRange 32 A a → InRange 32 (A + 1) r
double_of e h = rw e (double_range h)
