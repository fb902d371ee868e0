-- At an order that is enough for a whole W not below M, the tail bound is at most 2^-31 of the lower sum.
use mathlib.Core.Path.{◌≡◌}
use mathlib.Core.Bool.{true, false}
use Prim.Native.Nat.{ℕ, zero, suc, pred, ◌+◌, ◌-◌, ◌*◌, ◌^◌, ◌≤◌, ◌<◌}
use native.Mathlib.Nat.{suc-pred-eq_of_pos, pow-succ', mul-pos, zero-lt-suc, mul-le-mul_left}
use native.Mathlib.Numerals.{unary_clauses}
use native.Mathlib.Omega.{arith}
use Rattle.exact.specs.declared.Encounter.{Encounter}
use Rattle.exact.specs.Arithmetic.{unrounded}
use Rattle.exact.specs.Fraction.{Frac, ◌≼◌, ◌⊗◌, ◌÷◌, ◌↑◌, ◌over◌, whole}
use Rattle.exact.specs.Numbers.{largest_order}
use Rattle.exact.specs.Scaled.{value}
use Rattle.exact.specs.Series.{factorial}
use Rattle.exact.specs.Steps.{first, terms, tail_term, next_d, side_start, side_terms, sum_to, M, d, tail_bound}
use Rattle.exact.proofs.Fractions.{≼_refl, ≼_trans, ≼_of, ≽_of, mul_mono, div_mono, never_falls}
use Rattle.exact.proofs.Powers.{near_of, near_more, pow_add, pow_square}
use Rattle.exact.proofs.Parallel.{tail_close}
use Rattle.exact.proofs.Rounding.{slack}
use Rattle.exact.proofs.Closeness.{ρ, one≼ρ, over_exact, start_near}
use Rattle.exact.proofs.LowerEnds.{sum_next}
use Rattle.exact.proofs.ExactTerms.{factorial_pos}
use Rattle.advice.specs.Orders.{tail_odds, Enough}

-- ---- few roundings upwards come to a factor of 2 at most

-- (1 + 1/K)^n is at most K/(K − n)
less : (K r n d : ℕ) → r ≤ K → n * suc r * 1 ≤ K * (d * 1) → (K + 1) * n * r * 1 ≤ K * (K * d * 1)
less K r n d l h = omega (arith, mul-le-mul_left K h, mul-le-mul_left n l)

power_step : (r : ℕ) (x : Frac) → r ≤ 2 ^ 31 → x ⊗ whole (suc r) ≼ whole (2 ^ 31) → ρ ⊗ x ⊗ whole r ≼ whole (2 ^ 31)
unfolding slack whole ◌⊗◌ ◌over◌
power_step r x l h = record { le = less (2 ^ 31) r x.num x.den l h.le }

power_left : (n r : ℕ) → n + r ≡ 2 ^ 31 → ρ ↑ n ⊗ whole r ≼ whole (2 ^ 31)
unfolding ◌↑◌
power_left zero r e = unfold ◌⊗◌ whole in record { le = omega arith }
power_left (suc n) r e = power_step r (ρ ↑ n) (omega arith) (power_left n (suc r) (omega arith))

halve : (x : Frac) (r : ℕ) → 2 ^ 30 ≤ r → x ⊗ whole r ≼ whole (2 ^ 31) → x ≼ whole 2
unfolding ◌⊗◌ whole
halve x r l h = record { le = omega (arith, h.le, mul-le-mul_left x.num l) }

few_roundings : (n : ℕ) → n ≤ 2 ^ 30 → ρ ↑ n ≼ whole 2
few_roundings n l = halve (ρ ↑ n) (2 ^ 31 - n) (omega arith) (power_left n (2 ^ 31 - n) (omega arith))

-- ---- the tail term without rounding

first_form : (c : Frac) → c ≼ c ⊗ 1 over 1
unfolding ◌⊗◌ ◌over◌
first_form c = record { le = omega arith }

next_form : (c : Frac) (W p n f : ℕ) → 0 < f → c ⊗ p over f ⊗ whole W ÷ suc (suc n) ≼ c ⊗ (W * p) over (suc (suc n) * f)
unfolding ◌⊗◌ ◌÷◌ ◌over◌ whole
next_form c W p n f h = record { le = rw (suc-pred-eq_of_pos h, suc-pred-eq_of_pos (mul-pos (zero-lt-suc (suc n)) h)) (omega arith) }

-- c W^n/(n+1)!
exact_tail : (c : Frac) (W n : ℕ) → tail_term unrounded c (whole W) n ≼ c ⊗ (W ^ n) over factorial (suc n)
unfolding tail_term next_d unrounded factorial
exact_tail c W zero = simp unary_clauses (first_form c)
exact_tail c W (suc n) =
    ≼_trans (div_mono (suc (suc n)) (mul_mono (exact_tail c W n) (≼_refl (whole W))))
    (rw (pow-succ' W n) (next_form c W (W ^ n) n (factorial (suc n)) (factorial_pos (suc n))))

-- ---- the tail bound

doubled : (p f : ℕ) → whole 2 ⊗ p over f ≼ (2 * p) over f
unfolding whole ◌⊗◌ ◌over◌
doubled p f = record { le = omega arith }

gather : (c r q w : Frac) → whole 2 ⊗ (c ⊗ r ⊗ q ⊗ w) ≼ whole 2 ⊗ q ⊗ (w ⊗ r) ⊗ c
unfolding ◌⊗◌
gather c r q w = record { le = omega arith }

half_of : (c : Frac) → (1 over tail_odds) ⊗ whole 2 ⊗ c ≼ (1 over (2 ^ 31)) ⊗ c
unfolding ◌⊗◌ ◌over◌ whole
half_of c = record { le = omega arith }

-- the lower c(0) is at most the lower sum
first_term : (E : Encounter) (n : ℕ) → value (side_start false E) ≼ value (side_terms false E n).sum
first_term E n = ≼_trans start (never_falls (λ (k : ℕ). value (side_terms false E k).sum) (sum_next E) 0 n (omega arith))
  where
    start : value (side_start false E) ≼ value (side_terms false E 0).sum
    start = unfold side_terms terms first in ≼_refl _

module _ (E : Encounter) (W N : ℕ) (M≤ : value (M E) ≼ whole W) (h : Enough W N) (N≤ : N ≤ largest_order) where
  q : Frac
  q = (W ^ N) over factorial (suc N)

  c : Frac
  c = value (side_start false E)

  -- `tail_close` counts 8N + 1 roundings upwards
  d_near : value (d E N) ≼ c ⊗ (ρ ⊗ ρ) ↑ 1 ⊗ q ⊗ ρ ↑ (8 * N + 1)
  unfolding d c q
  d_near =
      let near = tail_close over_exact {c₀' = value (side_start true E)} {M' = whole W} (near_more one≼ρ (omega arith) (near_of (≼_refl _))) (near_more one≼ρ (omega arith) (near_of M≤)) N in
      ≼_trans near.near (mul_mono (≼_trans (exact_tail _ W N) (mul_mono (start_near E).near (≼_refl _))) (≼_refl _))

  roundings : ρ ↑ (8 * N + 1) ⊗ (ρ ⊗ ρ) ↑ 1 ≼ whole 2
  roundings =
      ≼_trans (mul_mono (≼_refl _) (≼_of (pow_square ρ 1)))
      (≼_trans (≽_of (pow_add ρ (8 * N + 1) (1 + 1))) (few_roundings (8 * N + 1 + (1 + 1)) (omega arith)))

  pub tail_small : tail_bound E N ≼ (1 over (2 ^ 31)) ⊗ value (sum_to false E N)
  unfolding tail_bound sum_to q c
  tail_small =
      ≼_trans (mul_mono (≼_refl (whole 2)) d_near)
      (≼_trans (gather c ((ρ ⊗ ρ) ↑ 1) q (ρ ↑ (8 * N + 1)))
      (≼_trans (mul_mono (mul_mono (≼_trans (doubled (W ^ N) (factorial (suc N))) h.small) roundings) (first_term E (pred N))) (half_of _)))
