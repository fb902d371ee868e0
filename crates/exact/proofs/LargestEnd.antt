-- No lower end of an accepted encounter is above 2^778: R is at most 10,000,000, sx and sy are at least 1, and by test 11 M is at most (largest order + 2)/2, which is 513.
-- The majorant's terms at these bounds are summed, each taken up to a whole number.
use mathlib.Core.Path.{◌≡◌}
use mathlib.Core.Bool.{false}
use Prim.Native.Nat.{ℕ, zero, suc, ◌+◌, ◌*◌, ◌/◌, ◌^◌, ◌≤◌}
use native.Mathlib.Bridge.{le_by_compare, IsLe}
use native.Mathlib.Nat.{mul-le-mul, zero-lt-suc, div-add-mod', mod-lt}
use native.Mathlib.Omega.{arith}
use lib.Dec.{lit<}
use Rattle.exact.specs.declared.Encounter.{Encounter}
use Rattle.exact.specs.Fraction.{Frac, ◌≼◌, ◌⊕◌, ◌⊗◌, ◌÷◌, ◌⊘◌, ◌over◌, whole, sum}
use Rattle.exact.specs.Numbers.{largest_length, largest_order, exponential_cut}
use Rattle.exact.specs.Scaled.{value}
use Rattle.exact.specs.Series.{a₀, c, series, quotient}
use Rattle.exact.specs.Steps.{M, lower_end}
use Rattle.exact.specs.Private.Ranges.{Bounds}
use Rattle.exact.specs.Refusals.{refuses_11, refuses_23, Accepted}
use Rattle.exact.proofs.Fractions.{≼_refl, ≼_trans, add_mono, mul_mono, mono, whole_mono, sum_mono, quot_mono}
use Rattle.exact.proofs.Order.{not_above}
use Rattle.exact.proofs.Accepted.{facts}
use Rattle.exact.proofs.Majorant.{exact_d, c_le_d, series_tail}
use Rattle.exact.proofs.Enclosure.{sum_longer, one_pos, exponential_least, h_le_u, m_le_M, enclosed}

-- ---- the majorant at the largest c(0) and M, in whole numbers

-- a bound of a(0), and one of M
abbrev most_start : ℕ
most_start = largest_length * largest_length

abbrev most_M : ℕ
most_M = largest_order / 2 + 1

-- the bound of the lower ends is 2 to this
abbrev pub most_bits : ℕ
most_bits = 778

-- of d(n), and of the sum of d(0) to d(n−1)
pub record Most : Type 0 where
  pub term : ℕ
  pub total : ℕ

unfoldable most : ℕ → Most
most zero = record { term = most_start; total = 0 }
most (suc n) = let w = most n in record { term = suc (w.term * most_M / suc (suc n)); total = w.total + w.term }

-- the sum to the largest order, and twice the next term
total_is : (most largest_order).total + 2 * (most largest_order).term ≤ 2 ^ most_bits
unfolding most IsLe
total_is = le_by_compare _ _ tt

-- ---- it bounds the majorant

taken_up : (w k : ℕ) → whole w ÷ suc k ≼ whole (suc (w / suc k))
unfolding ◌÷◌ whole
taken_up w k = record { le = omega (arith, div-add-mod' w (suc k), mod-lt w (zero-lt-suc k)) }

product_whole : (v w : ℕ) → whole v ⊗ whole w ≼ whole (v * w)
unfolding ◌⊗◌ whole
product_whole v w = record { le = omega arith }

sum_whole : (v w : ℕ) → whole v ⊕ whole w ≼ whole (v + w)
unfolding ◌⊕◌ whole
sum_whole v w = record { le = omega arith }

module _ (c₀ m : Frac) (c≤ : c₀ ≼ whole most_start) (m≤ : m ≼ whole most_M) where
  term_le : (n : ℕ) → exact_d c₀ m n ≼ whole (most n).term
  unfolding exact_d most
  term_le zero = c≤
  term_le (suc n) = grw (mono, term_le n, m≤, product_whole) (taken_up _ _)

  total_le : (n : ℕ) → sum (exact_d c₀ m) n ≼ whole (most n).total
  unfolding sum most
  total_le zero = ≼_refl _
  total_le (suc n) = grw (mono, total_le n, term_le n) (sum_whole _ _)

-- ---- an accepted encounter

over_one : (p : Frac) → p ⊘ whole 1 ≼ p
unfolding ◌⊘◌ whole
over_one p = record { le = omega arith }

start_most : (E : Encounter) → Bounds E → a₀ E ≼ whole most_start
unfolding a₀ ◌over◌ whole
start_most E b = record { le = mul-le-mul (mul-le-mul b.R_max b.R_max) (zero-lt-suc _) }

M_most : (m : Frac) → whole 2 ⊗ m ≼ whole (largest_order + 2) → m ≼ whole most_M
unfolding ◌⊗◌ whole
M_most m h = record { le = omega (arith, h.le) }

module _ {E : Encounter} (h : Accepted E) where
  twice_M : whole 2 ⊗ value (M E) ≼ whole (largest_order + 2)
  unfolding refuses_11
  twice_M = not_above _ _ (facts h).readable

  -- the exact series, wherever it is cut
  series_most : (N : ℕ) → series E N ≼ whole (2 ^ most_bits)
  unfolding series
  series_most N =
      ≼_trans (sum_longer (c E) N (largest_order + N) (omega arith))
      (≼_trans (series_tail E (value (M E)) (h_le_u E) (m_le_M E) largest_order twice_M (largest_order + N) (omega arith))
      (≼_trans (add_mono (≼_trans (sum_mono largest_order (c_le_d E (value (M E)) (h_le_u E) (m_le_M E))) (total_le _ _ start M≤ largest_order)) (mul_mono (≼_refl (whole 2)) (term_le _ _ start M≤ largest_order)))
      (≼_trans (add_mono (≼_refl _) (product_whole _ _)) (≼_trans (sum_whole _ _) (whole_mono total_is)))))
    where
      start : a₀ E ≼ whole most_start
      start = start_most E (facts h).bounds

      M≤ : value (M E) ≼ whole most_M
      M≤ = M_most _ twice_M

  pub lower_end_most : (N : ℕ) → 1 ≤ N → refuses_23 E N ≡ false → value (lower_end E N) ≼ whole (2 ^ most_bits)
  unfolding quotient
  lower_end_most N N₁ r = ≼_trans (enclosed h N N₁ r N exponential_cut (omega arith) (omega arith)).0 (≼_trans (quot_mono (≼_refl _) (exponential_least E exponential_cut (lit< tt)) one_pos) (≼_trans (over_one _) (series_most N)))
