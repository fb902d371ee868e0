-- The enclosure: for every accepted encounter, every order N with 2M ≤ N + 2 and every later cut of the two exact sums, their quotient lies between the ends.
use mathlib.Core.Path.{◌≡◌, refl}
use mathlib.Core.Bool.{true, false}
use Prim.Native.Nat.{ℕ, zero, suc, pred, ◌+◌, ◌*◌, ◌≤◌, ◌<◌}
use native.Mathlib.Nat.{mul-le-mul_left, lt_of_mul-lt-mul_right}
use native.Mathlib.Numerals.{add-two}
use native.Mathlib.Omega.{arith}
use lib.Dec.{lit<}
use Rattle.exact.specs.Numbers.{largest_t, exponential_cut}
use Rattle.exact.specs.Fraction.{Frac, ◌≼◌, ◌≈◌, ◌⊕◌, ◌⊗◌, ◌÷◌, ◌⊘◌, ◌↑◌, ◌over◌, whole, sum}
use Rattle.exact.specs.Scaled.{one, value, D, U}
use Rattle.exact.proofs.Rounding.{slack}
use Rattle.exact.specs.declared.Encounter.{Encounter}
use Rattle.exact.specs.Series.{u, g, h, X, Y, t, a₀, factorial, exponential_term, series, exponential, quotient}
use Rattle.exact.specs.Arithmetic.{unrounded, rounded}
use Rattle.exact.specs.Steps.{start, powers, next_power, bound, tail_term, next_d, side_letters, side_start, side_terms, side_powers, sum_to, M, d, tail_bound, exponential_with_tail, exponential_sum, r256, lower_end, upper_end}
use Rattle.exact.specs.Refusals.{refuses_23, Accepted}
use Rattle.exact.proofs.Fractions.{≼_refl, ≼_trans, never_falls, ≼_of, ≽_of, add_mono, mul_mono, div_mono, num_pos, quot_mono, drop_last}
use Rattle.exact.proofs.Rounding.{round_is, round_close}
use Rattle.exact.proofs.Order.{not_above}
use Rattle.exact.proofs.Unrounded.{exact_letters, letters_are, sum_is, powers_are}
use Rattle.exact.proofs.Majorant.{m, exact_d, series_tail, exponential_tail}
use Rattle.exact.proofs.Parallel.{Within, side, exact, of_values, in_order, CloseLetters, letters_close, start_close, terms_close, bound_close, tail_close, powers_close}
use Rattle.exact.proofs.Accepted.{facts}

-- ---- D stays below, U above

pub down : (q : Frac) → value (D q) ≼ q
down q = (round_is false 32 q (lit< tt)).side

pub up : (q : Frac) → q ≼ value (U q)
up q = (round_is true 32 q (lit< tt)).side

pub below : Within (rounded false 32) unrounded (λ w x q. value x ≼ q)
below = of_values (side false 32) exact (in_order (λ p q h. ≼_trans (down p) h))

pub above : Within unrounded (rounded true 32) (λ w q x. q ≼ value x)
above = of_values exact (side true 32) (in_order (λ p q h. ≼_trans h (up q)))

pub one_is : value one ≈ whole 1
unfolding value whole
one_is = record { eq = refl }

-- ---- sums cut later are no less

pub sum_longer : (f : ℕ → Frac) (n n' : ℕ) → n ≤ n' → sum f n ≼ sum f n'
sum_longer f n n' l = never_falls (sum f) (λ k. unfold sum in drop_last _ _) n n' l

pub one_pos : 0 < (whole 1).num
unfolding whole
one_pos = lit< tt

pub exponential_least : (E : Encounter) (K : ℕ) → 0 < K → whole 1 ≼ exponential E K
unfolding exponential
exponential_least E K l = ≼_trans first (sum_longer (exponential_term (t E)) 1 K l)
  where
    first : whole 1 ≼ sum (exponential_term (t E)) 1
    first = unfold sum exponential_term ◌↑◌ factorial ◌⊕◌ ◌÷◌ whole in record { le = omega arith }

pub exponential_pos : (E : Encounter) (K : ℕ) → 0 < K → 0 < (exponential E K).num
exponential_pos E K l = num_pos (exponential_least E K l) one_pos

-- g is at most 1, so h is at most u
shrink : (u g : Frac) → g.num ≤ g.den → u ⊗ g ≼ u
unfolding ◌⊗◌
shrink u g l = record { le = omega (arith, mul-le-mul_left (u.num * u.den) l) }

pub h_le_u : (E : Encounter) → h E ≼ u E
unfolding h g ◌over◌
h_le_u E = shrink (u E) (g E) (omega arith)

-- the majorant's terms by the steps with no rounding
unrounded_d : (c₀ M : Frac) (n : ℕ) → exact_d c₀ M n ≼ tail_term unrounded c₀ M n
unfolding exact_d tail_term next_d unrounded
unrounded_d c₀ M zero = ≼_refl _
unrounded_d c₀ M (suc n) = div_mono (suc (suc n)) (mul_mono (unrounded_d c₀ M n) (≼_refl M))

-- D of what is above 0 is above 0
factor_pos : (p q : Frac) → 0 < (p ⊗ q).num → 0 < p.num
unfolding ◌⊗◌
factor_pos p q l = lt_of_mul-lt-mul_right q.num {m = 0} (omega arith)

pub down_pos : (q : Frac) → 0 < q.num → 0 < (value (D q)).num
down_pos q l = factor_pos _ (slack 31) (num_pos (round_close false 31 q).below l)

pub lower_powers_pos : (E : Encounter) (k : ℕ) → 0 < (value (side_powers false E k).sum).num
unfolding side_powers powers next_power rounded
lower_powers_pos E zero = num_pos (≽_of one_is) one_pos
lower_powers_pos E (suc k) = down_pos _ (num_pos (drop_last _ _) (lower_powers_pos E k))

-- ---- each side against the exact series

module _ (E : Encounter) where
  pub lower_letters : CloseLetters below (side_letters false E) (exact_letters E)
  unfolding side_letters
  lower_letters = rw (← letters_are E) (letters_close below E)

  pub upper_letters : CloseLetters above (exact_letters E) (side_letters true E)
  unfolding side_letters
  upper_letters = rw (← letters_are E) (letters_close above E)

  lower_start : value (side_start false E) ≼ a₀ E
  unfolding side_start unrounded start
  lower_start = start_close below E

  upper_start : a₀ E ≼ value (side_start true E)
  unfolding side_start unrounded start
  upper_start = start_close above E

  lower_sum_le : (n : ℕ) → value (side_terms false E n).sum ≼ series E (suc n)
  unfolding side_terms series
  lower_sum_le n = ≼_trans (terms_close below _ _ lower_letters lower_start n).sum (≼_of (sum_is E n))

  le_upper_sum : (n : ℕ) → series E (suc n) ≼ value (side_terms true E n).sum
  unfolding side_terms series
  le_upper_sum n = ≼_trans (≽_of (sum_is E n)) (terms_close above _ _ upper_letters upper_start n).sum

  pub lower_powers_le : (k : ℕ) → value (side_powers false E k).sum ≼ exponential E (suc k)
  unfolding side_powers exponential
  lower_powers_le k = ≼_trans (powers_close below one _ (whole 1) (t E) (≼_of one_is) lower_letters.t k).sum (≼_of (powers_are (t E) k).sum_is)

  pub le_upper_powers : (k : ℕ) → exponential E (suc k) ≼ value (side_powers true E k).sum
  unfolding side_powers exponential
  le_upper_powers k = ≼_trans (≽_of (powers_are (t E) k).sum_is) (powers_close above (whole 1) (t E) one _ (≽_of one_is) upper_letters.t k).sum

  le_upper_r : (k : ℕ) → exponential_term (t E) k ≼ value (side_powers true E k).r
  unfolding side_powers
  le_upper_r k = ≼_trans (≽_of (powers_are (t E) k).r_is) (powers_close above (whole 1) (t E) one _ (≽_of one_is) upper_letters.t k).r

  pub m_le_M : m (u E) (h E) (X E) (Y E) ≼ value (M E)
  unfolding M m bound unrounded
  m_le_M = bound_close above _ _ upper_letters

  le_d : (N : ℕ) → exact_d (a₀ E) (value (M E)) N ≼ value (d E N)
  unfolding d
  le_d N = ≼_trans (unrounded_d (a₀ E) (value (M E)) N) (tail_close above upper_start (≼_refl _) N)

  -- ---- later cuts

  series_longer : (n N' : ℕ) → n ≤ N' → series E n ≼ series E N'
  unfolding series
  series_longer n N' l = sum_longer _ n N' l

  exponential_longer : (K : ℕ) → exponential_cut ≤ K → exponential E exponential_cut ≼ exponential E K
  unfolding exponential
  exponential_longer K l = sum_longer _ exponential_cut K l

  series_bound : (N N' : ℕ) → whole 2 ⊗ value (M E) ≼ whole (suc (suc N)) → N ≤ N' → series E N' ≼ series E N ⊕ tail_bound E N
  unfolding series tail_bound
  series_bound N N' l k =
      ≼_trans (series_tail E (value (M E)) (h_le_u E) m_le_M N l N' k) (add_mono (≼_refl _) (mul_mono (≼_refl (whole 2)) (le_d N)))

  exponential_bound : (K : ℕ) → exponential_cut ≤ K → value (side_letters true E).t ≼ whole largest_t → exponential E K ≼ exponential E exponential_cut ⊕ whole 2 ⊗ value (side_powers true E exponential_cut).r
  unfolding exponential
  exponential_bound K l t≤ = ≼_trans (exponential_tail (t E) (≼_trans upper_letters.t t≤) K l) (add_mono (≼_refl _) (mul_mono (≼_refl (whole 2)) (le_upper_r exponential_cut)))

  -- ---- the quotient between the ends

  module _ (n N' K : ℕ) (N≤ : suc n ≤ N') (K≤ : exponential_cut ≤ K) where
    lower_end_le : value (side_letters true E).t ≼ whole largest_t → value (lower_end E (suc n)) ≼ series E N' ⊘ exponential E K
    unfolding lower_end sum_to exponential_with_tail exponential_sum r256
    lower_end_le t≤ =
        ≼_trans (down _)
        (quot_mono (≼_trans (lower_sum_le n) (series_longer (suc n) N' N≤))
        (≼_trans (exponential_bound K K≤ t≤) (≼_trans (add_mono (le_upper_powers (pred exponential_cut)) (≼_refl _)) (up _)))
        (exponential_pos E K (omega arith)))

    le_upper_end : whole 2 ⊗ value (M E) ≼ whole (suc (suc (suc n))) → series E N' ⊘ exponential E K ≼ value (upper_end E (suc n))
    unfolding upper_end sum_to exponential_sum
    le_upper_end M≤ =
        ≼_trans
        (quot_mono
        (≼_trans (series_bound (suc n) N' M≤ N≤) (≼_trans (add_mono (le_upper_sum n) (≼_refl _)) (up _)))
        (≼_trans (lower_powers_le (pred exponential_cut)) (exponential_longer K K≤))
        (lower_powers_pos E (pred exponential_cut)))
        (up _)

-- The enclosure. N ≥ 1 is any order with 2M ≤ N + 2; N' and K are the two later cuts, chosen independently.
pub enclosed : {E : Encounter} → Accepted E → (N : ℕ) → 1 ≤ N → refuses_23 E N ≡ false → (N' K : ℕ) → N ≤ N' → exponential_cut ≤ K
    → (value (lower_end E N) ≼ quotient E N' K) × (quotient E N' K ≼ value (upper_end E N))
unfolding quotient
enclosed h zero N₁ r N' K l k = let f : ⊥ = omega arith in absurd f
enclosed {E} h (suc n) N₁ r N' K l k = (lower_end_le E n N' K l k (facts h).t_max, le_upper_end E n N' K l k M≤)
  where
    M≤ : whole 2 ⊗ value (M E) ≼ whole (suc (suc (suc n)))
    M≤ = rw add-two at (not_above (whole 2 ⊗ value (M E)) (whole (suc n + 2)) (unfold refuses_23 in r))
