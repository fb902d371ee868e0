-- With h at most u, F(k) is at most m^(k+1) for m = u + h/2 + X + Y; so c(n) is at most c(0) m^n/(n+1)!, and the tails of both sums are bounded.
use Prim.Native.Nat.{ℕ, zero, suc, ◌+◌, ◌≤◌}
use native.Mathlib.Nat.{add-suc, add-zero as plus_zero, le-add_right, le_dest}
use native.Mathlib.Omega.{arith}
use Rattle.exact.specs.Fraction.{Frac, ◌≼◌, ◌≈◌, ◌⊕◌, ◌⊗◌, ◌÷◌, ◌↑◌, whole, sum}
use Rattle.exact.specs.declared.Encounter.{Encounter}
use Rattle.exact.specs.Numbers.{largest_t, exponential_cut}
use Rattle.exact.specs.Series.{factorial, dot, u, h, X, Y, a₀, F_without_Y, F, upto, a, c, exponential_term}
use Rattle.exact.proofs.Fractions.{≼_refl, ≼_trans, ≼_of, ≽_of, add_mono, mul_mono, div_mono, pow_mono, mono, ≈_refl, ≈_sym, ≈_trans, cong, div_cong, mul_assoc, mul_add, drop_last, whole_mono}
use Rattle.exact.proofs.ExactTerms.{factorial_step}
use Rattle.exact.proofs.Unrounded.{power_step}

-- ---- F(k) is at most m^(k+1)

-- u^(k+1) + (k+1)u^k w is at most (u + w)^(k+1)
binomial_step : (k : ℕ) (u w q : Frac) → u ⊗ (u ⊗ q) ⊕ whole (suc (suc k)) ⊗ (u ⊗ q ⊗ w) ≼ (u ⊕ w) ⊗ (u ⊗ q ⊕ whole (suc k) ⊗ (q ⊗ w))
unfolding ◌⊕◌ ◌⊗◌ whole
binomial_step k u w q = record { le = omega arith }

binomial : (u w : Frac) (k : ℕ) → u ↑ suc k ⊕ whole (suc k) ⊗ (u ↑ k ⊗ w) ≼ (u ⊕ w) ↑ suc k
unfolding ◌↑◌
binomial u w zero = unfold ◌⊕◌ ◌⊗◌ whole in record { le = omega arith }
binomial u w (suc k) = ≼_trans (binomial_step k u w (u ↑ k)) (mul_mono (≼_refl _) (binomial u w k))

-- m = u + h/2 + X + Y
unfoldable pub m : (u h X Y : Frac) → Frac
m u h X Y = u ⊕ h ÷ 2 ⊕ X ⊕ Y

half_le : (k : ℕ) (h q : Frac) → h ⊗ q ÷ 2 ≼ whole (suc k) ⊗ (q ⊗ (h ÷ 2))
unfolding ◌⊗◌ ◌÷◌ whole
half_le k h q = record { le = omega arith }

inner : (k : ℕ) (X q : Frac) → X ⊗ whole (suc k) ⊗ q ≼ whole (suc k) ⊗ (q ⊗ X)
unfolding ◌⊗◌ whole
inner k X q = record { le = omega arith }

nest : (p q r s : Frac) → p ⊕ q ⊕ r ⊕ s ≼ p ⊕ (q ⊕ r ⊕ s)
unfolding ◌⊕◌
nest p q r s = record { le = omega arith }

spread : (s q x y z : Frac) → s ⊗ (q ⊗ x) ⊕ s ⊗ (q ⊗ y) ⊕ s ⊗ (q ⊗ z) ≈ s ⊗ (q ⊗ (x ⊕ y ⊕ z))
spread s q x y z = ≈_sym (grw (cong, mul_add q (x ⊕ y) z, mul_add q x y, mul_add s, mul_add s) (≈_refl _))

gather : (k : ℕ) (u h X Y q : Frac)
    → u ⊗ q ⊕ h ⊗ q ÷ 2 ⊕ X ⊗ whole (suc k) ⊗ q ⊕ whole (suc k) ⊗ (q ⊗ Y) ≼ u ⊗ q ⊕ whole (suc k) ⊗ (q ⊗ (h ÷ 2 ⊕ X ⊕ Y))
gather k u h X Y q = grw (mono, half_le k h q, inner k X q, nest, ≼_of (spread (whole (suc k)) q (h ÷ 2) X Y)) (≼_refl _)

m_assoc : (u h X Y : Frac) → u ⊕ (h ÷ 2 ⊕ X ⊕ Y) ≼ m u h X Y
unfolding m ◌⊕◌ ◌⊗◌ ◌÷◌ whole
m_assoc u h X Y = record { le = omega arith }

-- F(k) with Y in every place
F_wide : (E : Encounter) (k : ℕ) → F E k ≼ F_without_Y E k ⊕ whole (suc k) ⊗ (u E ↑ k ⊗ Y E)
unfolding F ◌↑◌
F_wide E zero = add_mono (≼_refl _) (unfold ◌⊗◌ whole in record { le = omega arith })
F_wide E (suc k) = unfold ◌⊕◌ in record { le = omega arith }

pub F_le : (E : Encounter) → h E ≼ u E → (k : ℕ) → F E k ≼ m (u E) (h E) (X E) (Y E) ↑ suc k
F_le E l k =
    ≼_trans (F_wide E k)
    (≼_trans raised (≼_trans (gather k (u E) (h E) (X E) (Y E) (u E ↑ k)) (≼_trans power (pow_mono (suc k) (m_assoc (u E) (h E) (X E) (Y E))))))
  where
    raised : F_without_Y E k ⊕ whole (suc k) ⊗ (u E ↑ k ⊗ Y E) ≼ u E ⊗ u E ↑ k ⊕ h E ⊗ u E ↑ k ÷ 2 ⊕ X E ⊗ whole (suc k) ⊗ u E ↑ k ⊕ whole (suc k) ⊗ (u E ↑ k ⊗ Y E)
    raised = unfold F_without_Y ◌↑◌ in grw (mono, pow_mono k l, pow_mono k l) (≼_refl _)

    power : u E ⊗ u E ↑ k ⊕ whole (suc k) ⊗ (u E ↑ k ⊗ (h E ÷ 2 ⊕ X E ⊕ Y E)) ≼ (u E ⊕ (h E ÷ 2 ⊕ X E ⊕ Y E)) ↑ suc k
    power = unfold ◌↑◌ in binomial (u E) (h E ÷ 2 ⊕ X E ⊕ Y E) k

-- ---- a(n) is at most a(0)M^n

one_step : (q x s : Frac) → q ⊗ whole 1 ⊗ x ⊕ s ≼ q ⊗ x ⊕ s
unfolding ◌⊕◌ ◌⊗◌ whole
one_step q x s = record { le = omega arith }

more : (n : ℕ) (q a₀ M r : Frac) → q ⊗ (a₀ ⊗ (M ⊗ r)) ⊕ whole (suc n) ⊗ (q ⊗ M ⊗ (a₀ ⊗ r)) ≼ whole (suc (suc n)) ⊗ (q ⊗ (a₀ ⊗ (M ⊗ r)))
unfolding ◌⊕◌ ◌⊗◌ whole
more n q a₀ M r = record { le = omega arith }

cancel : (n : ℕ) (M a₀ r : Frac) → whole (suc n) ⊗ (M ⊗ (a₀ ⊗ r)) ÷ suc n ≼ a₀ ⊗ (M ⊗ r)
unfolding ◌⊗◌ ◌÷◌ whole
cancel n M a₀ r = record { le = omega arith }

last : (q x : Frac) → q ⊗ whole 1 ⊗ x ⊕ whole 0 ≼ whole 1 ⊗ (q ⊗ (x ⊗ whole 1))
unfolding ◌⊕◌ ◌⊗◌ whole
last q x = record { le = omega arith }

module _ (E : Encounter) (M : Frac) (F≼ : (k : ℕ) → F E k ≼ M ⊗ M ↑ k) where
  dot_le : (n : ℕ) (w : ℕ → Frac) (q : Frac) → ((k : ℕ) → w k ≼ q ⊗ M ↑ k) → dot w (upto E n) ≼ whole (suc n) ⊗ (q ⊗ (a₀ E ⊗ M ↑ n))
  unfolding upto dot ◌↑◌
  dot_le zero w q l = grw (mono, l 0) (last q (a₀ E))
  dot_le (suc n) w q l =
      grw (mono, dot_le n (λ k. w (suc k)) (q ⊗ M) (λ k. ≼_trans (l (suc k)) (≽_of (mul_assoc q M (M ↑ k)))), l 0, one_step, dot_le n (F E) M F≼, cancel) (more n q (a₀ E) M (M ↑ n))

  a_le : (n : ℕ) → a E n ≼ a₀ E ⊗ M ↑ n
  unfolding upto a ◌↑◌
  a_le zero = unfold ◌⊗◌ whole in record { le = omega arith }
  a_le (suc n) = grw (mono, dot_le n (F E) M F≼) (cancel n M (a₀ E) (M ↑ n))

-- ---- the majorant's terms, d(0) = c, d(n) = d(n−1) × M/(n+1), with no rounding

unfoldable pub exact_d : (c M : Frac) → ℕ → Frac
exact_d c M zero = c
exact_d c M (suc n) = exact_d c M n ⊗ M ÷ suc (suc n)

pub exact_d_mono : {c c' : Frac} (M : Frac) (n : ℕ) → c ≼ c' → exact_d c M n ≼ exact_d c' M n
unfolding exact_d
exact_d_mono M zero h = h
exact_d_mono M (suc n) h = div_mono (suc (suc n)) (mul_mono (exact_d_mono M n h) (≼_refl M))

slide : (a₀ M r : Frac) → a₀ ⊗ (M ⊗ r) ≈ a₀ ⊗ r ⊗ M
unfolding ◌⊗◌
slide a₀ M r = record { eq = omega arith }

div_left : (p q : Frac) (n : ℕ) → (p ⊗ q) ÷ n ≈ p ÷ n ⊗ q
unfolding ◌⊗◌ ◌÷◌
div_left p q n = record { eq = omega arith }

power_d : (a₀ M : Frac) (n : ℕ) → (a₀ ⊗ M ↑ n) ÷ factorial (suc n) ≼ exact_d a₀ M n
unfolding exact_d ◌↑◌
power_d a₀ M zero = unfold ◌⊗◌ ◌÷◌ whole factorial in record { le = omega arith }
power_d a₀ M (suc n) =
    ≼_trans (≼_of (factorial_step (a₀ ⊗ (M ⊗ M ↑ n)) (suc n)))
    (div_mono (suc (suc n))
    (≼_trans (≼_of (≈_trans (div_cong (factorial (suc n)) (slide a₀ M (M ↑ n))) (div_left (a₀ ⊗ M ↑ n) M (factorial (suc n))))) (mul_mono (power_d a₀ M n) (≼_refl M))))

-- ---- a sum whose terms at least halve from N on

twice : (s d : Frac) → s ⊕ d ⊕ d ≼ s ⊕ whole 2 ⊗ d
unfolding ◌⊕◌ ◌⊗◌ whole
twice s d = record { le = omega arith }

module _ (c d : ℕ → Frac) (N : ℕ) (below : (k : ℕ) → c k ≼ d k) (halves : (k : ℕ) → N ≤ k → whole 2 ⊗ d (suc k) ≼ d k) where
  tail_step : (j : ℕ) → sum c (N + j) ⊕ whole 2 ⊗ d (N + j) ≼ sum c N ⊕ whole 2 ⊗ d N
  unfolding sum
  tail_step zero = rw plus_zero (≼_refl _)
  tail_step (suc j) =
      rw add-suc (≼_trans (grw (mono, below (N + j), halves (N + j) (le-add_right N j)) (twice (sum c (N + j)) (d (N + j)))) (tail_step j))

  tail : (N' : ℕ) → N ≤ N' → sum c N' ≼ sum c N ⊕ whole 2 ⊗ d N
  tail N' l = let (j, e) = le_dest l in rw (← e) (≼_trans (drop_last _ _) (tail_step j))

halving_form : (x t : Frac) (k : ℕ) → whole 2 ⊗ (x ⊗ t ÷ suc k) ≼ x ⊗ (whole 2 ⊗ t) ÷ suc k
unfolding ◌⊗◌ ◌÷◌ whole
halving_form x t k = record { le = omega arith }

whole_cancel : (x : Frac) (k : ℕ) → x ⊗ whole (suc k) ÷ suc k ≼ x
unfolding ◌⊗◌ ◌÷◌ whole
whole_cancel x k = record { le = omega arith }

-- 2t at most k + 1: then x × t/(k+1) is at most half of x
halving : (x t : Frac) (k K : ℕ) → whole 2 ⊗ t ≼ whole K → K ≤ suc k → whole 2 ⊗ (x ⊗ t ÷ suc k) ≼ x
halving x t k K l b = ≼_trans (halving_form x t k) (grw (mono, l, whole_mono b) (whole_cancel x k))

module _ (E : Encounter) (M : Frac) (h≼u : h E ≼ u E) (m≼M : m (u E) (h E) (X E) (Y E) ≼ M) where
  F≼M : (k : ℕ) → F E k ≼ M ⊗ M ↑ k
  unfolding ◌↑◌
  F≼M k = ≼_trans (F_le E h≼u k) (pow_mono (suc k) m≼M)

  -- c(n) is at most d(n)
  pub c_le_d : (n : ℕ) → c E n ≼ exact_d (a₀ E) M n
  unfolding c
  c_le_d n = ≼_trans (div_mono (factorial (suc n)) (a_le E M F≼M n)) (power_d (a₀ E) M n)

  -- where 2M is at most N + 2, the terms from N on come to at most 2d(N), wherever they are cut
  pub series_tail : (N : ℕ) → whole 2 ⊗ M ≼ whole (suc (suc N)) → (N' : ℕ) → N ≤ N' → sum (c E) N' ≼ sum (c E) N ⊕ whole 2 ⊗ exact_d (a₀ E) M N
  unfolding exact_d
  series_tail N l = tail (c E) (exact_d (a₀ E) M) N c_le_d (λ k b. halving (exact_d (a₀ E) M k) M (suc k) (suc (suc N)) l (omega arith))

-- where t is at most 64, the exponential's terms from 256 on come to at most 2t^256/256!, wherever they are cut
pub exponential_tail : (t : Frac) → t ≼ whole largest_t → (K : ℕ) → exponential_cut ≤ K → sum (exponential_term t) K ≼ sum (exponential_term t) exponential_cut ⊕ whole 2 ⊗ exponential_term t exponential_cut
exponential_tail t l =
    tail (exponential_term t) (exponential_term t) exponential_cut (λ k. ≼_refl _) (λ k b. grw (mono, ≼_of (power_step t k)) (halving (exponential_term t k) t k 128 doubled (omega arith)))
  where
    doubled : whole 2 ⊗ t ≼ whole 128
    doubled = unfold ◌⊗◌ whole in record { le = omega (arith, l.le) }
