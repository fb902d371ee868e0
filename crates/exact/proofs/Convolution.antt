-- Sums of products over the list a(n), .., a(0), and that the list form of a(n+1) is the paper's, with a(n−k) by its index.
use mathlib.Core.Path.{◌≡◌}
use mathlib.Core.List.{List, [], ◌∷◌}
use Prim.Native.Nat.{ℕ, zero, suc, ◌-◌}
use native.Mathlib.Nat.{sub-zero, suc-sub-suc}
use native.Mathlib.Omega.{arith}
use Rattle.exact.specs.Fraction.{Frac, ◌≼◌, ◌≈◌, ◌⊕◌, ◌⊗◌, ◌÷◌, ◌↑◌, whole, sum}
use Rattle.exact.specs.declared.Encounter.{Encounter}
use Rattle.exact.specs.Series.{dot, a₀, F, upto, a}
use Rattle.exact.proofs.Fractions.{≼_refl, ≼_of, ≽_of, antisym, add_mono, mul_mono, ≈_refl, ≈_sym, ≈_trans, cong, add_cong, div_cong, add_assoc, zero_add, add_zero, mul_zero, one_mul, mul_assoc, mul_add, add_mul, div_add}

pub dot_mono : {v w : ℕ → Frac} → ((k : ℕ) → v k ≼ w k) → (l : List Frac) → dot v l ≼ dot w l
unfolding dot
dot_mono h [] = ≼_refl _
dot_mono h (x ∷ l) = add_mono (mul_mono (h 0) (≼_refl x)) (dot_mono (λ k. h (suc k)) l)

pub dot_cong : {v w : ℕ → Frac} → ((k : ℕ) → v k ≈ w k) → (l : List Frac) → dot v l ≈ dot w l
dot_cong h l = antisym (dot_mono (λ k. ≼_of (h k)) l) (dot_mono (λ k. ≽_of (h k)) l)

swap : (a b c d : Frac) → a ⊕ b ⊕ (c ⊕ d) ≈ a ⊕ c ⊕ (b ⊕ d)
unfolding ◌⊕◌
swap a b c d = record { eq = omega arith }

pub dot_add : (v w : ℕ → Frac) (l : List Frac) → dot (λ k. v k ⊕ w k) l ≈ dot v l ⊕ dot w l
unfolding dot
dot_add v w [] = unfold whole ◌⊕◌ in record { eq = omega arith }
dot_add v w (x ∷ l) = grw (cong, dot_add (λ k. v (suc k)) (λ k. w (suc k)) l, add_mul (v 0) (w 0) x) (swap _ _ _ _)

pub dot_scale : (p : Frac) (w : ℕ → Frac) (l : List Frac) → dot (λ k. p ⊗ w k) l ≈ p ⊗ dot w l
unfolding dot
dot_scale p w [] = ≈_sym (mul_zero p)
dot_scale p w (x ∷ l) = grw (cong, dot_scale p (λ k. w (suc k)) l, mul_assoc p (w 0) x) (≈_sym (mul_add _ _ _))

div_left : (p q : Frac) (m : ℕ) → (p ÷ m) ⊗ q ≈ (p ⊗ q) ÷ m
unfolding ◌⊗◌ ◌÷◌
div_left p q m = record { eq = omega arith }

pub dot_div : (m : ℕ) (w : ℕ → Frac) (l : List Frac) → dot (λ k. w k ÷ m) l ≈ dot w l ÷ m
unfolding dot
dot_div m w [] = unfold whole ◌÷◌ in record { eq = omega arith }
dot_div m w (x ∷ l) = grw (cong, dot_div m (λ k. w (suc k)) l, div_left (w 0) x m) (≈_sym (div_add _ _ m))

-- ---- the sums with the weights u^(k+1), h^k and (k+1)h^k, one element longer

p_of : (u x q : Frac) → u ⊗ whole 1 ⊗ x ⊕ u ⊗ q ≈ u ⊗ (x ⊕ q)
unfolding ◌⊕◌ ◌⊗◌ whole
p_of u x q = record { eq = omega arith }

pub p_cons : (u x : Frac) (l : List Frac) → dot (λ k. u ↑ suc k) (x ∷ l) ≈ u ⊗ (x ⊕ dot (λ k. u ↑ suc k) l)
unfolding dot ◌↑◌
p_cons u x l = grw (cong, dot_scale u (λ k. u ↑ suc k) l) (p_of u x _)

pub v_cons : (h x : Frac) (l : List Frac) → dot (λ k. h ↑ k) (x ∷ l) ≈ x ⊕ h ⊗ dot (λ k. h ↑ k) l
unfolding dot ◌↑◌
v_cons h x l = grw (cong, dot_scale h (λ k. h ↑ k) l, one_mul x) (≈_refl _)

y_weight : (h : Frac) (k : ℕ) → whole (suc (suc k)) ⊗ h ↑ suc k ≈ h ⊗ h ↑ k ⊕ h ⊗ (whole (suc k) ⊗ h ↑ k)
unfolding ◌↑◌ ◌⊕◌ ◌⊗◌ whole
y_weight h k = record { eq = omega arith }

y_of : (x s t : Frac) → whole 1 ⊗ whole 1 ⊗ x ⊕ (s ⊕ t) ≈ x ⊕ s ⊕ t
unfolding ◌⊕◌ ◌⊗◌ whole
y_of x s t = record { eq = omega arith }

y_start : (h x : Frac) (l : List Frac)
    → dot (λ k. whole (suc k) ⊗ h ↑ k) (x ∷ l) ≈ whole 1 ⊗ whole 1 ⊗ x ⊕ (h ⊗ dot (λ k. h ↑ k) l ⊕ h ⊗ dot (λ k. whole (suc k) ⊗ h ↑ k) l)
unfolding dot ◌↑◌
y_start h x l =
    grw (
      cong,
      dot_cong (y_weight h) l,
      dot_add (λ k. h ⊗ h ↑ k) (λ k. h ⊗ (whole (suc k) ⊗ h ↑ k)) l,
      dot_scale h (λ k. h ↑ k) l,
      dot_scale h (λ k. whole (suc k) ⊗ h ↑ k) l,
    ) (≈_refl _)

pub y_cons : (h x : Frac) (l : List Frac)
    → dot (λ k. whole (suc k) ⊗ h ↑ k) (x ∷ l) ≈ dot (λ k. h ↑ k) (x ∷ l) ⊕ h ⊗ dot (λ k. whole (suc k) ⊗ h ↑ k) l
y_cons h x l = grw (cong, ← ≈_sym (v_cons h x l)) (≈_trans (y_start h x l) (y_of x _ _))

-- ---- the paper's a(n+1), with indices

sum_cong : {f g : ℕ → Frac} (n : ℕ) → ((k : ℕ) → f k ≡ g k) → sum f n ≈ sum g n
unfolding sum
sum_cong zero h = ≈_refl _
sum_cong {f} {g} (suc n) h = rw (h n) (add_cong (sum_cong n h) (≈_refl (g n)))

-- a sum of n + 1, from its first on
sum_first : (f : ℕ → Frac) (n : ℕ) → sum f (suc n) ≈ f 0 ⊕ sum (λ k. f (suc k)) n
unfolding sum
sum_first f zero = ≈_trans (zero_add _) (≈_sym (add_zero _))
sum_first f (suc n) = ≈_trans (add_cong (sum_first f n) (≈_refl (f (suc n)))) (add_assoc _ _ _)

module _ (E : Encounter) where
  dot_suc : (n : ℕ) (w : ℕ → Frac) → dot w (upto E (suc n)) ≈ w 0 ⊗ a E (suc n - 0) ⊕ dot (λ k. w (suc k)) (upto E n)
  unfolding dot upto a
  dot_suc n w = rw sub-zero (≈_refl _)

  dot_is : (n : ℕ) (w : ℕ → Frac) → dot w (upto E n) ≈ sum (λ k. w k ⊗ a E (n - k)) (suc n)
  dot_is zero w = unfold dot upto a sum in ≈_trans (add_zero (w 0 ⊗ a₀ E)) (≈_sym (zero_add (w 0 ⊗ a₀ E)))
  dot_is (suc n) w =
      ≈_trans (dot_suc n w)
      (≈_trans (add_cong (≈_refl (w 0 ⊗ a E (suc n - 0))) (≈_trans (dot_is n (λ k. w (suc k))) (sum_cong (suc n) (λ k. rw suc-sub-suc))))
      (≈_sym (sum_first (λ k. w k ⊗ a E (suc n - k)) (suc n))))

  -- a(n+1) = (F(0)a(n) + .. + F(n)a(0))/(n+1)
  pub a_suc : (n : ℕ) → a E (suc n) ≈ sum (λ k. F E k ⊗ a E (n - k)) (suc n) ÷ suc n
  unfolding upto a
  a_suc n = div_cong (suc n) (dot_is n (F E))
