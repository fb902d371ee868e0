-- The exact series obeys the steps with no rounding: P(n), V(n) and W(n), the three sums of a step, over (n+1)!.
use mathlib.Core.Path.{◌≡◌, refl}
use mathlib.Core.List.{List, [], ◌∷◌}
use Prim.Native.Nat.{ℕ, zero, suc, ◌*◌, ◌<◌}
use native.Mathlib.Nat.{zero-lt-suc, mul-pos}
use native.Mathlib.Omega.{arith}
use Rattle.exact.specs.Fraction.{Frac, ◌≈◌, ◌⊕◌, ◌⊗◌, ◌÷◌, ◌↑◌, whole}
use Rattle.exact.specs.declared.Encounter.{Encounter}
use Rattle.exact.specs.Series.{factorial, dot, u, h, X, Y, a₀, F_without_Y, F, upto, a, c}
use Rattle.exact.proofs.Fractions.{≈_refl, ≈_sym, ≈_trans, cong, add_cong, mul_cong, mul_assoc, div_add, div_mul, div_cong, div_div, div_twice}
use Rattle.exact.proofs.Convolution.{dot_cong, dot_add, dot_scale, dot_div, p_cons, v_cons, y_cons}

pub factorial_pos : (n : ℕ) → 0 < factorial n
unfolding factorial
factorial_pos zero = zero-lt-suc 0
factorial_pos (suc n) = mul-pos (zero-lt-suc n) (factorial_pos n)

-- p/(n+1)! is p/n!, divided by n + 1
pub factorial_step : (p : Frac) (n : ℕ) → p ÷ factorial (suc n) ≈ p ÷ factorial n ÷ suc n
unfolding factorial
factorial_step p n = ≈_trans (≈_sym (div_twice p (zero-lt-suc n) (factorial_pos n))) (div_div p (suc n) (factorial n))

-- (x + q)/(n+2)! and (x + h × q)/(n+2)!, where q is to be over (n+1)!
one_more : (x q : Frac) (n : ℕ) → (x ⊕ q) ÷ factorial (suc (suc n)) ≈ x ÷ factorial (suc (suc n)) ⊕ q ÷ factorial (suc n) ÷ suc (suc n)
one_more x q n = ≈_trans (div_add x q (factorial (suc (suc n)))) (add_cong (≈_refl _) (factorial_step q (suc n)))

scaled_more : (x h q : Frac) (n : ℕ) → (x ⊕ h ⊗ q) ÷ factorial (suc (suc n)) ≈ x ÷ factorial (suc (suc n)) ⊕ h ⊗ (q ÷ factorial (suc n)) ÷ suc (suc n)
scaled_more x h q n = ≈_trans (one_more x (h ⊗ q) n) (add_cong (≈_refl _) (div_cong (suc (suc n)) (≈_sym (div_mul h q (factorial (suc n))))))

-- ---- F over the list: Y takes the first element alone

split_F : (w x Y r : Frac) → (w ⊕ Y) ⊗ x ⊕ r ≈ w ⊗ x ⊕ r ⊕ Y ⊗ x
unfolding ◌⊕◌ ◌⊗◌
split_F w x Y r = record { eq = omega arith }

F_cons : (E : Encounter) (x : Frac) (l : List Frac) → dot (F E) (x ∷ l) ≈ dot (F_without_Y E) (x ∷ l) ⊕ Y E ⊗ x
unfolding dot F
F_cons E x l = split_F (F_without_Y E 0) x (Y E) (dot (λ k. F_without_Y E (suc k)) l)

F_without_Y_dot : (E : Encounter) (l : List Frac) → dot (F_without_Y E) l ≈ dot (λ k. u E ↑ suc k) l ⊕ h E ⊗ dot (λ k. h E ↑ k) l ÷ 2 ⊕ X E ⊗ dot (λ k. whole (suc k) ⊗ h E ↑ k) l
unfolding F_without_Y
F_without_Y_dot E l =
    grw (
      cong,
      dot_add (λ k. u E ↑ suc k ⊕ h E ↑ suc k ÷ 2) (λ k. X E ⊗ whole (suc k) ⊗ h E ↑ k) l,
      dot_add (λ k. u E ↑ suc k) (λ k. h E ↑ suc k ÷ 2) l,
      dot_div 2 (λ k. h E ↑ suc k) l,
      powers,
      dot_cong (λ k. mul_assoc (X E) (whole (suc k)) (h E ↑ k)) l,
      dot_scale (X E) (λ k. whole (suc k) ⊗ h E ↑ k) l,
    ) (≈_refl _)
  where
    powers : dot (λ k. h E ↑ suc k) l ≈ h E ⊗ dot (λ k. h E ↑ k) l
    powers = unfold ◌↑◌ in dot_scale (h E) (λ k. h E ↑ k) l

module _ (E : Encounter) where
  -- the list that ends in a(n) begins with it
  before : ℕ → List Frac
  before zero = []
  before (suc n) = upto E n

  upto_is : (n : ℕ) → upto E n ≡ a E n ∷ before n
  unfolding upto a before
  upto_is zero = refl
  upto_is (suc n) = refl

  -- the three sums of a step, before the factorial
  p_sum : ℕ → Frac
  p_sum n = dot (λ k. u E ↑ suc k) (upto E n)

  v_sum : ℕ → Frac
  v_sum n = dot (λ k. h E ↑ k) (upto E n)

  y_sum : ℕ → Frac
  y_sum n = dot (λ k. whole (suc k) ⊗ h E ↑ k) (upto E n)

  -- the exact p(n), v(n), y(n)
  pub p : ℕ → Frac
  p n = p_sum n ÷ factorial (suc n)

  pub v : ℕ → Frac
  v n = v_sum n ÷ factorial (suc n)

  pub y : ℕ → Frac
  y n = y_sum n ÷ factorial (suc n)

  pub p_suc : (n : ℕ) → p (suc n) ≈ u E ⊗ (c E (suc n) ⊕ p n ÷ suc (suc n))
  unfolding p p_sum c upto a
  p_suc n = ≈_trans (div_cong (factorial (suc (suc n))) (p_cons (u E) (a E (suc n)) (upto E n))) (≈_trans (≈_sym (div_mul (u E) _ (factorial (suc (suc n))))) (mul_cong (≈_refl (u E)) (one_more _ _ n)))

  pub v_suc : (n : ℕ) → v (suc n) ≈ c E (suc n) ⊕ h E ⊗ v n ÷ suc (suc n)
  unfolding v v_sum c upto a
  v_suc n = ≈_trans (div_cong (factorial (suc (suc n))) (v_cons (h E) (a E (suc n)) (upto E n))) (scaled_more _ (h E) _ n)

  pub y_suc : (n : ℕ) → y (suc n) ≈ v (suc n) ⊕ h E ⊗ y n ÷ suc (suc n)
  unfolding y v v_sum y_sum c upto a
  y_suc n = ≈_trans (div_cong (factorial (suc (suc n))) (y_cons (h E) (a E (suc n)) (upto E n))) (scaled_more _ (h E) _ n)

  pub p_zero : p 0 ≈ u E ⊗ c E 0
  unfolding p p_sum c upto a dot ◌↑◌ factorial ◌⊕◌ ◌⊗◌ ◌÷◌ whole
  p_zero = record { eq = omega arith }

  pub v_zero : v 0 ≈ c E 0
  unfolding v v_sum c upto a dot ◌↑◌ factorial ◌⊕◌ ◌⊗◌ ◌÷◌ whole
  v_zero = record { eq = omega arith }

  pub y_zero : y 0 ≈ c E 0
  unfolding y y_sum c upto a dot ◌↑◌ factorial ◌⊕◌ ◌⊗◌ ◌÷◌ whole
  y_zero = record { eq = omega arith }

  pub c_zero : a₀ E ≈ c E 0
  unfolding c upto a factorial ◌÷◌
  c_zero = record { eq = omega arith }

  F_dot : (n : ℕ) → dot (F E) (upto E n) ≈ p_sum n ⊕ h E ⊗ v_sum n ÷ 2 ⊕ X E ⊗ y_sum n ⊕ Y E ⊗ a E n
  unfolding p_sum v_sum y_sum
  F_dot n =
      let e : dot (F E) (upto E n) ≈ dot (F_without_Y E) (upto E n) ⊕ Y E ⊗ a E n = rw upto_is (F_cons E (a E n) (before n)) in
      ≈_trans e (add_cong (F_without_Y_dot E (upto E n)) (≈_refl _))

  spread : (m : ℕ) (q r s t : Frac) → (q ⊕ h E ⊗ r ÷ 2 ⊕ X E ⊗ s ⊕ Y E ⊗ t) ÷ m ≈ q ÷ m ⊕ h E ⊗ (r ÷ m) ÷ 2 ⊕ X E ⊗ (s ÷ m) ⊕ Y E ⊗ (t ÷ m)
  spread m q r s t =
      grw (cong, div_add, div_add, div_add, div_div (h E ⊗ r) 2 m, ≈_sym (div_mul (h E) r m), ≈_sym (div_mul (X E) s m), ≈_sym (div_mul (Y E) t m)) (≈_refl _)

  pub c_suc : (n : ℕ) → c E (suc n) ≈ (p n ⊕ h E ⊗ v n ÷ 2 ⊕ X E ⊗ y n ⊕ Y E ⊗ c E n) ÷ (suc n * suc (suc n))
  unfolding c p v y upto a
  c_suc n =
      let D = dot (F E) (upto E n) in
      ≈_trans (factorial_step (D ÷ suc n) (suc n))
      (≈_trans (div_cong (suc (suc n)) (div_div D (suc n) (factorial (suc n))))
      (≈_trans (div_twice (D ÷ factorial (suc n)) (zero-lt-suc n) (zero-lt-suc (suc n)))
      (div_cong (suc n * suc (suc n)) (≈_trans (div_cong (factorial (suc n)) (F_dot n)) (spread (factorial (suc n)) (p_sum n) (v_sum n) (y_sum n) (a E n))))))
