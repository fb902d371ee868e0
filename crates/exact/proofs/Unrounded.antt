-- The steps with no rounding are the exact series and the exact exponential.
use mathlib.Core.Path.{◌≡◌, refl}
use Prim.Native.Nat.{ℕ, zero, suc}
use native.Mathlib.Omega.{arith}
use Rattle.exact.specs.Fraction.{Frac, ◌≈◌, ◌⊕◌, ◌⊗◌, ◌÷◌, ◌↑◌, whole, sum}
use Rattle.exact.specs.declared.Encounter.{Encounter}
use Rattle.exact.specs.Series.{u, h, X, Y, t, a₀, factorial, c, exponential_term, F_without_Y, F}
use Rattle.exact.specs.Arithmetic.{unrounded}
use Rattle.exact.specs.Steps.{bound, LettersOf, TermsOf, PowersOf, letters, first, next_c, next_p, next_v, next_y, next, terms, next_power, powers}
use Rattle.exact.proofs.Fractions.{≈_refl, ≈_sym, ≈_trans, cong, add_cong, mul_cong, div_cong, zero_add, mul_comm, div_mul}
use Rattle.exact.proofs.ExactTerms.{p, v, y, p_zero, v_zero, y_zero, c_zero, p_suc, v_suc, y_suc, c_suc, factorial_step}

-- the exact letters of an encounter
abbrev pub exact_letters : Encounter → LettersOf Frac
exact_letters E = record { u = u E; h = h E; X = X E; Y = Y E; t = t E }

pub letters_are : (E : Encounter) → letters unrounded E ≡ exact_letters E
unfolding letters unrounded h X Y t
letters_are E = refl

module _ (E : Encounter) where
  record Same (n : ℕ) (s : TermsOf Frac) : Type 0 where
    c_is : s.c ≈ c E n
    p_is : s.p ≈ p E n
    v_is : s.v ≈ v E n
    y_is : s.y ≈ y E n
    sum_is : s.sum ≈ sum (c E) (suc n)

  next_is : (n : ℕ) (s : TermsOf Frac) → Same n s → Same (suc n) (next unrounded (exact_letters E) n s)
  unfolding next next_c next_p next_v next_y unrounded sum
  next_is n s k =
      let c-ok : next_c unrounded (exact_letters E) n s ≈ c E (suc n) = grw (cong, k.p_is, k.v_is, k.y_is, k.c_is) (≈_sym (c_suc E n)) in
      let v-ok : next_v unrounded (exact_letters E) n (next_c unrounded (exact_letters E) n s) s ≈ v E (suc n) =
      ≈_trans (add_cong c-ok (div_cong (suc (suc n)) (mul_cong (≈_refl (h E)) k.v_is))) (≈_sym (v_suc E n)) in
      record {
        c_is = c-ok;
        p_is = ≈_trans (mul_cong (≈_refl (u E)) (add_cong c-ok (div_cong (suc (suc n)) k.p_is))) (≈_sym (p_suc E n));
        v_is = v-ok;
        y_is = ≈_trans (add_cong v-ok (div_cong (suc (suc n)) (mul_cong (≈_refl (h E)) k.y_is))) (≈_sym (y_suc E n));
        sum_is = add_cong k.sum_is c-ok;
      }

  terms_are : (n : ℕ) → Same n (terms unrounded (exact_letters E) (a₀ E) n)
  unfolding terms first unrounded sum
  terms_are zero =
      let e = c_zero E in
      record {
        c_is = e;
        p_is = ≈_trans (mul_cong (≈_refl (u E)) e) (≈_sym (p_zero E));
        v_is = ≈_trans e (≈_sym (v_zero E));
        y_is = ≈_trans e (≈_sym (y_zero E));
        sum_is = ≈_trans e (≈_sym (zero_add _));
      }
  terms_are (suc n) = next_is n _ (terms_are n)

  pub term_is : (n : ℕ) → (terms unrounded (exact_letters E) (a₀ E) n).c ≈ c E n
  term_is n = (terms_are n).c_is

  pub sum_is : (n : ℕ) → (terms unrounded (exact_letters E) (a₀ E) n).sum ≈ sum (c E) (suc n)
  sum_is n = (terms_are n).sum_is

-- M with no rounding is F(0)
mul_one : (p : Frac) → p ⊗ whole 1 ≈ p
unfolding ◌⊗◌ whole
mul_one p = record { eq = omega arith }

ones : (p q r s : Frac) → p ⊗ whole 1 ⊕ q ⊗ whole 1 ÷ 2 ⊕ r ⊗ whole 1 ⊗ whole 1 ⊕ s ≈ p ⊕ q ÷ 2 ⊕ r ⊕ s
ones p q r s = grw (cong, mul_one p, mul_one q, mul_one (r ⊗ whole 1), mul_one r) (≈_refl _)

pub bound_is : (E : Encounter) → bound unrounded (exact_letters E) ≈ F E 0
unfolding bound unrounded F F_without_Y ◌↑◌
bound_is E = ≈_sym (ones (u E) (h E) (X E) (Y E))

-- t^(k+1)/(k+1)! is t^k/k! × t/(k+1)
pub power_step : (t : Frac) (k : ℕ) → exponential_term t (suc k) ≈ exponential_term t k ⊗ t ÷ suc k
unfolding exponential_term ◌↑◌
power_step t k =
    ≈_trans (factorial_step (t ⊗ t ↑ k) k) (div_cong (suc k) (≈_trans (≈_sym (div_mul t (t ↑ k) (factorial k))) (mul_comm t (t ↑ k ÷ factorial k))))

pub record SamePowers (t : Frac) (k : ℕ) (w : PowersOf Frac) : Type 0 where
  pub r_is : w.r ≈ exponential_term t k
  pub sum_is : w.sum ≈ sum (exponential_term t) (suc k)

one_is : (t : Frac) → whole 1 ≈ exponential_term t 0
unfolding exponential_term ◌↑◌ factorial ◌÷◌ whole
one_is t = record { eq = refl }

pub powers_are : (t : Frac) (k : ℕ) → SamePowers t k (powers unrounded (whole 1) t k)
unfolding powers next_power unrounded sum
powers_are t zero = record { r_is = one_is t; sum_is = ≈_trans (one_is t) (≈_sym (zero_add _)) }
powers_are t (suc k) =
    let x : (powers unrounded (whole 1) t k).r ⊗ t ÷ suc k ≈ exponential_term t (suc k) = grw (cong, (powers_are t k).r_is) (≈_sym (power_step t k)) in
    record { r_is = x; sum_is = add_cong (powers_are t k).sum_is x }
