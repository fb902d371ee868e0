-- Powers of a fraction, and p ≼ q × ρ^w: p is at most q, but for w factors ρ.
use Prim.Native.Nat.{ℕ, zero, suc, ◌+◌, ◌≤◌}
use native.Mathlib.Nat.{le_dest, add-suc, suc-add, zero-add as zero_plus}
use native.Mathlib.Omega.{arith}
use Rattle.exact.specs.Fraction.{Frac, ◌≼◌, ◌≈◌, ◌⊕◌, ◌⊗◌, ◌÷◌, ◌↑◌, whole}
use Rattle.exact.proofs.Fractions.{≼_refl, ≼_trans, ≽_of, add_mono, mul_mono, div_mono, ≈_refl, ≈_sym, cong, one_mul, mul_assoc}

pub pow_add : (p : Frac) (i j : ℕ) → p ↑ (i + j) ≈ p ↑ i ⊗ p ↑ j
unfolding ◌↑◌
pow_add p zero j = rw zero_plus (≈_sym (one_mul _))
pow_add p (suc i) j = rw suc-add (grw (cong, pow_add p i j) (≈_sym (mul_assoc p (p ↑ i) (p ↑ j))))

pub pow_square : (p : Frac) (i : ℕ) → (p ⊗ p) ↑ i ≈ p ↑ (i + i)
unfolding ◌↑◌
pow_square p zero = ≈_refl _
pow_square p (suc i) = rw (suc-add, add-suc) (grw (cong, pow_square p i) (mul_assoc p p _))

unit : (p : Frac) → p ≼ p ⊗ whole 1
unfolding ◌⊗◌ whole
unit p = record { le = omega arith }

pub grow : (p q : Frac) → whole 1 ≼ q → p ≼ p ⊗ q
grow p q l = ≼_trans (unit p) (mul_mono (≼_refl p) l)

pub one_le_pow : {p : Frac} (i : ℕ) → whole 1 ≼ p → whole 1 ≼ p ↑ i
unfolding ◌↑◌
one_le_pow zero l = ≼_refl _
one_le_pow {p} (suc i) l = ≼_trans l (grow p (p ↑ i) (one_le_pow i l))

pub pow_more : {p : Frac} {i j : ℕ} → whole 1 ≼ p → i ≤ j → p ↑ i ≼ p ↑ j
pow_more {p} {i} {j} l h = let (k, q) = le_dest h in rw (← q) (≼_trans (grow _ _ (one_le_pow k l)) (≽_of (pow_add p i k)))

-- p is at most q × ρ^w
pub record Near (ρ : Frac) (w : ℕ) (p q : Frac) : Type 0 where
  pub near : p ≼ q ⊗ ρ ↑ w

plus_form : (q r x : Frac) → q ⊗ x ⊕ r ⊗ x ≼ (q ⊕ r) ⊗ x
unfolding ◌⊕◌ ◌⊗◌
plus_form q r x = record { le = omega arith }

times_form : (q x r y : Frac) → q ⊗ x ⊗ (r ⊗ y) ≼ q ⊗ r ⊗ (x ⊗ y)
unfolding ◌⊗◌
times_form q x r y = record { le = omega arith }

share_form : (n : ℕ) (q x : Frac) → q ⊗ x ÷ n ≼ q ÷ n ⊗ x
unfolding ◌⊗◌ ◌÷◌
share_form n q x = record { le = omega arith }

module _ {ρ : Frac} where
  pub near_of : {p q : Frac} → p ≼ q → Near ρ 0 p q
  unfolding ◌↑◌
  near_of h = record { near = ≼_trans h (unit _) }

  pub near_more : {i j : ℕ} {p q : Frac} → whole 1 ≼ ρ → i ≤ j → Near ρ i p q → Near ρ j p q
  near_more one l h = record { near = ≼_trans h.near (mul_mono (≼_refl _) (pow_more one l)) }

  pub near_plus : {i : ℕ} {p q p' q' : Frac} → Near ρ i p q → Near ρ i p' q' → Near ρ i (p ⊕ p') (q ⊕ q')
  near_plus h k = record { near = ≼_trans (add_mono h.near k.near) (plus_form _ _ _) }

  pub near_times : {i j : ℕ} {p q p' q' : Frac} → Near ρ i p q → Near ρ j p' q' → Near ρ (i + j) (p ⊗ p') (q ⊗ q')
  near_times {i} {j} {p} {q} {p'} {q'} h k = record {
    near = ≼_trans (mul_mono h.near k.near) (≼_trans (times_form q (ρ ↑ i) q' (ρ ↑ j)) (mul_mono (≼_refl _) (≽_of (pow_add ρ i j))));
  }

  pub near_share : {i : ℕ} {p q : Frac} (n : ℕ) → Near ρ i p q → Near ρ i (p ÷ n) (q ÷ n)
  near_share n h = record { near = ≼_trans (div_mono n h.near) (share_form n _ _) }
