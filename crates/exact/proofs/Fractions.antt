-- The laws of fractions: order, equality of value, and how sum, product, quotient, power and finite sum keep them.
-- Each law of a semiring is one identity between naturals, left to `omega`.
use mathlib.Core.Path.{◌≡◌, refl, sym}
use mathlib.Core.Logic.{◌⊎◌, inl, inr}
use mathlib.Core.Bool.{Bool, true, false, not}
use Prim.Native.Nat.{ℕ, zero, suc, pred, ◌+◌, ◌*◌, ◌≤◌, ◌<◌}
use native.Mathlib.Nat.{le_dest, add-suc, add-zero as plus_zero, mul-pos, le_of_mul-le-mul_right, lt_of_mul-lt-mul_right, mul-le-mul_right, mul-lt-mul_of_pos_right, mul-le-mul, le_of_eq, le_of_lt, le_antisymm, lt_irrefl, suc-pred-eq_of_pos}
use native.Mathlib.Omega.{arith}
use lib.Dec.{T, ltb, ltb→lt, nltb→le}
use Rattle.exact.specs.Fraction.{Frac, ◌≼◌, ◌≈◌, whole, ◌⊕◌, ◌⊗◌, ◌÷◌, ◌⊘◌, ◌↑◌, sum}

-- ---- the order

infix 40 ◌≺◌
-- p is less than q
pub record ◌≺◌ (p q : Frac) : Type 0 where
  pub lt : p.num * q.den < q.num * p.den

pub ≼_refl : (p : Frac) → p ≼ p
≼_refl p = record { le = omega arith }

pub ≼_trans : {p q r : Frac} → p ≼ q → q ≼ r → p ≼ r
≼_trans {p} {q} {r} h k = record {
  le = le_of_mul-le-mul_right {k = q.den} (omega (arith, mul-le-mul_right r.den h.le, mul-le-mul_right p.den k.le)) q.pos;
}

pub ≼_≺ : {p q r : Frac} → p ≼ q → q ≺ r → p ≺ r
≼_≺ {p} {q} {r} h k = record {
  lt = lt_of_mul-lt-mul_right q.den (omega (arith, mul-le-mul_right r.den h.le, mul-lt-mul_of_pos_right k.lt p.pos));
}

pub ≺_≼ : {p q r : Frac} → p ≺ q → q ≼ r → p ≺ r
≺_≼ {p} {q} {r} h k = record {
  lt = lt_of_mul-lt-mul_right q.den (omega (arith, mul-lt-mul_of_pos_right h.lt r.pos, mul-le-mul_right p.den k.le));
}

pub ≼_of_≺ : {p q : Frac} → p ≺ q → p ≼ q
≼_of_≺ h = record { le = le_of_lt h.lt }

pub ≺_irrefl : {p : Frac} → p ≺ p → ⊥
≺_irrefl h = lt_irrefl _ h.lt

pub lt_or_le : (m n : ℕ) → (m < n) ⊎ (n ≤ m)
lt_or_le m n = go (ltb m n) (ltb→lt m n) (nltb→le m n)
  where
    go : (t : Bool) → (T t → m < n) → (T (not t) → n ≤ m) → (m < n) ⊎ (n ≤ m)
    go true h k = inl (h tt)
    go false h k = inr (k tt)

pub ≺_or_≼ : (p q : Frac) → (p ≺ q) ⊎ (q ≼ p)
≺_or_≼ p q = go (lt_or_le (p.num * q.den) (q.num * p.den))
  where
    go : (p.num * q.den < q.num * p.den) ⊎ (q.num * p.den ≤ p.num * q.den) → (p ≺ q) ⊎ (q ≼ p)
    go (inl h) = inl (record { lt = h })
    go (inr h) = inr (record { le = h })

pub ≼_of : {p q : Frac} → p ≈ q → p ≼ q
≼_of h = record { le = le_of_eq h.eq }

pub ≽_of : {p q : Frac} → p ≈ q → q ≼ p
≽_of h = record { le = le_of_eq (sym h.eq) }

pub antisym : {p q : Frac} → p ≼ q → q ≼ p → p ≈ q
antisym h k = record { eq = le_antisymm h.le k.le }

-- a sequence that no step lowers, at a later place
rises : (f : ℕ → Frac) → ((n : ℕ) → f n ≼ f (suc n)) → (n j : ℕ) → f n ≼ f (n + j)
rises f h n zero = rw plus_zero (≼_refl _)
rises f h n (suc j) = rw add-suc (≼_trans (rises f h n j) (h (n + j)))

pub never_falls : (f : ℕ → Frac) → ((n : ℕ) → f n ≼ f (suc n)) → (n n' : ℕ) → n ≤ n' → f n ≼ f n'
never_falls f h n n' l = let (j, q) = le_dest l in rw (← q) (rises f h n j)

pub add_mono : {p q r s : Frac} → p ≼ q → r ≼ s → p ⊕ r ≼ q ⊕ s
unfolding ◌⊕◌
add_mono {p} {q} {r} {s} h k = record { le = omega (arith, mul-le-mul_right (r.den * s.den) h.le, mul-le-mul_right (p.den * q.den) k.le) }

pub drop_last : (s t : Frac) → s ≼ s ⊕ t
unfolding ◌⊕◌
drop_last s t = record { le = omega arith }

pub mul_mono : {p q r s : Frac} → p ≼ q → r ≼ s → p ⊗ r ≼ q ⊗ s
unfolding ◌⊗◌
mul_mono h k = record { le = omega (arith, mul-le-mul h.le k.le) }

pub div_mono : {p q : Frac} (n : ℕ) → p ≼ q → p ÷ n ≼ q ÷ n
unfolding ◌÷◌
div_mono n h = record { le = omega (arith, mul-le-mul_right (suc (pred n)) h.le) }

pub pow_mono : {p q : Frac} (n : ℕ) → p ≼ q → p ↑ n ≼ q ↑ n
unfolding ◌↑◌
pow_mono zero h = ≼_refl _
pow_mono (suc n) h = mul_mono h (pow_mono n h)

pub sum_mono : {f g : ℕ → Frac} (n : ℕ) → ((k : ℕ) → f k ≼ g k) → sum f n ≼ sum g n
unfolding sum
sum_mono zero h = ≼_refl _
sum_mono (suc n) h = add_mono (sum_mono n h) (h n)

pub zero_least : (p : Frac) → whole 0 ≼ p
unfolding whole
zero_least p = record { le = omega arith }

pub whole_mono : {m n : ℕ} → m ≤ n → whole m ≼ whole n
unfolding whole
whole_mono h = record { le = omega arith }

pub ruleset mono = (≼_trans, ≼_refl, add_mono, mul_mono, div_mono, pow_mono)

-- ---- equality of value

pub ≈_refl : (p : Frac) → p ≈ p
≈_refl p = record { eq = refl }

pub ≈_sym : {p q : Frac} → p ≈ q → q ≈ p
≈_sym h = record { eq = sym h.eq }

pub ≈_trans : {p q r : Frac} → p ≈ q → q ≈ r → p ≈ r
≈_trans h k = antisym (≼_trans (≼_of h) (≼_of k)) (≼_trans (≽_of k) (≽_of h))

pub add_cong : {p q r s : Frac} → p ≈ q → r ≈ s → p ⊕ r ≈ q ⊕ s
add_cong h k = antisym (add_mono (≼_of h) (≼_of k)) (add_mono (≽_of h) (≽_of k))

pub mul_cong : {p q r s : Frac} → p ≈ q → r ≈ s → p ⊗ r ≈ q ⊗ s
mul_cong h k = antisym (mul_mono (≼_of h) (≼_of k)) (mul_mono (≽_of h) (≽_of k))

pub div_cong : {p q : Frac} (n : ℕ) → p ≈ q → p ÷ n ≈ q ÷ n
div_cong n h = antisym (div_mono n (≼_of h)) (div_mono n (≽_of h))

pub ruleset cong = (≈_trans, ≈_refl, add_cong, mul_cong, div_cong)

pub add_comm : (p q : Frac) → p ⊕ q ≈ q ⊕ p
unfolding ◌⊕◌
add_comm p q = record { eq = omega arith }

pub add_assoc : (p q r : Frac) → p ⊕ q ⊕ r ≈ p ⊕ (q ⊕ r)
unfolding ◌⊕◌
add_assoc p q r = record { eq = omega arith }

pub mul_comm : (p q : Frac) → p ⊗ q ≈ q ⊗ p
unfolding ◌⊗◌
mul_comm p q = record { eq = omega arith }

pub mul_assoc : (p q r : Frac) → p ⊗ q ⊗ r ≈ p ⊗ (q ⊗ r)
unfolding ◌⊗◌
mul_assoc p q r = record { eq = omega arith }

pub mul_left_comm : (p q r : Frac) → p ⊗ (q ⊗ r) ≈ q ⊗ (p ⊗ r)
unfolding ◌⊗◌
mul_left_comm p q r = record { eq = omega arith }

pub mul_add : (p q r : Frac) → p ⊗ (q ⊕ r) ≈ p ⊗ q ⊕ p ⊗ r
unfolding ◌⊗◌ ◌⊕◌
mul_add p q r = record { eq = omega arith }

pub add_mul : (p q r : Frac) → (p ⊕ q) ⊗ r ≈ p ⊗ r ⊕ q ⊗ r
unfolding ◌⊗◌ ◌⊕◌
add_mul p q r = record { eq = omega arith }

pub add_zero : (p : Frac) → p ⊕ whole 0 ≈ p
unfolding ◌⊕◌ whole
add_zero p = record { eq = omega arith }

pub zero_add : (p : Frac) → whole 0 ⊕ p ≈ p
unfolding ◌⊕◌ whole
zero_add p = record { eq = omega arith }

pub mul_zero : (p : Frac) → p ⊗ whole 0 ≈ whole 0
unfolding ◌⊗◌ whole
mul_zero p = record { eq = omega arith }

pub one_mul : (p : Frac) → whole 1 ⊗ p ≈ p
unfolding ◌⊗◌ whole
one_mul p = record { eq = omega arith }

-- ---- quotients

pub div_mul : (p q : Frac) (n : ℕ) → p ⊗ (q ÷ n) ≈ (p ⊗ q) ÷ n
unfolding ◌⊗◌ ◌÷◌
div_mul p q n = record { eq = omega arith }

pub div_add : (p q : Frac) (n : ℕ) → (p ⊕ q) ÷ n ≈ p ÷ n ⊕ q ÷ n
unfolding ◌⊕◌ ◌÷◌
div_add p q n = record { eq = omega arith }

pub div_div : (p : Frac) (n k : ℕ) → p ÷ n ÷ k ≈ p ÷ k ÷ n
unfolding ◌÷◌
div_div p n k = record { eq = omega arith }

pub mul_div_cancel : (p : Frac) (n : ℕ) → whole (suc n) ⊗ (p ÷ suc n) ≈ p
unfolding ◌⊗◌ ◌÷◌ whole
mul_div_cancel p n = record { eq = omega arith }

suc_pred : {n : ℕ} → 0 < n → suc (pred n) ≡ n
suc_pred h = suc-pred-eq_of_pos h

pub div_twice : (p : Frac) {i j : ℕ} → 0 < i → 0 < j → p ÷ i ÷ j ≈ p ÷ (i * j)
unfolding ◌÷◌
div_twice p l k = record { eq = rw (suc_pred l, suc_pred k, suc_pred (mul-pos l k)) (omega arith) }

-- what is not below a fraction above 0 is above 0
pub num_pos : {p q : Frac} → p ≼ q → 0 < p.num → 0 < q.num
num_pos {p} {q} h k = lt_of_mul-lt-mul_right p.den {m = 0} (omega (arith, mul-pos k q.pos, h.le))

pub quot_mono : {p q r s : Frac} → p ≼ q → s ≼ r → 0 < s.num → p ⊘ r ≼ q ⊘ s
unfolding ◌⊘◌
quot_mono {p} {q} {r} {s} h k l = record { le = rw (suc_pred l, suc_pred (num_pos k l)) (omega (arith, mul-le-mul h.le k.le)) }

pub quot_left : (r : Frac) {p q : Frac} → p ≼ q → p ⊘ r ≼ q ⊘ r
unfolding ◌⊘◌
quot_left r {p} {q} h = record { le = omega (arith, mul-le-mul_right (r.den * suc (pred r.num)) h.le) }

pub quot_mul : (p q : Frac) → 0 < q.num → p ⊘ q ⊗ q ≈ p
unfolding ◌⊘◌ ◌⊗◌
quot_mul p q l = record { eq = rw (suc_pred l) (omega arith) }
