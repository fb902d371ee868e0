-- Request #103: the whole part of a fraction, and a number times the table's powers of ten, against the exact product.
use mathlib.Core.Path.{◌≡◌, refl, sym, ◌∙◌}
use mathlib.Core.Bool.{Bool, true, false, true≢false}
use mathlib.Core.Logic.{⊎_elim}
use Prim.Native.Nat.{ℕ, suc, ◌*◌, ◌^◌, ◌≤◌, ◌<◌}
use native.Mathlib.Nat.{le_of_suc-le-suc, mul-le-mul_left, div-lt_iff_lt-mul, div-add-mod', le-div_iff_mul-le, mod-lt, pow-succ', pow-le-pow_right}
use native.Mathlib.Omega.{arith}
use lib.Dec.{lit<}
use Rattle.exact.specs.declared.Scaled.{Scaled}
use Rattle.exact.specs.Fraction.{Frac, ◌≼◌, ◌≈◌, ◌⊗◌, ◌over◌, whole}
use Rattle.exact.specs.Scaled.{value, OnSide}
use Rattle.exact.specs.Decimals.{table_length, entry, times_power, reaches, least_power, floor}
use Rattle.exact.proofs.Fractions.{◌≺◌, ≼_refl, ≼_trans, ≼_≺, ≼_of_≺, ≺_or_≼, ≼_of, ≽_of, lt_or_le, mul_mono, mul_assoc, whole_mono}
use Rattle.exact.proofs.Order.{at_most_yes, at_most_no, at_most_holds}
use Rattle.exact.proofs.Rounding.{slack, Close, round_is, round_close, round_mono}
use Rattle.exact.proofs.Operations.{whole_exact}
use Rattle.exact.proofs.Least.{least_before, least_here}

-- 1 + 2^-31
abbrev pub ε : Frac
ε = slack 31

-- (2^31 + 1)²: with 2^62 below it, ε ⊗ ε
abbrev pub ε_square : ℕ
ε_square = 4611686022722355201

-- ---- the whole part

pub floor_below : (q : Frac) → whole (floor q) ≼ q
unfolding floor whole
floor_below q = record { le = omega (arith, div-add-mod' q.num q.den) }

pub floor_above : (q : Frac) → q ≺ whole (suc (floor q))
unfolding floor whole
floor_above q = record { lt = omega (arith, div-add-mod' q.num q.den, mod-lt q.num q.pos) }

pub floor_most : (q : Frac) (n : ℕ) → q ≺ whole (suc n) → floor q ≤ n
unfolding floor whole
floor_most q n h = le_of_suc-le-suc ((div-lt_iff_lt-mul q.pos).1 (omega (arith, h.lt)))

pub floor_least : (q : Frac) (n : ℕ) → whole n ≼ q → n ≤ floor q
unfolding floor whole
floor_least q n h = (le-div_iff_mul-le q.pos).1 (omega (arith, h.le))

strictly : {m n : ℕ} → m < n → whole m ≺ whole n
unfolding whole
strictly h = record { lt = omega arith }

-- ---- the product with the table's power, against the exact one

entry_close : (up : Bool) (k : ℕ) → Close 31 (value (entry up k)) (whole (10 ^ k))
unfolding entry
entry_close up k = round_close up 31 (whole (10 ^ k))

module _ (up : Bool) (x : Scaled) (k : ℕ) where
  pub product_below : value x ⊗ whole (10 ^ k) ≼ value (times_power up x k) ⊗ ε ⊗ ε
  unfolding times_power
  product_below =
      ≼_trans (mul_mono (≼_refl (value x)) (entry_close _ k).below) (≼_trans (≽_of (mul_assoc (value x) _ ε)) (mul_mono (round_close _ 31 _).below (≼_refl ε)))

  pub product_above : value (times_power up x k) ≼ value x ⊗ whole (10 ^ k) ⊗ ε ⊗ ε
  unfolding times_power
  product_above =
      ≼_trans (round_close _ 31 _).above
      (mul_mono (≼_trans (mul_mono (≼_refl (value x)) (entry_close _ k).above) (≽_of (mul_assoc (value x) (whole (10 ^ k)) ε))) (≼_refl ε))

  pub reached : reaches up x k ≡ true → whole 1000 ≼ value (times_power up x k)
  unfolding reaches
  reached h = at_most_holds _ _ h

  pub unreached : reaches up x k ≡ false → value (times_power up x k) ≼ whole 1000
  unfolding reaches
  unreached h =
      ⊎_elim ≼_of_≺ (λ g. absurd (true≢false (sym (at_most_yes (whole 1000) (value (times_power up x k)) g) ∙ h))) (≺_or_≼ (value (times_power up x k)) (whole 1000))

  -- where the exact product is small enough, 1,000 is not reached
  pub not_reached : value x ⊗ whole (10 ^ k) ⊗ ε ⊗ ε ≺ whole 1000 → reaches up x k ≡ false
  unfolding reaches
  not_reached h = at_most_no (whole 1000) (value (times_power up x k)) (≼_≺ product_above h)

  -- the next power's exact product, where this one does not reach 1,000
  pub next : reaches up x k ≡ false → value x ⊗ whole (10 ^ suc k) ≼ whole 10 ⊗ (whole 1000 ⊗ ε ⊗ ε)
  next h = ≼_trans (≼_of (ten (value x))) (mul_mono (≼_refl (whole 10)) (≼_trans product_below (mul_mono (mul_mono (unreached h) (≼_refl ε)) (≼_refl ε))))
    where
      ten : (q : Frac) → q ⊗ whole (10 ^ suc k) ≈ whole 10 ⊗ (q ⊗ whole (10 ^ k))
      ten q = unfold ◌⊗◌ whole in record { eq = rw (pow-succ' 10 k) (omega arith) }

-- below the least power 1,000 is not reached, at it it is
module _ (up : Bool) (x : Scaled) where
  pub before : (j : ℕ) → j < least_power up x → reaches up x j ≡ false
  unfolding least_power
  before j l = least_before (reaches up x) table_length j l

  pub here : least_power up x < table_length → reaches up x (least_power up x) ≡ true
  unfolding least_power
  here l = least_here (reaches up x) table_length l

-- a number below 2^-s, and a power that is too low for it
pub too_low : (up : Bool) (x : Scaled) (s k : ℕ) → value x ⊗ whole (2 ^ s) ≺ whole 1 → 10 ^ k * ε_square ≤ 1000 * 2 ^ s * 2 ^ 62 → reaches up x k ≡ false
too_low up x s k h l = not_reached up x k (go (value x) h)
  where
    go : (q : Frac) → q ⊗ whole (2 ^ s) ≺ whole 1 → q ⊗ whole (10 ^ k) ⊗ ε ⊗ ε ≺ whole 1000
    go q h = unfold ◌⊗◌ whole slack ◌over◌ in record { lt = omega (arith, h.lt, mul-le-mul_left q.num l) }

entry_side : (up : Bool) (k : ℕ) → OnSide up (value (entry up k)) (whole (10 ^ k))
unfolding entry
entry_side up k = (round_is up 32 (whole (10 ^ k)) (lit< tt)).side

pub lower_side : (x : Scaled) (k : ℕ) → value (times_power false x k) ≼ value x ⊗ whole (10 ^ k)
unfolding times_power
lower_side x k = ≼_trans (round_is false 32 _ (lit< tt)).side (mul_mono (≼_refl (value x)) (entry_side false k))

pub upper_side : (x : Scaled) (k : ℕ) → value x ⊗ whole (10 ^ k) ≼ value (times_power true x k)
unfolding times_power
upper_side x k = ≼_trans (mul_mono (≼_refl (value x)) (entry_side true k)) (round_is true 32 _ (lit< tt)).side

-- ---- the errors of two products after each other, as a number

top_twice : whole 10 ⊗ (whole 1000 ⊗ ε ⊗ ε) ⊗ ε ⊗ ε ≺ whole 10001
unfolding ◌⊗◌ whole slack ◌over◌
top_twice = record { lt = lit< tt }

-- ---- below 1, at the first power that reaches 1,000

module _ (up : Bool) (x : Scaled) (small : value x ≼ whole 1) where
  -- 10^0, 10^1 and 10^2 do not
  pub not_two : (k : ℕ) → k ≤ 2 → reaches up x k ≡ false
  not_two k l = not_reached up x k (≼_≺ (mul_mono (mul_mono (mul_mono small (whole_mono (pow-le-pow_right {n = 10} (lit< tt) l))) (≼_refl ε)) (≼_refl ε)) few)
    where
      few : whole 1 ⊗ whole (10 ^ 2) ⊗ ε ⊗ ε ≺ whole 1000
      few = unfold ◌⊗◌ whole slack ◌over◌ in record { lt = lit< tt }

  -- at 10^3 the product is 1,000 at most
  pub at_three : floor (value (times_power up x 3)) ≤ 1000
  unfolding times_power
  at_three =
      floor_most _ 1000
      (≼_≺ (≼_trans (round_mono up 32 {q = whole 1000} (lit< tt) (≼_trans (mul_mono small (≼_of thousand)) (≼_of once))) (≼_of (whole_exact up 32 1000 (lit< tt) (lit< tt)))) (strictly (lit< tt)))
    where
      thousand : value (entry up 3) ≈ whole 1000
      thousand = unfold entry in whole_exact up 32 1000 (lit< tt) (lit< tt)

      once : whole 1 ⊗ whole 1000 ≈ whole 1000
      once = unfold ◌⊗◌ whole in record { eq = refl }

  -- so the upper digits there are fewer than 10,000
  pub three_few : (k : ℕ) → 3 ≤ k → 10000 ≤ suc (floor (value (times_power up x k))) → 4 ≤ k
  three_few k l h = ⊎_elim (λ c. absurd (three (omega arith) h)) (λ c. c) (lt_or_le k 4)
    where
      three : k ≡ 3 → 10000 ≤ suc (floor (value (times_power up x k))) → ⊥
      three e h = omega (arith, rw e at h, at_three)

module _ (up : Bool) (x : Scaled) (k : ℕ) (low : reaches up x k ≡ false) where
  pub under : value (times_power up x (suc k)) ≺ whole 10001
  under = ≼_≺ (≼_trans (product_above up x (suc k)) (mul_mono (mul_mono (next up x k low) (≼_refl ε)) (≼_refl ε))) top_twice

  pub most : floor (value (times_power up x (suc k))) ≤ 10000
  most = floor_most (value (times_power up x (suc k))) 10000 under
