-- Signed values: which integers fit, and how the code's tests and conversions read them. The laws with no width in their names are about an i32.
use mathlib.Core.Path.{◌≡◌, refl, sym, subst}
use mathlib.Core.Bool.{true, false}
use Prim.Native.Nat.{ℕ, suc, pred, ◌+◌, ◌^◌, ◌≤◌, ◌<◌, zero-le}
use native.Mathlib.Omega.{arith}
use lib.Pow.{pow_pos}
use lib.Dec.{T, ltb, ltb→lt, eqb}
use lib.IntN.{ℤ, pos, negsuc, ◌+ℤ◌, ◌-ℤ◌, nat_abs}
use lib.Signed.{mag, lt_z, non_neg}
use borrow.Author.Tests.{lt-ltb, le-ltb, ltb-true, ltb-false, ne_eqb}
use mir.Syntax.{Width, w32, w64}
use mir.Facts.{to_z-of_z}
use mir.Val.{SFits, hbits, to_z, of_z}
use Rattle.exact.specs.Integer.{pos_part, neg_part}
use Rattle.exact.proofs.Integers.{pos_add, neg_add, pos_diff, neg_diff}

pub fits : {w : Width} (z : ℤ) → pos_part z < 2 ^ hbits w → neg_part z ≤ 2 ^ hbits w → SFits w z
fits (pos n) h k = record { sfits = h }
fits (negsuc n) h k = record { sfits = k }

pub pos_fits : {w : Width} {z : ℤ} → SFits w z → pos_part z < 2 ^ hbits w
pos_fits {w} {z = pos n} h = h.sfits
pos_fits {w} {z = negsuc n} h = pow_pos (hbits w)

pub neg_fits : {w : Width} {z : ℤ} → SFits w z → neg_part z ≤ 2 ^ hbits w
neg_fits {z = pos n} h = zero-le
neg_fits {z = negsuc n} h = h.sfits

-- what fits an i32 fits an i64
pub longer : {z : ℤ} → SFits w32 z → SFits w64 z
longer {z} h = fits z (omega (arith, pos_fits h)) (omega (arith, neg_fits h))

module _ (w : Width) where
  pub sum_fits_in : (a b : ℤ) → pos_part a + pos_part b < 2 ^ hbits w → neg_part a + neg_part b ≤ 2 ^ hbits w → SFits w (a +ℤ b)
  sum_fits_in a b h k = fits (a +ℤ b) (omega (arith, pos_add a b)) (omega (arith, neg_add a b))

  pub diff_fits_in : (a b : ℤ) → pos_part a + neg_part b < 2 ^ hbits w → neg_part a + pos_part b ≤ 2 ^ hbits w → SFits w (a -ℤ b)
  diff_fits_in a b h k = fits (a -ℤ b) (omega (arith, pos_diff a b)) (omega (arith, neg_diff a b))

  -- a number that a call returned is read back from its bits
  pub back_in : (z : ℤ) → mag z < 2 ^ hbits w → to_z w (of_z w z) ≡ z
  back_in z h = to_z-of_z {w = w} (record { sfits = h })

  -- an unsigned number below half of the range, read as a signed one
  pub small_in : (t : ℕ) → t < 2 ^ hbits w → to_z w t ≡ pos t
  small_in t h = rw (lt-ltb t (2 ^ hbits w) h)

pub diff_fits : (a b : ℤ) → pos_part a + neg_part b < 2 ^ 31 → neg_part a + pos_part b ≤ 2 ^ 31 → SFits w32 (a -ℤ b)
diff_fits = diff_fits_in w32

pub back : (z : ℤ) → mag z < 2 ^ 31 → to_z w32 (of_z w32 z) ≡ z
back = back_in w32

pub small : (t : ℕ) → t < 2 ^ 31 → to_z w32 t ≡ pos t
small = small_in w32

-- tests of a sign
pub negative : (z : ℤ) → lt_z z (pos 0) ≡ true → 0 ≡ pos_part z
negative (pos n) h = let f : ⊥ = omega (arith, ltb→lt n 0 (subst T (sym h) tt)) in absurd f
negative (negsuc n) h = refl

pub nonnegative : (z : ℤ) → lt_z z (pos 0) ≡ false → T (non_neg z)
nonnegative (pos n) h = tt
nonnegative (negsuc n) h = subst T h tt

pub nonnegative_abs : (z : ℤ) → lt_z z (pos 0) ≡ false → nat_abs z ≡ pos_part z
nonnegative_abs (pos n) h = refl
nonnegative_abs (negsuc n) h = absurd (subst T h tt)

-- tests of a magnitude: below -k, or else above k
pub far_below : (k : ℕ) (z : ℤ) → 0 < k → lt_z z (negsuc (pred k)) ≡ true → true ≡ ltb k (nat_abs z)
far_below k (pos n) p h = absurd (subst T (sym h) tt)
far_below k (negsuc n) p h = let l = ltb-true (pred k) n h in sym (lt-ltb k (suc n) (omega arith))

pub far_above : (k : ℕ) (z : ℤ) → 0 < k → lt_z z (negsuc (pred k)) ≡ false → lt_z (pos k) z ≡ ltb k (nat_abs z)
far_above k (pos n) p h = refl
far_above k (negsuc n) p h = let l = ltb-false (pred k) n h in sym (le-ltb k (suc n) (omega arith))

-- only zero has the bits of zero
pub zero_bits : (e : ℤ) → SFits w32 e → eqb (of_z w32 e) 0 ≡ eqb (nat_abs e) 0
zero_bits (pos n) h = refl
zero_bits (negsuc n) h = rw (ne_eqb (of_z w32 (negsuc n)) 0 (λ z. omega (arith, h.sfits, z)), ne_eqb (nat_abs (negsuc n)) 0 (λ z. omega (arith, z)))
