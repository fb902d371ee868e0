-- A scaled number with an exponent in range is a double, and the assembled bits are that double's.
use mathlib.Core.Path.{◌≡◌, refl, sym, ap, ◌∙◌, subst}
use mathlib.Core.Bool.{Bool, false, not}
use Prim.Native.Nat.{ℕ, ◌+◌, ◌*◌, ◌^◌, ◌≤◌, ◌<◌}
use native.Mathlib.Nat.{mul_assoc, lt_of_lt_of_le}
use native.Mathlib.Omega.{arith}
use lib.Dec.{T}
use lib.Pow.{pow-add, pow_pos, pow_mono, shl_lt}
use mir.Facts.{to_z-of_z}
use mir.Syntax.{w32}
use mir.Val.{to_z, of_z}
use lib.Ieee.{binary64, round, is_nan, nan_bits, of_bits}
use lib.Ieee.Fits.{round-fits}
use lib.Ieee.Exact.{round_exact}
use lib.Ieee.Bits.{of_bits-to_bits, nan_bits_is}
use Rattle.exact.specs.declared.Scaled.{Scaled}
use Rattle.exact.specs.Integer.{pos_part, neg_part}
use Rattle.exact.specs.Scaled.{value, nought, Normal}
use Rattle.exact.specs.Private.Ranges.{InRange}
use Rattle.exact.proofs.Operations.{normal}
use Rattle.host.specs.Doubles.{as_double, Worth}
use Rattle.host.specs.Private.Fitting.{double_range}
use Rattle.host.proofs.Pattern.{bits, number}
use Rattle.host.proofs.Shifted.{in_fits}

-- m × 2^p / 2^n in units of 2^-l is m × 2^b × 2^k
balance : (m p n l b k : ℕ) → p + l ≡ b + (k + n) → m * 2 ^ p * 2 ^ l ≡ m * 2 ^ b * 2 ^ k * 2 ^ n
balance m p n l b k h =
    mul_assoc m (2 ^ p) (2 ^ l)
    ∙ ap (λ (y : ℕ). m * y) (sym (pow-add 2 p l) ∙ ap (λ (y : ℕ). 2 ^ y) h ∙ pow-add 2 b (k + n) ∙ ap (λ (y : ℕ). 2 ^ b * y) (pow-add 2 k n))
    ∙ sym (mul_assoc m (2 ^ b) (2 ^ k * 2 ^ n))
    ∙ sym (mul_assoc (m * 2 ^ b) (2 ^ k) (2 ^ n))

-- In units of the smallest double, 2^-1074, x is m × 2^21 × 2^k with k = e + 1053, since 1074 = 21 + 1053; a double is below 2^1024, which is 2^2098 of them.
module _ (x : Scaled) (k : ℕ) (n : Normal 32 x) (top : pos_part x.e ≤ double_range) (field : k + neg_part x.e ≡ pos_part x.e + 1053) where
  q_small : x.m * 2 ^ 21 < 2 ^ 53
  q_small = omega (arith, n.high)

  q_large : 2 ^ 53 ≤ 2 * (x.m * 2 ^ 21)
  q_large = omega (arith, n.low)

  fine : x.m * 2 ^ 21 * 2 ^ k < 2 ^ 2098
  fine = lt_of_lt_of_le (shl_lt 53 k q_small) (pow_mono {j = 2098} (omega (arith, top, field)))

  same : x.m * 2 ^ pos_part x.e * 2 ^ 1074 ≡ x.m * 2 ^ 21 * 2 ^ k * 2 ^ neg_part x.e
  same = balance x.m (pos_part x.e) (neg_part x.e) 1074 21 k (omega (arith, field))

  pub worth : Worth (as_double x) (value x)
  unfolding as_double value
  worth = round_exact binary64 false (x.m * 2 ^ pos_part x.e) (2 ^ neg_part x.e) (x.m * 2 ^ 21) k (pow_pos (neg_part x.e)) q_small fine same

  assembled : of_bits binary64 (k * 2 ^ 52 + x.m * 2 ^ 21) ≡ as_double x
  unfolding as_double value
  assembled =
      let a = x.m * 2 ^ pos_part x.e in
      let c = 2 ^ neg_part x.e in
      ap (of_bits binary64) (sym (bits binary64 a c (x.m * 2 ^ 21) k (pow_pos (neg_part x.e)) q_small q_large same (as_double x) worth))
      ∙ of_bits-to_bits binary64 (as_double x) (round-fits binary64 false a c)

  no_nan : T (not (nan_bits binary64 (k * 2 ^ 52 + x.m * 2 ^ 21)))
  no_nan =
      subst (λ (b : Bool). T (not b))
      (sym (nan_bits_is binary64 (k * 2 ^ 52 + x.m * 2 ^ 21) ∙ ap is_nan assembled ∙ number (as_double x) false (value x).num (value x).den worth)) tt

-- the same of the field that the code forms, and how large that is
module _ (x : Scaled) (k : ℕ) (h : InRange 32 double_range x) (some : x.m ≡ 0 → ⊥) (code : k + neg_part (to_z w32 (of_z w32 x.e)) ≡ pos_part (to_z w32 (of_z w32 x.e)) + 1053) where
  told : k + neg_part x.e ≡ pos_part x.e + 1053
  told = rw (to_z-of_z {w = w32} (in_fits h)) at code

  pub field_small : k ≤ double_range + 1053
  field_small = omega (arith, told, h.above)

  pub is_double : of_bits binary64 (k * 2 ^ 52 + x.m * 2 ^ 21) ≡ as_double x
  is_double = assembled x k (normal h.is_scaled some) h.above told

  pub is_number : T (not (nan_bits binary64 (k * 2 ^ 52 + x.m * 2 ^ 21)))
  is_number = no_nan x k (normal h.is_scaled some) h.above told

pub zero_assembled : {x : Scaled} → x ≡ nought → of_bits binary64 0 ≡ as_double x
unfolding as_double value of_bits round
zero_assembled h = subst (λ (x : Scaled). of_bits binary64 0 ≡ as_double x) (sym h) refl

pub zero_worth : {x : Scaled} → x ≡ nought → Worth (as_double x) (value x)
unfolding as_double value round
zero_worth h = subst (λ (x : Scaled). Worth (as_double x) (value x)) (sym h) (refl, refl)
