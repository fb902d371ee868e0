-- The decimal of a number, by the cases of the code.
use mathlib.Core.Path.{◌≡◌, refl, sym, ◌∙◌}
use mathlib.Core.Bool.{Bool, true}
use Prim.Native.Nat.{ℕ, ◌+◌, ◌-◌, ◌^◌, ◌≤◌, ◌<◌}
use native.Mathlib.Nat.{mul-le-mul_left}
use native.Mathlib.Omega.{arith}
use lib.IntN.{ℤ, pos, negsuc, ◌-ℤ◌}
use lib.Pow.{pow_mono, pow_pos}
use Rattle.exact.specs.declared.Scaled.{Scaled}
use Rattle.exact.specs.declared.Decimal.{Decimal}
use Rattle.exact.specs.Integer.{pos_part, neg_part}
use Rattle.exact.specs.Fraction.{◌≼◌, ◌≈◌, ◌⊗◌, whole}
use Rattle.exact.specs.Scaled.{value, Normal}
use Rattle.exact.specs.Decimals.{table_length, times_power, least_power, floor, digits_of, at_power, one_or_more, zero_decimal, too_small, below_1, decimal_of, Printed, Found, Near}
use Rattle.exact.proofs.Fractions.{◌≺◌, ≼_refl, ≼_trans, ≼_≺, ≼_of_≺, ≼_of, ≽_of, mul_mono}
use Rattle.exact.proofs.Order.{above_yes, above_no}
use Rattle.exact.proofs.Integers.{balanced, pos_diff, neg_diff}
use Rattle.exact.proofs.DecimalCases.{is_one, is_found, is_small, low_power, whole_most, digits_most, digits_high, small_zero, decimal_same}
use Rattle.exact.proofs.Decimals.{printed, near}
use Rattle.encounter.specs.Private.Loops.{InBinade}
use Rattle.encounter.proofs.decimals.Searching.{below_power, unit, none_reaches}
use Rattle.encounter.proofs.decimals.Wholes.{depth}

-- a number below 1 whose mantissa has 32 bits
module _ (up : Bool) (x : Scaled) (b : value x ≺ whole 1) where
  is_below : below_1 x ≡ true
  unfolding below_1
  is_below = above_yes _ _ b

  module _ {k : ℕ} (e : k ≡ least_power up x) where
    pub none_is : {r : Decimal} → 0 < x.m → table_length ≤ k → ((y : Scaled) → 0 < y.m → r ≡ too_small up y) → r ≡ decimal_of up x
    none_is p l t = t x p ∙ sym (is_small up x is_below (rw e at l))

    module _ {w : ℕ} (l : k < table_length) (h : w ≡ floor (value (times_power up x k))) where
      found : least_power up x < table_length
      found = rw e at l

      whole_is : w ≡ floor (value (times_power up x (least_power up x)))
      whole_is = rw e at h

      pub whole_fine : w ≤ 10000
      whole_fine = rw whole_is (whole_most up x (≼_of_≺ b) found)

      module _ {n : ℕ} (d : n ≡ digits_of up w) where
        pub digits_fine : (3 ≤ k) × (k < table_length) × (n ≤ 10001) × (10000 ≤ n → 4 ≤ k)
        digits_fine = rw (d, whole_is, e) (low_power up x (≼_of_≺ b) found, found, digits_most up x (≼_of_≺ b) found, digits_high up x (≼_of_≺ b) found)

        pub found_is : {r : Decimal} → r ≡ at_power k n → r ≡ decimal_of up x
        found_is f = f ∙ rw (d, whole_is, e) (sym (is_found up x is_below found))

-- the answer with its promises
pub with_promises : (up : Bool) (x : Scaled) {r : Decimal} → r ≡ decimal_of up x → (r ≡ decimal_of up x) × Printed up x r × (Found up x → Near x r)
with_promises up x e = (e, rw e (printed up x), rw e (near up x))

-- zero
module _ (up : Bool) (x : Scaled) (z : x.m ≡ 0) where
  nothing_of : (n : ℕ) → value x ⊗ whole n ≺ whole 1
  unfolding value whole ◌⊗◌
  nothing_of n = record { lt = rw z (omega (arith, pow_pos (neg_part x.e))) }

  pub zero_is : zero_decimal ≡ decimal_of up x
  zero_is = small_zero up x z ∙ sym (is_small up x (is_below up x (unit (nothing_of 1))) (rw (none_reaches up x (nothing_of (2 ^ 143))) (omega arith)))

-- a number that is not zero, of the value of y, whose mantissa has 32 bits and whose fraction n
module _ (up : Bool) (x y : Scaled) (n : ℕ) (f : Normal 32 y) (h : value y ≈ value x) (e : n ≡ pos_part (pos 0 -ℤ y.e)) where
  bits : n ≡ neg_part y.e
  bits = e ∙ depth y.e

  pub one_is : n < 32 → one_or_more ≡ decimal_of up x
  one_is l = sym (is_one up x (unfold below_1 in above_no _ _ (≼_trans at_least (≼_of h))))
    where
      at_least : whole 1 ≼ value y
      at_least =
          let w : neg_part y.e ≤ 31 = omega (arith, bits) in
          unfold whole value in record { le = omega (arith, pow_mono w, f.low, mul-le-mul_left y.m (pow_pos (pos_part y.e))) }

  -- n above 0
  module _ (l : 32 ≤ n) where
    flat_y : pos_part y.e ≡ 0
    flat_y = alone y.e (omega (arith, l, bits))
      where
        alone : (z : ℤ) → 0 < neg_part z → pos_part z ≡ 0
        alone (pos k) l = let f : ⊥ = omega arith in absurd f
        alone (negsuc k) l = refl

    exponent_is : y.e ≡ pos 0 -ℤ pos (n - 32 + 32)
    exponent_is = balanced _ _ (omega (arith, l, bits, flat_y, pos_diff (pos 0) (pos (n - 32 + 32)), neg_diff (pos 0) (pos (n - 32 + 32))))

    pub in_binade : n ≤ 174 → InBinade (n - 32) y
    in_binade g = record { bits = f; exponent = exponent_is; deepest = omega arith }

    below : (s : ℕ) → s + 32 ≤ n → value x ⊗ whole (2 ^ s) ≺ whole 1
    below s g = ≼_≺ (mul_mono (≽_of h) (≼_refl _)) (below_power y s f.high flat_y (omega (arith, g, bits)))

    pub tiny_is : 174 < n → {r : Decimal} → 0 < x.m → ((y : Scaled) → 0 < y.m → r ≡ too_small up y) → r ≡ decimal_of up x
    tiny_is g p t = none_is up x (unit (below 0 (omega arith))) refl p (rw (none_reaches up x (below 143 (omega arith))) (omega arith)) t

  pub same_is : 0 < x.m → {r : Decimal} → r ≡ decimal_of up y → r ≡ decimal_of up x
  same_is p e = e ∙ decimal_same up y x h (omega (arith, f.low)) p
