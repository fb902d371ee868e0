-- The whole part of a scaled number, as the code forms it.
use mathlib.Core.Path.{◌≡◌, refl, sym, ap, ◌∙◌}
use mathlib.Core.Logic.{⊎_elim}
use Prim.Native.Nat.{ℕ, ◌*◌, ◌/◌, ◌^◌, ◌≤◌, ◌<◌}
use native.Mathlib.Nat.{mul-one, div-eq_of_lt, lt_of_lt_of_le, mul-le-mul_left}
use native.Mathlib.Omega.{arith}
use lib.IntN.{ℤ, pos, negsuc, ◌-ℤ◌}
use lib.Pow.{pow_pos, pow_mono}
use Rattle.exact.specs.declared.Scaled.{Scaled}
use Rattle.exact.specs.Integer.{pos_part, neg_part}
use Rattle.exact.specs.Fraction.{whole}
use Rattle.exact.specs.Scaled.{scaled, value, IsScaled}
use Rattle.exact.specs.Decimals.{floor}
use Rattle.exact.proofs.Fractions.{◌≺◌}
use Rattle.exact.proofs.Integers.{pos_diff}

-- how far an exponent is below 0
pub depth : (e : ℤ) → pos_part (pos 0 -ℤ e) ≡ neg_part e
depth (pos n) = omega (arith, pos_diff (pos 0) (pos n))
depth (negsuc n) = omega (arith, pos_diff (pos 0) (negsuc n))

floor_is : (p : Scaled) → pos_part p.e ≡ 0 → floor (value p) ≡ p.m / 2 ^ neg_part p.e
unfolding floor value
floor_is p z = rw (z, mul-one p.m)

module _ (p : Scaled) (n : ℕ) (z : pos_part p.e ≡ 0) (e : n ≡ pos_part (pos 0 -ℤ p.e)) where
  pub part : p.m / 2 ^ n ≡ floor (value p)
  part = ap (λ (k : ℕ). p.m / 2 ^ k) (e ∙ depth p.e) ∙ sym (floor_is p z)

  -- past the 32 bits of m nothing is left
  pub no_part : p.m < 2 ^ 32 → 63 < n → 0 ≡ floor (value p)
  no_part h l = let w : 32 ≤ n = omega arith in sym (div-eq_of_lt (lt_of_lt_of_le h (pow_mono w))) ∙ part

-- below 10,001 an exponent is not above 0
flat_at : (m : ℕ) (e : ℤ) → 2 ^ 32 ≤ 2 * m → value (scaled m e) ≺ whole 10001 → pos_part e ≡ 0
unfolding value whole
flat_at m (pos n) l h = let f : ⊥ = omega (arith, l, h.lt, mul-le-mul_left m (pow_pos n)) in absurd f
flat_at m (negsuc n) l h = refl

pub flat : (p : Scaled) → IsScaled 32 p → value p ≺ whole 10001 → pos_part p.e ≡ 0
flat p s h = ⊎_elim (λ e. ap (λ (y : Scaled). pos_part y.e) e) (λ n. flat_at p.m p.e n.low h) s
