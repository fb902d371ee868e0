-- What each operation on scaled numbers hands to `pack`: a whole number h, an exponent e and whether a rest is left, and that this packs to the rounding of
-- the exact result.
use mathlib.Core.Path.{◌≡◌, refl, ap}
use mathlib.Core.Bool.{Bool, false}
use mathlib.Core.Logic.{inl, inr}
use Prim.Native.Nat.{ℕ, zero, suc, ◌+◌, ◌-◌, ◌*◌, ◌/◌, ◌%◌, ◌^◌, ◌≤◌, ◌<◌}
use native.Mathlib.Nat.{mul-le-mul_left, mul-le-mul_right, mul-pos, mul-add-div_right, mul-add-mod_self_right, le-div_iff_mul-le, suc-pred-eq_of_pos, zero-lt-suc}
use native.Mathlib.Omega.{arith}
use lib.Dec.{ltb}
use lib.IntN.{ℤ, pos, ◌+ℤ◌, ◌-ℤ◌}
use lib.Pow.{pow_pos, pow-add, shl_lt}
use lib.Ieee.{size}
use lib.Ieee.Digits.{size-lt, size-le}
use Rattle.exact.specs.declared.Scaled.{Scaled}
use Rattle.exact.specs.Integer.{pos_part, neg_part}
use Rattle.exact.specs.Fraction.{Frac, ◌≈◌, ◌⊕◌, ◌⊗◌, ◌÷◌, ◌⊘◌, ◌over◌, whole}
use Rattle.exact.specs.Scaled.{scaled, nought, value, Normal, IsScaled, lost}
use Rattle.exact.specs.Private.Round.{round}
use Rattle.exact.proofs.Integers.{bal_add, bal_diff}
use Rattle.exact.proofs.Fractions.{≈_trans, add_comm}
use Rattle.exact.proofs.Bits.{size_low}
use Rattle.exact.proofs.Grid.{near_exact, near_quotient}
use Rattle.exact.proofs.Rounding.{Packed, pack_round, zero_round, round_exact, round_cong, lost_none, lost_cong}

pub normal : {b : ℕ} {x : Scaled} → IsScaled b x → (x.m ≡ 0 → ⊥) → Normal b x
normal (inl z) h = absurd (h (ap (λ (y : Scaled). y.m) z))
normal (inr n) h = n

pub none : {b : ℕ} {x : Scaled} → IsScaled b x → x.m ≡ 0 → x ≡ nought
none (inl z) h = z
none {b} (inr n) h = let f : ⊥ = omega (arith, n.low, pow_pos b) in absurd f

-- 2^a for a sum a
powers : {a b : ℕ} → a ≡ b → 2 ^ a ≡ 2 ^ b
powers e = ap (λ (x : ℕ). 2 ^ x) e

-- h × 2^e
exact_packs : (up : Bool) (b : ℕ) (q : Frac) (h : ℕ) (e : ℤ) → 0 < b → 2 ^ b ≤ 2 * h → q.num * 2 ^ neg_part e ≡ h * 2 ^ pos_part e * q.den → Packed up b q h e false
exact_packs up b q h e bp l is = pack_round up b q h e false bp l (near_exact q h (pos_part e) (neg_part e) is)

-- n / d × 2^e, from the quotient of n and d and whether a remainder is left
quotient_packs : (up : Bool) (b : ℕ) (q : Frac) (n d : ℕ) (e : ℤ) → 0 < b → 0 < d → 2 ^ b ≤ 2 * (n / d) → q.num * (d * 2 ^ neg_part e) ≡ n * 2 ^ pos_part e * q.den
    → Packed up b q (n / d) e (ltb 0 (n % d))
quotient_packs up b q n d e bp dp l is = pack_round up b q (n / d) e (ltb 0 (n % d)) bp l (near_quotient q n d (pos_part e) (neg_part e) dp is)

-- the product
pub product_packs : (up : Bool) (b : ℕ) (x y : Scaled) → 0 < b → Normal b x → Normal b y → Packed up b (value x ⊗ value y) (x.m * y.m) (x.e +ℤ y.e) false
unfolding value ◌⊗◌
product_packs up b x y bp n n' =
    exact_packs up b (value x ⊗ value y) (x.m * y.m) (x.e +ℤ y.e) bp
    (let one : 1 ≤ y.m = omega (arith, n'.low, pow_pos b) in omega (arith, n.low, mul-le-mul_left x.m one))
    (omega (arith, ap (λ (z : ℕ). x.m * y.m * z) (simp (pow-add 2) at (powers (bal_add x.e y.e)))))

-- the same, its last w bits cut off
pub product_high_packs : (up : Bool) (b w : ℕ) (x y : Scaled) → 0 < b → 2 ^ b ≤ 2 * (x.m * y.m / 2 ^ w)
    → Packed up b (value x ⊗ value y) (x.m * y.m / 2 ^ w) (x.e +ℤ y.e +ℤ pos w) (ltb 0 (x.m * y.m % 2 ^ w))
product_high_packs up b w x y bp l = quotient_packs up b (value x ⊗ value y) (x.m * y.m) (2 ^ w) e bp (pow_pos w) l is
  where
    e : ℤ
    e = x.e +ℤ y.e +ℤ pos w

    bal : pos_part x.e + pos_part y.e + w + neg_part e ≡ pos_part e + neg_part x.e + neg_part y.e
    bal = omega (arith, bal_add x.e y.e, bal_add (x.e +ℤ y.e) (pos w))

    powers_are : 2 ^ pos_part x.e * 2 ^ pos_part y.e * 2 ^ w * 2 ^ neg_part e ≡ 2 ^ pos_part e * 2 ^ neg_part x.e * 2 ^ neg_part y.e
    powers_are = simp (pow-add 2) at (powers bal)

    is : (value x ⊗ value y).num * (2 ^ w * 2 ^ neg_part e) ≡ x.m * y.m * 2 ^ pos_part e * (value x ⊗ value y).den
    is = unfold value ◌⊗◌ in omega (arith, ap (λ (z : ℕ). x.m * y.m * z) powers_are)

pub product_none : (up : Bool) (b : ℕ) (x y : Scaled) → x.m * y.m ≡ 0 → round up b (value x ⊗ value y) ≡ nought
product_none up b x y z = zero_round up b (value x ⊗ value y) (unfold value ◌⊗◌ in omega (arith, ap (λ (n : ℕ). n * (2 ^ pos_part x.e * 2 ^ pos_part y.e)) z))

-- the sum, x's exponent g above y's: y's mantissa is g bits down from x's
pub sum_packs : (up : Bool) (b : ℕ) (x y : Scaled) (g : ℕ) → 0 < b → Normal b x → x.e ≡ y.e +ℤ pos g
    → Packed up b (value x ⊕ value y) (x.m + y.m / 2 ^ g) x.e (ltb 0 (y.m % 2 ^ g))
sum_packs up b x y g bp n e =
    rw (← quotient_is, ← rest_is)
    (quotient_packs up b (value x ⊕ value y) (x.m * 2 ^ g + y.m) (2 ^ g) x.e bp (pow_pos g)
    (rw quotient_is (omega (arith, n.low))) is)
  where
    quotient_is : (x.m * 2 ^ g + y.m) / 2 ^ g ≡ x.m + y.m / 2 ^ g
    quotient_is = mul-add-div_right (pow_pos g) x.m y.m

    rest_is : (x.m * 2 ^ g + y.m) % 2 ^ g ≡ y.m % 2 ^ g
    rest_is = mul-add-mod_self_right x.m (2 ^ g) y.m

    bal : pos_part x.e + neg_part y.e ≡ pos_part y.e + g + neg_part x.e
    bal = rw e (omega (arith, bal_add y.e (pos g)))

    bal_y : 2 ^ pos_part x.e * 2 ^ neg_part y.e ≡ 2 ^ pos_part y.e * 2 ^ g * 2 ^ neg_part x.e
    bal_y = simp (pow-add 2) at (powers bal)

    is : (value x ⊕ value y).num * (2 ^ g * 2 ^ neg_part x.e) ≡ (x.m * 2 ^ g + y.m) * 2 ^ pos_part x.e * (value x ⊕ value y).den
    is = unfold value ◌⊕◌ in omega (arith, ap (λ (z : ℕ). y.m * 2 ^ neg_part x.e * z) bal_y)

pub sum_none : (up : Bool) (b : ℕ) (x y : Scaled) → 0 < b → IsScaled b x → y.m ≡ 0 → round up b (value x ⊕ value y) ≡ x
sum_none up b x y bp n z = round_exact up b bp n (unfold value ◌⊕◌ in record { eq = rw z (omega arith) })

pub sum_kept : (up : Bool) (b : ℕ) (x y : Scaled) → 0 < b → IsScaled b x → y.m ≡ 0 → lost up b (value x ⊕ value y) ≡ false
sum_kept up b x y bp n z = lost_none up b _ (rw (sum_none up b x y bp n z) (unfold value ◌⊕◌ in record { eq = rw z (omega arith) }))

pub sum_comm : (up : Bool) (b : ℕ) (x y : Scaled) → 0 < b → round up b (value x ⊕ value y) ≡ round up b (value y ⊕ value x)
sum_comm up b x y bp = round_cong up b bp (add_comm (value x) (value y))

pub lost_comm : (up : Bool) (b : ℕ) (x y : Scaled) → 0 < b → lost up b (value x ⊕ value y) ≡ lost up b (value y ⊕ value x)
lost_comm up b x y bp = lost_cong up b bp (add_comm (value x) (value y))

-- a mantissa of b bits, followed by w zeros and divided by at most 2^w, has b bits or more
pub wide : (b w m k : ℕ) → 0 < k → k ≤ 2 ^ w → 2 ^ b ≤ 2 * m → 2 ^ b ≤ 2 * (m * 2 ^ w / k)
wide b w m k kp kl l = let r : m ≤ m * 2 ^ w / k = (le-div_iff_mul-le kp).1 (mul-le-mul_left m kl) in omega arith

-- the quotient by a whole number
pub over_packs : (up : Bool) (b w : ℕ) (x : Scaled) (k : ℕ) → 0 < b → Normal b x → 0 < k → k ≤ 2 ^ w
    → Packed up b (value x ÷ k) (x.m * 2 ^ w / k) (x.e -ℤ pos w) (ltb 0 (x.m * 2 ^ w % k))
over_packs up b w x k bp n kp kl = quotient_packs up b (value x ÷ k) (x.m * 2 ^ w) k (x.e -ℤ pos w) bp kp (wide b w x.m k kp kl n.low) is
  where
    bal : 2 ^ pos_part (x.e -ℤ pos w) * (2 ^ neg_part x.e * 2 ^ w) ≡ 2 ^ pos_part x.e * 2 ^ 0 * 2 ^ neg_part (x.e -ℤ pos w)
    bal = simp (pow-add 2) at (powers (bal_diff x.e (pos w)))

    is : (value x ÷ k).num * (k * 2 ^ neg_part (x.e -ℤ pos w)) ≡ x.m * 2 ^ w * 2 ^ pos_part (x.e -ℤ pos w) * (value x ÷ k).den
    is = unfold value ◌÷◌ in rw (suc-pred-eq_of_pos kp) (omega (arith, ap (λ (z : ℕ). x.m * k * z) bal))

pub over_none : (up : Bool) (b : ℕ) (x : Scaled) (k : ℕ) → x.m ≡ 0 → round up b (value x ÷ k) ≡ nought
over_none up b x k z = zero_round up b (value x ÷ k) (unfold value ◌÷◌ in rw z (omega arith))

-- the quotient of two scaled numbers
pub per_packs : (up : Bool) (b : ℕ) (x y : Scaled) → 0 < b → Normal b x → Normal b y
    → Packed up b (value x ⊘ value y) (x.m * 2 ^ b / y.m) (x.e -ℤ y.e -ℤ pos b) (ltb 0 (x.m * 2 ^ b % y.m))
per_packs up b x y bp n n' = quotient_packs up b (value x ⊘ value y) (x.m * 2 ^ b) y.m e bp yp (wide b b x.m y.m yp (omega (arith, n'.high)) n.low) is
  where
    e : ℤ
    e = x.e -ℤ y.e -ℤ pos b

    yp : 0 < y.m
    yp = omega (arith, n'.low, pow_pos b)

    bal : pos_part e + b + pos_part y.e + neg_part x.e ≡ pos_part x.e + neg_part y.e + neg_part e
    bal = omega (arith, bal_diff x.e y.e, bal_diff (x.e -ℤ y.e) (pos b))

    powers_are : 2 ^ pos_part e * 2 ^ b * 2 ^ pos_part y.e * 2 ^ neg_part x.e ≡ 2 ^ pos_part x.e * 2 ^ neg_part y.e * 2 ^ neg_part e
    powers_are = simp (pow-add 2) at (powers bal)

    is : (value x ⊘ value y).num * (y.m * 2 ^ neg_part e) ≡ x.m * 2 ^ b * 2 ^ pos_part e * (value x ⊘ value y).den
    is = unfold value ◌⊘◌ in rw (suc-pred-eq_of_pos (mul-pos yp (pow_pos (pos_part y.e)))) (omega (arith, ap (λ (z : ℕ). x.m * y.m * z) powers_are))

pub per_none : (up : Bool) (b : ℕ) (x y : Scaled) → x.m ≡ 0 → round up b (value x ⊘ value y) ≡ nought
per_none up b x y z = zero_round up b (value x ⊘ value y) (unfold value ◌⊘◌ in rw z (omega arith))

-- n/d of whole numbers, from N/D × 2^e
pub ratio_packs : (up : Bool) (b n d N D : ℕ) (e : ℤ) → 0 < b → 0 < d → 0 < D → 2 ^ b ≤ 2 * (N / D) → n * (D * 2 ^ neg_part e) ≡ N * 2 ^ pos_part e * d
    → Packed up b (n over d) (N / D) e (ltb 0 (N % D))
ratio_packs up b n d N D e bp dp Dp l is = quotient_packs up b (n over d) N D e bp Dp l (unfold ◌over◌ in rw (suc-pred-eq_of_pos dp) is)

pub ratio_none : (up : Bool) (b n d : ℕ) → n ≡ 0 → round up b (n over d) ≡ nought
ratio_none up b n d z = zero_round up b (n over d) (unfold ◌over◌ in z)

-- a whole number below 2^b is exact: its bits with_exponent up to b
module _ (b n : ℕ) (np : 0 < n) (nl : n < 2 ^ b) where
  pub whole_normal : (t : ℕ) → size n + t ≡ b → Normal b (scaled (n * 2 ^ t) (pos 0 -ℤ pos t))
  whole_normal t e = record {
    low = rw (← e, pow-add 2 (size n) t) (omega (arith, mul-le-mul_right (2 ^ t) (size_low n np)));
    high = rw (← e) (shl_lt (size n) t (size-lt n));
  }

-- more zeros at the end of m, and e as much lower
pub shift_same : (n t : ℕ) (e : ℤ) → value (scaled (n * 2 ^ t) (e -ℤ pos t)) ≈ value (scaled n e)
shift_same n t e = record { eq = is }
  where
    bal : 2 ^ pos_part (e -ℤ pos t) * (2 ^ neg_part e * 2 ^ t) ≡ 2 ^ pos_part e * 2 ^ 0 * 2 ^ neg_part (e -ℤ pos t)
    bal = simp (pow-add 2) at (powers (bal_diff e (pos t)))

    is : (value (scaled (n * 2 ^ t) (e -ℤ pos t))).num * (value (scaled n e)).den ≡ (value (scaled n e)).num * (value (scaled (n * 2 ^ t) (e -ℤ pos t))).den
    is = unfold value in omega (arith, ap (λ (z : ℕ). n * z) bal)

pub whole_same : (n t : ℕ) → value (scaled (n * 2 ^ t) (pos 0 -ℤ pos t)) ≈ whole n
whole_same n t = ≈_trans (shift_same n t (pos 0)) (record { eq = unfold value whole in omega arith })

pub whole_round : (up : Bool) (b n t : ℕ) → 0 < b → 0 < n → n < 2 ^ b → size n + t ≡ b → round up b (whole n) ≡ scaled (n * 2 ^ t) (pos 0 -ℤ pos t)
whole_round up b n t bp np nl e = round_exact up b bp (inr (whole_normal b n np nl t e)) (whole_same n t)

pub whole_none : (up : Bool) (b : ℕ) → round up b (whole 0) ≡ nought
whole_none up b = zero_round up b (whole 0) (unfold whole in refl)

pub whole_exact : (up : Bool) (b n : ℕ) → 0 < b → n < 2 ^ b → value (round up b (whole n)) ≈ whole n
whole_exact up b zero bp nl = rw (whole_none up b) (unfold value whole in record { eq = refl })
whole_exact up b (suc n) bp nl = rw (whole_round up b (suc n) (b - size (suc n)) bp (zero-lt-suc n) nl (omega (arith, size-le (suc n) b nl))) (whole_same (suc n) _)
