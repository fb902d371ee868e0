-- A fraction of whole numbers n / d from a quotient of 32 bits: n followed by t zeros and 16 more, and d by zeros to 48 bits.
use mathlib.Core.Path.{◌≡◌, ap}
use mathlib.Core.Bool.{Bool}
use Prim.Native.Nat.{ℕ, ◌+◌, ◌-◌, ◌*◌, ◌/◌, ◌%◌, ◌^◌, ◌≤◌, ◌<◌}
use native.Mathlib.Nat.{le-div_iff_mul-le}
use native.Mathlib.Omega.{arith}
use lib.Dec.{ltb, lit<}
use lib.IntN.{ℤ, pos, ◌-ℤ◌}
use lib.Ieee.{size}
use lib.Ieee.Digits.{size-le}
use lib.Pow.{pow-add}
use Rattle.exact.specs.Fraction.{◌over◌}
use Rattle.exact.specs.Integer.{pos_part, neg_part}
use Rattle.exact.specs.Scaled.{scaled, Normal}
use Rattle.exact.proofs.Integers.{bal_diff}
use Rattle.exact.proofs.Rounding.{Packed}
use Rattle.exact.proofs.Operations.{ratio_packs, whole_normal}

-- n followed by zeros, to w bits
pub filled : (n w : ℕ) → 0 < n → n < 2 ^ w → Normal w (scaled (n * 2 ^ (w - size n)) (pos 0 -ℤ pos (w - size n)))
filled n w np nl = whole_normal w n np nl (w - size n) (omega (arith, size-le n w nl))

module _ (n d s t k : ℕ) (dp : 0 < d) (dl : d < 2 ^ 48) (s-is : s ≡ size d) (k-is : k ≡ d * 2 ^ (48 - s)) where
  pub few : s ≤ 48
  few = omega (arith, size-le d 48 dl)

  pub full : (2 ^ 47 ≤ k) × (k < 2 ^ 48)
  full = let f = filled d 48 dp dl in rw (k-is, s-is) (omega (arith, f.low), f.high)

  some : 0 < k
  some = omega (arith, full)

  abbrev e : ℤ
  e = pos 32 -ℤ pos (s + t)

  powers : 2 ^ neg_part e * 2 ^ (48 - s) ≡ 2 ^ pos_part e * 2 ^ t * 2 ^ 16
  powers =
      let b : neg_part e + (48 - s) ≡ pos_part e + t + 16 = omega (arith, bal_diff (pos 32) (pos (s + t)), few) in
      simp (pow-add 2) at (ap (λ (x : ℕ). 2 ^ x) b)

  is : n * (k * 2 ^ neg_part e) ≡ n * 2 ^ t * 65536 * 2 ^ pos_part e * d
  is = rw k-is (omega (arith, ap (λ (x : ℕ). n * d * x) powers))

  pub divides : (up : Bool) → 2 ^ 15 * k ≤ n * 2 ^ t
      → (2 ^ 31 ≤ n * 2 ^ t * 65536 / k) × Packed up 32 (n over d) (n * 2 ^ t * 65536 / k) e (ltb 0 (n * 2 ^ t * 65536 % k))
  divides up l =
      let low : 2 ^ 31 ≤ n * 2 ^ t * 65536 / k = (le-div_iff_mul-le some).1 (omega arith) in
      (low, ratio_packs up 32 n d (n * 2 ^ t * 65536) k e (lit< tt) dp some (omega arith) is)
