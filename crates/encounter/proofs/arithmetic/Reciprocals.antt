-- A quotient by way of a reciprocal: the product without its last 32 bits has the quotient's whole part 31 bits up, and a rest below it just where the
-- division leaves one.
use mathlib.Core.Path.{◌≡◌, sym, ap}
use mathlib.Core.Bool.{Bool}
use mathlib.Core.Logic.{⊎_elim}
use Prim.Native.Nat.{ℕ, ◌+◌, ◌*◌, ◌/◌, ◌%◌, ◌^◌, ◌≤◌, ◌<◌}
use native.Mathlib.Nat.{div-mul-le_self, lt-div-mul-add, div-add-mod', mod-lt, mul-add-div_right, mul-le-mul_left, lt_of_mul-lt-mul_right, le_of_mul-le-mul_right, mul-lt-mul_of_pos_right, eq-zero-or-pos}
use native.Mathlib.Omega.{arith}
use borrow.Author.Tests.{lt-ltb}
use lib.Dec.{ltb, lit<}
use lib.Ieee.{size}
use lib.Ieee.Digits.{size-le}
use lib.Pow.{pow_mono}
use Rattle.exact.proofs.Bits.{size_low}
use Rattle.encounter.specs.declared.arithmetic.wide.Reciprocal.{Reciprocal}
use Rattle.encounter.specs.Private.Loops.{whole_part, IsReciprocal}

-- R is 2^63 × p / k, rounded up
module _ (m k p R : ℕ) (ml : m < 2 ^ 32) (kp : 0 < k) (kl : k ≤ 2 ^ 25) (above : 2 ^ 63 * p ≤ R * k) (near : R * k < 2 ^ 63 * p + k) where
  abbrev pub n : ℕ
  n = m * p

  abbrev pub h : ℕ
  h = m * R / 2 ^ 32

  abbrev Q : ℕ
  Q = n / k

  shape : Q * k + n % k ≡ n
  shape = div-add-mod' n k

  -- m × R × k lies from n × 2^63 to less than 2^32 × k above it
  from : 2 ^ 63 * n ≤ m * R * k
  from = omega (arith, mul-le-mul_left m above)

  under : m * R * k < 2 ^ 63 * n + 2 ^ 32 * k
  under =
      let l : R * k ≤ 2 ^ 63 * p + k = omega arith in
      omega (arith, mul-le-mul_left m l, mul-lt-mul_of_pos_right ml kp)

  h_low : h * 2 ^ 32 ≤ m * R
  h_low = div-mul-le_self (m * R) (2 ^ 32)

  h_high : m * R < h * 2 ^ 32 + 2 ^ 32
  h_high = omega (arith, lt-div-mul-add {a = m * R} {b = 2 ^ 32} (lit< tt))

  exact : n % k ≡ 0 → h ≡ Q * 2 ^ 31
  exact z =
      let a : 2 ^ 63 * Q ≤ m * R = le_of_mul-le-mul_right {k = k} (omega (arith, from, ap (λ (x : ℕ). 2 ^ 63 * x) shape, z)) kp in
      let b : m * R < 2 ^ 63 * Q + 2 ^ 32 = lt_of_mul-lt-mul_right k (omega (arith, under, ap (λ (x : ℕ). 2 ^ 63 * x) shape, z)) in
      omega (arith, h_low, h_high)

  between : 0 < n % k → (Q * 2 ^ 31 < h) × (h < Q * 2 ^ 31 + 2 ^ 31)
  between r =
      let l = mod-lt n kp in
      let a : 2 ^ 63 * Q + 2 ^ 38 ≤ m * R = le_of_mul-le-mul_right {k = k} (omega (arith, from, ap (λ (x : ℕ). 2 ^ 63 * x) shape)) kp in
      let b : m * R < 2 ^ 63 * Q + 2 ^ 63 = lt_of_mul-lt-mul_right k (omega (arith, under, ap (λ (x : ℕ). 2 ^ 63 * x) shape)) in
      (omega (arith, h_high), omega (arith, h_low))

  -- the same whole part, and a rest or none
  pub by_reciprocal : (up : Bool)
      → (whole_part up (h / 2147483648) (ltb 0 (h % 2147483648)) ≡ whole_part up (n / k) (ltb 0 (n % k))) × (ltb 0 (h % 2147483648) ≡ ltb 0 (n % k))
  by_reciprocal up =
      ⊎_elim
      (λ z.
      let e = exact z in
      let q : h / 2147483648 ≡ Q = omega (arith, e) in
      let s : h % 2147483648 ≡ 0 = omega (arith, e) in
      (rw (q, s, z), rw (s, z)))
      (λ r.
      let b = between r in
      let q : h / 2147483648 ≡ Q = omega (arith, b) in
      let s : 0 < h % 2147483648 = omega (arith, b) in
      (rw (q, lt-ltb 0 (h % 2147483648) s, lt-ltb 0 (n % k) r), rw (lt-ltb 0 (h % 2147483648) s, lt-ltb 0 (n % k) r)))
      (eq-zero-or-pos (n % k))

-- ---- how the code forms it

module _ (k : ℕ) (kp : 0 < k) (kl : k ≤ 2 ^ 25) where
  pub few : size k ≤ 26
  few = size-le k 26 (omega arith)

  abbrev pub whole : ℕ
  whole = 2147483648 * 2 ^ size k

  pub whole_fits : whole < 2 ^ 64
  whole_fits = omega (arith, pow_mono few)

-- ---- how the code divides by it

module _ (m : ℕ) (ml : m < 2 ^ 32) (r : Reciprocal) (i : IsReciprocal r) where
  abbrev pub all : ℕ
  all = r.high * 2 ^ 32 + r.low

  pub formed : m * r.high + m * r.low / 4294967296 ≡ m * all / 2 ^ 32
  formed =
      let e : m * all ≡ m * r.high * 2 ^ 32 + m * r.low = omega arith in
      sym (rw e (mul-add-div_right (lit< tt) (m * r.high) (m * r.low)))

  all_le : all ≤ 2 ^ 64
  all_le =
      let l : all < 2 ^ 64 + 1 = lt_of_mul-lt-mul_right r.k (omega (arith, i.near, size_low r.k i.some, ap (λ (x : ℕ). 2 ^ x) i.bits_are)) in
      omega arith

  pub h_le : m * all / 2 ^ 32 ≤ m * 2 ^ 32
  h_le = omega (arith, div-mul-le_self (m * all) (2 ^ 32), mul-le-mul_left m all_le)

  pub low_product : m * r.low < 2 ^ 64
  low_product = omega (arith, mul-le-mul_left m i.low_fits)

  pub quotient_is : (up : Bool)
      → (whole_part up (m * all / 2 ^ 32 / 2147483648) (ltb 0 (m * all / 2 ^ 32 % 2147483648)) ≡ whole_part up (m * 2 ^ r.bits / r.k) (ltb 0 (m * 2 ^ r.bits % r.k)))
      × (ltb 0 (m * all / 2 ^ 32 % 2147483648) ≡ ltb 0 (m * 2 ^ r.bits % r.k))
  quotient_is = by_reciprocal m r.k (2 ^ r.bits) all ml i.some i.small i.above i.near
