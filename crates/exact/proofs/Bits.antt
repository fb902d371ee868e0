-- The number of bits, as the code counts it: by leading zeros.
use mathlib.Core.Path.{◌≡◌, ◌∙◌, ap}
use mathlib.Core.Logic.{⊎_elim}
use Prim.Native.Nat.{ℕ, ◌+◌, ◌-◌, ◌*◌, ◌^◌, ◌≤◌, ◌<◌}
use native.Mathlib.Nat.{pow-succ', eq-zero-or-pos}
use native.Mathlib.Omega.{arith}
use lib.Count.{count_leading_zeros, leading_unique}
use lib.Pow.{pow_mono}
use lib.Ieee.{size}
use lib.Ieee.Digits.{size-lt, size-le, size_reaches}
use Rattle.exact.proofs.Fractions.{lt_or_le}

pub size_pos : (n : ℕ) → 0 < n → 0 < size n
size_pos n p = ⊎_elim (λ z. let f : ⊥ = omega (arith, rw z at (size-lt n)) in absurd f) (λ p. p) (eq-zero-or-pos (size n))

-- the highest bit is set
pub size_low : (n : ℕ) → 0 < n → 2 ^ size n ≤ 2 * n
size_low n p =
    let s = size_pos n p in
    let e : 2 ^ size n ≡ 2 * 2 ^ (size n - 1) = ap (λ (x : ℕ). 2 ^ x) (omega arith) ∙ pow-succ' 2 (size n - 1) in
    omega (arith, size_reaches n (size n - 1) (omega arith))

-- s bits or more
pub size_ge : (n s : ℕ) → 2 ^ s ≤ 2 * n → s ≤ size n
size_ge n s l = ⊎_elim (λ c. let f : ⊥ = omega (arith, size-lt n, pow_mono c, pow-succ' 2 (size n)) in absurd f) (λ c. c) (lt_or_le (size n) s)

-- s bits
pub size_is : (n s : ℕ) → n < 2 ^ s → 2 ^ s ≤ 2 * n → size n ≡ s
size_is n s h l = omega (arith, size-le n s h, size_ge n s l)

pub leading_size : (k n : ℕ) → 0 < n → n < 2 ^ k → count_leading_zeros k n + size n ≡ k
leading_size k n p h =
    let l = size-le n k h in
    omega (arith, leading_unique k n (k - size n) (size n) (omega arith) (size-lt n) (omega (arith, size_low n p)))

-- the bits of a u64, as the code counts them
pub bits_are : (n : ℕ) → 0 < n → n < 2 ^ 64 → (count_leading_zeros 64 n ≤ 64) × (64 - count_leading_zeros 64 n ≡ size n)
bits_are n p h = let e = leading_size 64 n p h in (omega (arith, e), omega (arith, e))
