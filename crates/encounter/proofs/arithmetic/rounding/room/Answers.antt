use mathlib.Core.Path.{◌≡◌, ◌∙◌, ap}
use Prim.Native.Nat.{ℕ, ◌-◌, ◌*◌, ◌/◌, ◌^◌, ◌≤◌, ◌<◌}
use native.Mathlib.Nat.{pow-succ'}
use native.Mathlib.Omega.{arith}
use lib.Ieee.{size}
use lib.Ieee.Digits.{size-le}
use Rattle.exact.proofs.Bits.{size_pos}
use Rattle.encounter.proofs.arithmetic.LongDivision.{filled}
use Rattle.encounter.proofs.arithmetic.rounding.room.Goals as goal

module _ (n k s : ℕ) (p : (0 < n) × (n < 2 ^ 48) × (2 ^ 47 ≤ k) × (k < 2 ^ 48)) (is : s ≡ size n) where
  abbrev t : ℕ
  t = 64 - s

  some : (0 < s) × (s ≤ 48)
  some = omega (arith, size_pos n p.0, size-le n 48 p.1)

  -- n to 64 bits
  full : (2 ^ 63 ≤ n * 2 ^ t) × (n * 2 ^ t < 2 ^ 64)
  full = let f = filled n 64 p.0 (omega arith) in rw is (omega (arith, f.low), f.high)

  all : n * 2 ^ t / 65536 < k → (t < 64) × (2 ^ 15 * k ≤ n * 2 ^ t) × (n * 2 ^ t < 2 ^ 16 * k)
  all h = (omega (arith, some), omega (arith, full), omega (arith, full))

  less : k ≤ n * 2 ^ t / 65536 → (t - 1 < 64) × (2 ^ 15 * k ≤ n * 2 ^ (t - 1)) × (n * 2 ^ (t - 1) < 2 ^ 16 * k)
  less h =
      let e : 2 ^ t ≡ 2 * 2 ^ (t - 1) = ap (λ (x : ℕ). 2 ^ x) (omega (arith, some)) ∙ pow-succ' 2 (t - 1) in
      (omega (arith, some), omega (arith, full, ap (λ (x : ℕ). n * x) e), omega (arith, full, ap (λ (x : ℕ). n * x) e))

pub overflow_sub-t : goal.overflow_sub-t
overflow_sub-t c = omega (arith, some _ _ _ c.requires c.bits-t.ensures)

pub followed-requires : goal.followed-requires
followed-requires c = (omega (arith, some _ _ _ c.requires c.bits-t.ensures), (full _ _ _ c.requires c.bits-t.ensures).1)

pub returns-then-followed-k : goal.returns-then-followed-k
returns-then-followed-k c = all _ _ _ c.requires c.bits-t.ensures (rw c.followed.ensures at c.if-followed-k.true)

pub overflow_sub-result : goal.overflow_sub-result
overflow_sub-result c = omega (arith, some _ _ _ c.requires c.bits-t.ensures)

pub returns : goal.returns
returns c = less _ _ _ c.requires c.bits-t.ensures (rw c.followed.ensures at c.if-followed-k.false)
