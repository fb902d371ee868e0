use mathlib.Core.Path.{◌≡◌}
use Prim.Native.Nat.{ℕ, ◌*◌, ◌^◌, ◌≤◌, ◌<◌}
use native.Mathlib.Nat.{le_of_lt, mul-le-mul, mul-le-mul_left}
use native.Mathlib.Omega.{arith}
use lib.Dec.{lit<}
use lib.IntN.{pos, ◌-ℤ◌}
use lib.Ieee.{size}
use lib.Ieee.Digits.{size-lt, size-le}
use lib.Pow.{pow_mono}
use mir.Syntax.{w64}
use mir.Val.{to_z}
use Rattle.std.proofs.lemmas.Int.{ints}
use Rattle.exact.proofs.Bits.{size_low}
use Rattle.exact.proofs.Packing.{scaled_high}
use Rattle.exact.proofs.Operations.{normal, none, wide, over_packs, over_none}
use Rattle.encounter.specs.Private.Loops.{narrow}
use Rattle.encounter.proofs.arithmetic.Results.{read, fitted_rounds, zero_rounds}
use Rattle.encounter.proofs.arithmetic.WholeParts.{whole_le}
use Rattle.encounter.proofs.arithmetic.wide.over.Goals as goal

module _ (k : ℕ) (kp : 0 < k) (kl : k < 2 ^ 32) (m : ℕ) (ml : m < 2 ^ 32) where
  abbrev n : ℕ
  n = m * 2 ^ size k

  most : n ≤ 18446744069414584320
  most =
      let a : m ≤ 4294967295 = omega arith in
      mul-le-mul a (pow_mono (size-le k 32 kl))

  -- the quotient has at most 33 bits
  short : n ≤ 2 * m * k
  short = omega (arith, mul-le-mul_left m (size_low k kp))

pub returns-then-a-eq0 : goal.returns-then-a-eq0
returns-then-a-eq0 c =
    zero_rounds c.args.up _ c.exact.ensures (none c.requires.0.is_scaled c.if-a-eq0.true) (over_none c.args.up 32 (narrow c.args.a) c.args.k c.if-a-eq0.true)

pub followed-requires : goal.followed-requires
followed-requires c =
    let k = c.args.k in
    rw c.bits-t.ensures (omega (arith, size-le k 32 c.requires.2), omega (arith, most k c.requires.1 c.requires.2 c.args.a.m (scaled_high c.requires.0.is_scaled)))

pub divided-requires : goal.divided-requires
divided-requires c =
    let k = c.args.k in
    (c.requires.1, rw (c.followed.ensures, c.bits-t.ensures) (omega (arith, most k c.requires.1 c.requires.2 c.args.a.m (scaled_high c.requires.0.is_scaled), c.requires.2)))

pub overflow_cast-t : goal.overflow_cast-t
overflow_cast-t c = let l = size-le c.args.k 32 c.requires.2 in omega (arith, ints, c.bits-t.ensures)

pub overflow_sub-a : goal.overflow_sub-a
overflow_sub-a c = let l = size-le c.args.k 32 c.requires.2 in omega (arith, ints, c.bits-t.ensures)

pub fit-requires : goal.fit-requires
fit-requires c =
    let k = c.args.k in
    let ml = scaled_high c.requires.0.is_scaled in
    let l = size-le k 32 c.requires.2 in
    let a = rw (c.followed.ensures, c.bits-t.ensures) at c.divided.ensures in (
      omega (arith, ml, whole_le _ _ _ _ _ c.requires.1 (short k c.requires.1 c.requires.2 c.args.a.m ml) a.0),
      omega (arith, ints, c.bits-t.ensures),
    )

pub returns : goal.returns
returns c =
    let k = c.args.k in
    let s = c.bits-t.ensures in
    let m = normal c.requires.0.is_scaled c.if-a-eq0.false in
    let kl : k ≤ 2 ^ size k = le_of_lt (size-lt k) in
    let low = wide 32 (size k) c.args.a.m k c.requires.1 kl m.low in
    let l = size-le k 32 c.requires.2 in
    let e : read (read c.args.a.e -ℤ to_z w64 c.bits-t.result) ≡ c.args.a.e -ℤ pos (size k) = omega (arith, ints, s) in
    fitted_rounds
    (rw e at c.fit.ensures)
    (omega (arith, low))
    (rw (c.followed.ensures, s) at c.divided.ensures)
    (over_packs c.args.up 32 (size k) (narrow c.args.a) k (lit< tt) m c.requires.1 kl)
