use mathlib.Core.Path.{◌≡◌, ◌∙◌}
use mathlib.Core.Logic.{inr}
use Prim.Native.Nat.{ℕ, ◌+◌, ◌*◌, ◌^◌, ◌<◌}
use native.Mathlib.Nat.{mod-eq_of_lt}
use native.Mathlib.Omega.{arith}
use borrow.Author.Rules.{rules}
use lib.Count.{count_leading_zeros}
use lib.Ieee.{size}
use lib.IntN.{ℤ, pos, ◌-ℤ◌}
use mir.Facts.{to_z-of_z}
use mir.Syntax.{w32, w64}
use mir.Val.{SFits}
use Rattle.exact.specs.Scaled.{scaled, Normal}
use Rattle.exact.proofs.Bits.{leading_size, size_pos}
use Rattle.exact.proofs.Signed.{fits as fits_in, diff_fits_in, longer, pos_fits, neg_fits}
use Rattle.exact.proofs.Integers.{pos_diff, neg_diff}
use Rattle.exact.proofs.Operations.{whole_normal, shift_same}
use Rattle.encounter.proofs.decimals.normal.Goals as goal

-- a mantissa with its highest bit at the top
module _ (m : ℕ) (some : 0 < m) (fits : m < 2 ^ 32) where
  bits : size m + count_leading_zeros 32 m ≡ 32
  bits = omega (arith, leading_size 32 m some fits)

  few : count_leading_zeros 32 m < 32
  few = omega (arith, bits, size_pos m some)

  full : (e : ℤ) → Normal 32 (scaled (m * 2 ^ count_leading_zeros 32 m) e)
  full e = let n = whole_normal 32 m some fits (count_leading_zeros 32 m) bits in record { low = n.low; high = n.high }

pub returns : goal.returns
returns c =
    let a = c.args.x in
    let some = c.requires in
    let fits : a.m < 2 ^ 32 = omega arith in
    let h : SFits w32 a.e = search rules in
    let e = a.e -ℤ pos (count_leading_zeros 32 a.m) in
    let n = full a.m some fits e in
    let l = few a.m some fits in
    let k = count_leading_zeros 32 a.m in
    let ea : c.from-2.result ≡ a.e = c.from-2.ensures ∙ to_z-of_z {w = w32} h in
    let short : SFits w64 (pos k) = fits_in (pos k) (omega (arith, l)) (omega arith) in
    let moved : SFits w64 (a.e -ℤ pos k) = diff_fits_in w64 a.e (pos k) (omega (arith, pos_fits h, l)) (omega (arith, neg_fits h, l)) in
    rw (c.from.ensures, mod-eq_of_lt n.high, ea, c.from-3.ensures, to_z-of_z (longer h), to_z-of_z short, to_z-of_z moved) (
      n,
      record { is_scaled = inr n; above = omega (arith, pos_diff a.e (pos (count_leading_zeros 32 a.m)), pos_fits h, l); below = omega (arith, neg_diff a.e (pos (count_leading_zeros 32 a.m)), neg_fits h, l) },
      shift_same a.m (count_leading_zeros 32 a.m) a.e,
    )
