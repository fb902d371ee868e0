use mathlib.Core.Path.{◌≡◌, ◌∙◌}
use Prim.Native.Nat.{◌*◌, ◌^◌, ◌≤◌}
use native.Mathlib.Nat.{le_of_lt}
use native.Mathlib.Omega.{arith}
use lib.Dec.{lit<}
use lib.IntN.{pos, ◌-ℤ◌}
use lib.Ieee.Digits.{size-lt}
use mir.Syntax.{w64}
use mir.Val.{to_z}
use Rattle.std.proofs.lemmas.Int.{ints}
use Rattle.exact.proofs.Packing.{scaled_high}
use Rattle.exact.proofs.Operations.{normal, none, wide, over_packs, over_none}
use Rattle.encounter.specs.Private.Loops.{narrow}
use Rattle.encounter.proofs.arithmetic.Results.{read, fitted_rounds, zero_rounds}
use Rattle.encounter.proofs.arithmetic.WholeParts.{whole_le}
use Rattle.encounter.proofs.arithmetic.Reciprocals.{few, formed, h_le, low_product, quotient_is}
use Rattle.encounter.proofs.arithmetic.wide.over_by.Goals as goal

pub returns-then-a-eq0 : goal.returns-then-a-eq0
returns-then-a-eq0 c =
    zero_rounds c.args.up _ c.exact.ensures (none c.requires.0.is_scaled c.if-a-eq0.true) (over_none c.args.up 32 (narrow c.args.a) c.args.by.k c.if-a-eq0.true)

pub overflow_mul-h : goal.overflow_mul-h
overflow_mul-h c =
    let ml = scaled_high c.requires.0.is_scaled in
    record { fits = omega (arith, ml, formed c.args.a.m ml c.args.by c.requires.1, h_le c.args.a.m ml c.args.by c.requires.1) }

pub overflow_mul-h-2 : goal.overflow_mul-h-2
overflow_mul-h-2 c = record { fits = low_product c.args.a.m (scaled_high c.requires.0.is_scaled) c.args.by c.requires.1 }

pub overflow_add-h : goal.overflow_add-h
overflow_add-h c =
    let ml = scaled_high c.requires.0.is_scaled in
    record { fits = omega (arith, ml, formed c.args.a.m ml c.args.by c.requires.1, h_le c.args.a.m ml c.args.by c.requires.1) }

pub divided-requires : goal.divided-requires
divided-requires c =
    let ml = scaled_high c.requires.0.is_scaled in
    (lit< tt, omega (arith, ml, formed c.args.a.m ml c.args.by c.requires.1, h_le c.args.a.m ml c.args.by c.requires.1))

pub overflow_cast-by : goal.overflow_cast-by
overflow_cast-by c = let l = few c.args.by.k c.requires.1.some c.requires.1.small in omega (arith, ints, c.requires.1.bits_are)

pub overflow_sub-a : goal.overflow_sub-a
overflow_sub-a c = let l = few c.args.by.k c.requires.1.some c.requires.1.small in omega (arith, ints, c.requires.1.bits_are)

pub fit-requires : goal.fit-requires
fit-requires c =
    let ml = scaled_high c.requires.0.is_scaled in
    let l = few c.args.by.k c.requires.1.some c.requires.1.small in (
      omega (arith, ml, whole_le _ _ _ (2 * c.args.a.m) _ (lit< tt) (omega (arith, formed c.args.a.m ml c.args.by c.requires.1, h_le c.args.a.m ml c.args.by c.requires.1)) c.divided.ensures.0),
      omega (arith, ints, c.requires.1.bits_are),
    )

pub returns : goal.returns
returns c =
    let k = c.args.by.k in
    let i = c.requires.1 in
    let ml = scaled_high c.requires.0.is_scaled in
    let m = normal c.requires.0.is_scaled c.if-a-eq0.false in
    let kl : k ≤ 2 ^ c.args.by.bits = rw i.bits_are (le_of_lt (size-lt k)) in
    let low = wide 32 c.args.by.bits c.args.a.m k i.some kl m.low in
    let q = quotient_is c.args.a.m ml c.args.by i c.args.up in
    let a = rw (formed c.args.a.m ml c.args.by i) at c.divided.ensures in
    let l = few k i.some i.small in
    let e : read (read c.args.a.e -ℤ to_z w64 c.args.by.bits) ≡ c.args.a.e -ℤ pos c.args.by.bits = omega (arith, ints, i.bits_are) in
    fitted_rounds
    (rw e at c.fit.ensures)
    (omega (arith, low))
    (a.0 ∙ q.0, a.1 ∙ q.1)
    (over_packs c.args.up 32 c.args.by.bits (narrow c.args.a) k (lit< tt) m i.some kl)
