use mathlib.Core.Path.{◌≡◌}
use Prim.Native.Nat.{◌*◌}
use native.Mathlib.Nat.{le_of_lt, mul-le-mul_left}
use native.Mathlib.Omega.{arith}
use lib.Dec.{lit<}
use lib.IntN.{pos, ◌-ℤ◌}
use Rattle.std.proofs.lemmas.Int.{ints}
use Rattle.exact.proofs.Packing.{scaled_high}
use Rattle.exact.proofs.Operations.{normal, none, wide, per_packs, per_none}
use Rattle.encounter.specs.Private.Loops.{narrow}
use Rattle.encounter.proofs.arithmetic.Results.{read, fitted_rounds, zero_rounds}
use Rattle.encounter.proofs.arithmetic.WholeParts.{whole_le}
use Rattle.encounter.proofs.arithmetic.wide.quotient.Goals as goal

pub returns-then-a-eq0 : goal.returns-then-a-eq0
returns-then-a-eq0 c =
    zero_rounds c.args.up _ c.exact.ensures (none c.requires.0.is_scaled c.if-a-eq0.true) (per_none c.args.up 32 (narrow c.args.a) (narrow c.args.b) c.if-a-eq0.true)

pub fit-requires : goal.fit-requires
fit-requires c =
    let a = rw c.followed.ensures at c.divided.ensures in (
      omega (arith, scaled_high c.requires.0.is_scaled, whole_le _ _ _ (2 * c.args.a.m) _ (omega (arith, c.requires.2.low)) (omega (arith, mul-le-mul_left c.args.a.m c.requires.2.low)) a.0),
      omega (arith, ints),
    )

pub returns : goal.returns
returns c =
    let n = normal c.requires.0.is_scaled c.if-a-eq0.false in
    let low = wide 32 32 c.args.a.m c.args.b.m (omega (arith, c.requires.2.low)) (le_of_lt c.requires.2.high) n.low in
    let e : read (read (read c.args.a.e -ℤ read c.args.b.e) -ℤ pos 32) ≡ c.args.a.e -ℤ c.args.b.e -ℤ pos 32 = omega (arith, ints) in
    fitted_rounds
    (rw e at c.fit.ensures)
    (omega (arith, low))
    (rw c.followed.ensures at c.divided.ensures)
    (per_packs c.args.up 32 (narrow c.args.a) (narrow c.args.b) (lit< tt) n c.requires.2)
