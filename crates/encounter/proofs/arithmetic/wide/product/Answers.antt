use mathlib.Core.Path.{◌≡◌, refl}
use Prim.Native.Nat.{ℕ, ◌*◌, ◌^◌, ◌≤◌, ◌<◌}
use native.Mathlib.Nat.{mul-le-mul, zero-mul, mul-zero}
use native.Mathlib.Omega.{arith}
use lib.Dec.{lit<}
use lib.IntN.{pos, ◌+ℤ◌}
use Rattle.std.proofs.lemmas.Int.{ints}
use Rattle.exact.proofs.Packing.{scaled_high}
use Rattle.exact.proofs.Operations.{normal, product_high_packs, product_none}
use Rattle.encounter.specs.Private.Loops.{narrow}
use Rattle.encounter.proofs.arithmetic.Results.{read, fitted_rounds, zero_rounds}
use Rattle.encounter.proofs.arithmetic.WholeParts.{whole_le}
use Rattle.encounter.proofs.arithmetic.wide.product.Goals as goal

-- the product of two mantissas is at most (2^32 - 1)²
most : {m n : ℕ} → m < 2 ^ 32 → n < 2 ^ 32 → m * n ≤ 18446744065119617025
most {m} {n} h k =
    let a : m ≤ 4294967295 = omega arith in
    let b : n ≤ 4294967295 = omega arith in
    mul-le-mul a b

pub returns-then-h-eq0 : goal.returns-then-h-eq0
returns-then-h-eq0 c =
    zero_rounds c.args.up _ c.exact.ensures refl (product_none c.args.up 32 (narrow c.args.a) (narrow c.args.b) c.if-h-eq0.true)

pub fit-requires : goal.fit-requires
fit-requires c = (
  omega (arith, whole_le _ _ _ 8589934590 _ (lit< tt) (omega (arith, most (scaled_high c.requires.0.is_scaled) (scaled_high c.requires.1.is_scaled))) c.divided.ensures.0),
  omega (arith, ints),
)

pub returns : goal.returns
returns c =
    let h = c.args.a.m * c.args.b.m in
    let some = c.if-h-eq0.false in
    let m = normal c.requires.0.is_scaled (λ e. some (rw e (zero-mul c.args.b.m))) in
    let n = normal c.requires.1.is_scaled (λ e. some (rw e (mul-zero c.args.a.m))) in
    let low : 2 ^ 62 ≤ h = omega (arith, mul-le-mul m.low n.low) in
    let e : read (read (read c.args.a.e +ℤ read c.args.b.e) +ℤ pos 31) ≡ c.args.a.e +ℤ c.args.b.e +ℤ pos 31 = omega (arith, ints) in
    fitted_rounds
    (rw e at c.fit.ensures)
    (omega arith)
    c.divided.ensures
    (product_high_packs c.args.up 32 31 (narrow c.args.a) (narrow c.args.b) (lit< tt) (omega arith))
