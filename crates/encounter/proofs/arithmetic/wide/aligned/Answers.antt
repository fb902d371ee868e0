use mathlib.Core.Path.{◌≡◌}
use mathlib.Core.Bool.{Bool}
use Prim.Native.Nat.{ℕ, ◌/◌, ◌%◌, ◌^◌, ◌≤◌}
use native.Mathlib.Nat.{mul-le-mul_left}
use native.Mathlib.Omega.{arith}
use lib.Dec.{ltb, lit<}
use lib.IntN.{pos, ◌+ℤ◌, ◌-ℤ◌, nat_abs}
use lib.Pow.{pow_pos}
use mir.Facts.{to_z-of_z}
use Rattle.std.proofs.lemmas.Int.{ints}
use Rattle.exact.proofs.Ranges.{in_fits}
use Rattle.exact.proofs.Operations.{sum_packs}
use Rattle.encounter.specs.Private.Loops.{narrow, whole_part}
use Rattle.encounter.proofs.arithmetic.Results.{read, fitted_rounds}
use Rattle.encounter.proofs.arithmetic.WholeParts.{whole_le, whole_more}
use Rattle.encounter.proofs.arithmetic.wide.aligned.Goals as goal

-- at most the number that is shifted
under : (up : Bool) (y r g : ℕ) → r ≡ whole_part up (y / 2 ^ g) (ltb 0 (y % 2 ^ g)) → r ≤ y
under up y r g e = whole_le up y (2 ^ g) y r (pow_pos g) (omega (arith, mul-le-mul_left y (pow_pos g))) e

pub overflow_add-a : goal.overflow_add-a
overflow_add-a c = record { fits = omega (arith, under _ _ _ _ c.shifted-below.ensures.0, c.requires.2.high, c.requires.3.high) }

pub fit-requires : goal.fit-requires
fit-requires c = (
  omega (arith, under _ _ _ _ c.shifted-below.ensures.0, c.requires.2.high, c.requires.3.high),
  omega (arith, ints),
)

pub returns : goal.returns
returns c =
    let s = c.shifted-below.ensures in
    let gap = nat_abs (read (read c.args.a.e -ℤ read c.args.b.e)) in
    let e : c.args.a.e ≡ c.args.b.e +ℤ pos gap = omega (arith, ints) in
    let k = sum_packs c.args.up 32 (narrow c.args.a) (narrow c.args.b) gap (lit< tt) c.requires.2 e in
    fitted_rounds (rw (to_z-of_z (in_fits c.requires.0)) at c.fit.ensures) (omega (arith, c.requires.2.low)) (whole_more _ _ _ _ _ s.0, s.1) k
