use mathlib.Core.Path.{◌≡◌}
use Prim.Native.Nat.{ℕ, ◌+◌, ◌/◌, ◌^◌, ◌<◌}
use native.Mathlib.Nat.{div-le_self}
use native.Mathlib.Omega.{arith}
use lib.IntN.{ℤ, pos, ◌+ℤ◌}
use lib.Signed.{◌<ℤ◌}
use mir.Syntax.{w64}
use mir.Val.{SFits, to_z}
use Rattle.std.proofs.lemmas.Int.{ints}
use Rattle.encounter.proofs.arithmetic.Results.{read}
use Rattle.encounter.proofs.arithmetic.WholeParts.{fit_packs, fit_loses}
use Rattle.encounter.specs.Private.Loops.{whole_part}
use Rattle.encounter.proofs.arithmetic.rounding.fit.Goals as goal

-- with a quotient of a number of 33 bits
added : (e : ℤ) (a d : ℕ) → SFits w64 e → e <ℤ pos (2 ^ 32) → a < 2 ^ 33 → read (read e +ℤ to_z w64 (a / d)) ≡ e +ℤ pos (a / d)
added e a d f l k = omega (arith, ints, div-le_self a d)

pub returns : goal.returns
returns c h s low (is, rest) =
    let k : whole_part c.args.up h s + 1 < 2 ^ 33 = rw is at c.requires.0 in
    (rw (c.upward.ensures, added c.args.e c.args.w.part _ c.ranges.e c.requires.1 (omega arith), is) (fit_packs c.args.up h c.args.e s low k), rw (is, rest) (fit_loses c.args.up h s low k))
