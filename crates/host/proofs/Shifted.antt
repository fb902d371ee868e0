-- An exponent e moved up by w, so that it is not negative: its cast to an unsigned number. And which exponents fit an i32.
use mathlib.Core.Path.{◌≡◌}
use mathlib.Core.Bool.{false}
use Prim.Native.Nat.{◌+◌, ◌≤◌, zero-le}
use native.Mathlib.Omega.{arith}
use lib.IntN.{ℤ, pos, negsuc, ◌+ℤ◌, nat_abs}
use lib.Signed.{lt_z}
use borrow.Author.Tests.{le-ltb}
use mir.Facts.{to_z-of_z}
use mir.Syntax.{w32}
use mir.Val.{SFits, to_z, of_z}
use Rattle.exact.specs.declared.Scaled.{Scaled}
use Rattle.exact.specs.Integer.{pos_part, neg_part}
use Rattle.exact.specs.Private.Ranges.{InRange}
use Rattle.exact.proofs.Integers.{neg_add, pos_add}
use Rattle.exact.proofs.Signed.{fits, nonnegative_abs}
use Rattle.host.specs.Private.Fitting.{double_range}

not_below : (z : ℤ) → neg_part z ≡ 0 → lt_z z (pos 0) ≡ false
not_below (pos n) h = le-ltb n 0 zero-le
not_below (negsuc n) h = let f : ⊥ = omega arith in absurd f

module _ (e w : ℤ) (f : SFits w32 (e +ℤ w)) (up : neg_part w ≡ 0) (l : neg_part e ≤ pos_part w) where
  none_below : neg_part (e +ℤ w) ≡ 0
  none_below = omega (arith, neg_add e w)

  pub moved : nat_abs (to_z w32 (of_z w32 (e +ℤ w))) + neg_part e ≡ pos_part e + pos_part w
  moved = rw (to_z-of_z {w = w32} f) (omega (arith, nonnegative_abs (e +ℤ w) (not_below (e +ℤ w) none_below), pos_add e w))

pub in_fits : {x : Scaled} → InRange 32 double_range x → SFits w32 x.e
in_fits {x} h = fits x.e (omega (arith, h.above)) (omega (arith, h.below))
