-- Whether a number is 1 or more, by its exponent.
use mathlib.Core.Path.{◌≡◌, refl, sym, ◌∙◌, subst}
use mathlib.Core.Bool.{false}
use mathlib.Core.Logic.{⊎_elim}
use Prim.Native.Nat.{ℕ, suc, ◌*◌, ◌^◌, ◌≤◌, ◌<◌}
use native.Mathlib.Nat.{mul-le-mul_left}
use native.Mathlib.Omega.{arith}
use lib.IntN.{ℤ, pos, negsuc}
use lib.Pow.{pow_pos, pow_mono}
use lib.Signed.{mag, lt_z}
use mir.Syntax.{w32}
use mir.Val.{to_z, of_z}
use borrow.Author.Tests.{lt-ltb, le-ltb, le-leb, lt-leb}
use Rattle.exact.specs.declared.Scaled.{Scaled}
use Rattle.exact.specs.Fraction.{whole, at_most}
use Rattle.exact.specs.Scaled.{scaled, value, IsScaled}
use Rattle.exact.proofs.Signed.{back}
use Rattle.exact.proofs.Operations.{normal, none}
use Rattle.exact.proofs.Fractions.{lt_or_le}

pub zero_below : (x : Scaled) → IsScaled 32 x → x.m ≡ 0 → false ≡ at_most (whole 1) (value x)
unfolding at_most whole value
zero_below x s z = subst (λ (x : Scaled). false ≡ at_most (whole 1) (value x)) (sym (none s z)) refl

by_exponent : (m : ℕ) (e : ℤ) → 2 ^ 32 ≤ 2 * m → m < 2 ^ 32 → lt_z (negsuc 31) e ≡ at_most (whole 1) (value (scaled m e))
unfolding at_most whole value
by_exponent m (pos n) l h = sym (le-leb (1 * 1) (m * 2 ^ n * 1) (omega (arith, mul-le-mul_left m (pow_pos n))))
by_exponent m (negsuc n) l h =
    ⊎_elim
    (λ b. lt-ltb n 31 b ∙ sym (le-leb (1 * 2 ^ suc n) (m * 1 * 1) (omega (arith, pow_mono {i = suc n} {j = 31} b))))
    (λ b. le-ltb n 31 b ∙ sym (lt-leb (1 * 2 ^ suc n) (m * 1 * 1) (omega (arith, pow_mono {i = 32} {j = suc n} (omega arith)))))
    (lt_or_le n 31)

pub one_or_more : (x : Scaled) → IsScaled 32 x → (x.m ≡ 0 → ⊥) → mag x.e < 2 ^ 31 → lt_z (negsuc 31) (to_z w32 (of_z w32 x.e)) ≡ at_most (whole 1) (value x)
one_or_more x s some f = let n = normal s some in rw (back x.e f) (by_exponent x.m x.e n.low n.high)
