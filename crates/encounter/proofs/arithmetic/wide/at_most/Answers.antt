use mathlib.Core.Path.{◌≡◌, sym, ◌∙◌, ap}
use native.Mathlib.Omega.{arith}
use mathlib.Core.Bool.{true, false}
use Prim.Native.Nat.{◌<◌}
use lib.IntN.{◌-ℤ◌}
use lib.Signed.{lt_z, ◌<ℤ◌}
use mir.Syntax.{w64}
use mir.Val.{of_z}
use mir.Facts.{to_z-of_z}
use Rattle.std.proofs.lemmas.Int.{ints, by_lt_z}
use Rattle.exact.specs.declared.Scaled.{Scaled}
use Rattle.exact.specs.Fraction.{at_most}
use Rattle.exact.specs.Integer.{pos_part}
use Rattle.exact.specs.Scaled.{value, Normal}
use Rattle.exact.proofs.Integers.{pos_diff, gap_above}
use Rattle.exact.proofs.Ranges.{in_fits}
use Rattle.exact.proofs.Operations.{normal}
use Rattle.exact.proofs.Order.{zero_at_most, not_at_most_zero, smaller_exponent, larger_exponent, equal_exponents}
use Rattle.encounter.specs.Private.Loops.{narrow}
use Rattle.encounter.proofs.arithmetic.wide.at_most.Goals as goal

-- two numbers with different exponents
by_exponent : (x y : Scaled) → Normal 32 x → Normal 32 y → (x.e ≡ y.e → ⊥) → lt_z x.e y.e ≡ at_most (value x) (value y)
by_exponent x y n m apart =
    by_lt_z x.e y.e
    (λ l.
    let t : lt_z x.e y.e ≡ true = grind (arith, ints) in
    let p : 0 < pos_part (y.e -ℤ x.e) = omega (arith, ints, pos_diff y.e x.e) in
    t ∙ sym (smaller_exponent 32 x y _ n m p (gap_above x.e y.e (λ e. omega (arith, p, e)))))
    (λ l.
    let t : lt_z x.e y.e ≡ false = grind (arith, ints) in
    let d : y.e <ℤ x.e = omega (arith, ints) in
    let p : 0 < pos_part (x.e -ℤ y.e) = omega (arith, ints, pos_diff x.e y.e) in
    t ∙ sym (larger_exponent 32 x y _ n m p (gap_above y.e x.e (λ e. omega (arith, p, e)))))

pub returns-then-a-eq0 : goal.returns-then-a-eq0
returns-then-a-eq0 c = let a = c.args in sym (zero_at_most (narrow a.a) (narrow a.b) c.if-a-eq0.true)

pub returns-then-b-eq0 : goal.returns-then-b-eq0
returns-then-b-eq0 c =
    sym (not_at_most_zero 32 (narrow c.args.a) (narrow c.args.b) (normal c.requires.0.is_scaled c.if-a-eq0.false) c.if-b-eq0.true)

pub returns-then-a-b : goal.returns-then-a-b
returns-then-a-b c = sym (equal_exponents (narrow c.args.a) (narrow c.args.b) (omega (arith, ints)))

pub returns : goal.returns
returns c =
    let a = to_z-of_z (in_fits c.requires.0) in
    let b = to_z-of_z (in_fits c.requires.1) in
    rw (a, b) (by_exponent (narrow c.args.a) (narrow c.args.b) (normal c.requires.0.is_scaled c.if-a-eq0.false) (normal c.requires.1.is_scaled c.if-b-eq0.false) (λ e. c.if-a-b.false (ap (of_z w64) e)))
