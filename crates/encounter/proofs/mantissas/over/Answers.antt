use mathlib.Core.Path.{◌≡◌, ap}
use mathlib.Core.Bool.{Bool, false}
use mathlib.Core.Logic.{inr, ⊎_elim}
use Prim.Native.Nat.{ℕ, ◌^◌, ◌≤◌, ◌<◌}
use native.Mathlib.Omega.{arith}
use lib.Dec.{lit≤}
use lib.IntN.{pos}
use borrow.Author.Tests.{eq-eqb, ne_eqb, lt-ltb, le-ltb}
use Rattle.exact.specs.declared.Traced.{Traced}
use Rattle.exact.specs.Fraction.{◌÷◌}
use Rattle.exact.specs.Scaled.{scaled, nought, value}
use Rattle.exact.specs.Private.Ranges.{InRange}
use Rattle.exact.specs.Arithmetic.{rounding}
use Rattle.encounter.specs.Mantissas.{mantissa_over}
use Rattle.encounter.proofs.mantissas.over.Goals as goal

-- ---- the three cases
by_zero : (up : Bool) (m k : ℕ) → k ≡ 0 → nought ≡ mantissa_over up m k
unfolding mantissa_over
by_zero up m k z = rw (eq-eqb k 0 z)

too_small : (up : Bool) (m k : ℕ) → (k ≡ 0 → ⊥) → m < 2 ^ 31 → nought ≡ mantissa_over up m k
unfolding mantissa_over
too_small up m k n l = rw (ne_eqb k 0 n, lt-ltb m (2 ^ 31) l)

divides : (up : Bool) (m k : ℕ) (r : Traced) → (k ≡ 0 → ⊥) → 2 ^ 31 ≤ m → r ≡ rounding up 32 (value (scaled m (pos 0)) ÷ k) false → r.number ≡ mantissa_over up m k
unfolding mantissa_over rounding
divides up m k r n l e = rw (ne_eqb k 0 n, le-ltb m (2 ^ 31) l) (ap (λ (t : Traced). t.number) e)

-- a mantissa of 32 bits
in_range : (m : ℕ) → 2 ^ 31 ≤ m → m < 2 ^ 32 → InRange 32 (2 ^ 28) (scaled m (pos 0))
in_range m l h = record { is_scaled = inr (record { low = omega (arith, l); high = h }); above = lit≤ tt; below = lit≤ tt }

pub returns-then-k-eq0 : goal.returns-then-k-eq0
returns-then-k-eq0 c = let a = c.args in ⊎_elim (by_zero a.up a.m a.k) (λ p. too_small a.up a.m a.k p.0 p.1) c.then-k-eq0.either

pub returns : goal.returns
returns c =
    let a = c.args in
    divides a.up a.m a.k c.over.result c.if-k-eq0.false c.if-m-lt2147483648.false (rw c.from.ensures at c.over.ensures)
