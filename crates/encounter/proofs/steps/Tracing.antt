-- The numbers that stand beside losses: they are those formed without losses, and their ranges, from what a call promised of them.
use mathlib.Core.Path.{◌≡◌}
use mathlib.Core.Bool.{Bool, false}
use Prim.Native.Nat.{ℕ, ◌+◌, ◌^◌, ◌≤◌, ◌<◌}
use lib.Dec.{lit≤}
use Rattle.exact.specs.declared.Encounter.{Encounter}
use Rattle.exact.specs.declared.Traced.{Traced}
use Rattle.exact.specs.Arithmetic.{traced}
use Rattle.exact.specs.Fraction.{Frac}
use Rattle.exact.specs.Private.Ranges.{InRange, Bounds}
use Rattle.exact.specs.Private.Round.{round}
use Rattle.exact.specs.Series.{u, b, zx, zy, g}
use Rattle.exact.proofs.Exponents.{fractions_in}
use Rattle.exact.proofs.Ranges.{widen}
use Rattle.encounter.specs.declared.steps.letters.Parts.{Parts}
use Rattle.encounter.specs.Private.Operations.{TracedIn, traced_keeps}
use Rattle.encounter.proofs.arithmetic.Results.{number_of}

module _ (up : Bool) where
  fraction_number : (q : Frac) {r : Traced} → r ≡ (traced up 32).fraction q → r.number ≡ round up 32 q
  unfolding traced
  fraction_number q e = number_of up q false e

  -- what the letters are formed of
  pub parts_fine : {E : Encounter} {f : Parts} → Bounds E
      → (f.u ≡ (traced up 32).fraction (u E)) × (f.b ≡ (traced up 32).fraction (b E)) × (f.zx ≡ (traced up 32).fraction (zx E)) × (f.zy ≡ (traced up 32).fraction (zy E)) × (f.g ≡ (traced up 32).fraction (g E))
      → (TracedIn 177 f.u) × (TracedIn 177 f.b) × (TracedIn 177 f.zx) × (TracedIn 177 f.zy) × (TracedIn 177 f.g)
  parts_fine i e =
      let r = fractions_in up i in
      (rw (fraction_number _ e.0) r.0, rw (fraction_number _ e.1) r.1, rw (fraction_number _ e.2) r.2, rw (fraction_number _ e.3) r.3, rw (fraction_number _ e.4) r.4)

  -- ---- the range of each operation

  pub sum_fine : {A : ℕ} (a b : Traced) {r : Traced} → r ≡ (traced up 32).sum a b → InRange 32 A a.number → InRange 32 A b.number → InRange 32 (A + 1 + 1) r.number
  sum_fine a b e h k = rw e ((traced_keeps up).sum {x = a} {y = b} h k)

  pub product_fine : {A B : ℕ} (a b : Traced) {r : Traced} → r ≡ (traced up 32).product a b → InRange 32 A a.number → InRange 32 B b.number → InRange 32 (A + B + 32 + 1) r.number
  product_fine a b e h k = rw e ((traced_keeps up).product {x = a} {y = b} h k)

  pub over_fine : {A : ℕ} (a : Traced) (k : ℕ) {r : Traced} → r ≡ (traced up 32).quotient a k → 0 < k → k ≤ 2 ^ 32 → InRange 32 A a.number → InRange 32 (A + 32 + 1) r.number
  over_fine a k e p l h = rw e ((traced_keeps up).quotient {x = a} k p l h)

  pub half_fine : {A : ℕ} (a : Traced) {r : Traced} → r ≡ (traced up 32).half a → InRange 32 A a.number → InRange 32 (A + 1) r.number
  half_fine a e h = rw e ((traced_keeps up).half {x = a} h)

  -- zx + zy
  pub two_fine : (a b : Traced) {r : Traced} → r ≡ (traced up 32).sum a b → TracedIn 177 a → TracedIn 177 b → TracedIn (2 ^ 28) r
  two_fine a b e i k = widen (lit≤ tt) (sum_fine a b e i k)
