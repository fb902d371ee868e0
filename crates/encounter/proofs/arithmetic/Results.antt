-- What an operation's result is: from `fit`, or a number that is exact as it stands; and with losses.
use mathlib.Core.Path.{◌≡◌, sym, ◌∙◌, ap}
use mathlib.Core.Bool.{Bool, false, ◌||◌}
use Prim.Native.Nat.{ℕ, ◌^◌, ◌≤◌}
use lib.Dec.{lit<}
use lib.IntN.{ℤ}
use mir.Syntax.{w64}
use mir.Val.{to_z, of_z}
use Rattle.exact.specs.declared.Traced.{Traced}
use Rattle.exact.specs.Fraction.{Frac}
use Rattle.exact.specs.Arithmetic.{rounding}
use Rattle.exact.specs.Scaled.{lost, nought}
use Rattle.exact.specs.Private.Round.{round}
use Rattle.exact.proofs.Rounding.{Packed, lost_nought}
use Rattle.encounter.specs.declared.arithmetic.rounding.Whole.{Whole}
use Rattle.encounter.specs.declared.arithmetic.wide.Wide.{Wide}
use Rattle.encounter.specs.declared.arithmetic.wide.Rounded.{Rounded}
use Rattle.encounter.specs.Private.Loops.{narrow, IsWhole, Fitted, Rounds}

pub fitted_rounds : {up : Bool} {q : Frac} {w : Whole} {e : ℤ} {r : Rounded} {h : ℕ} {s : Bool}
    → Fitted up w e r → 2 ^ 31 ≤ h → IsWhole up h s w → Packed up 32 q h e s → Rounds up q r
fitted_rounds {h = h} {s = s} f l i k = ((f h s l i).0 ∙ k.is, (f h s l i).1 ∙ k.loses)

pub kept_rounds : (up : Bool) (q : Frac) {x : Wide} {r : Rounded} → (r.number ≡ x) × (r.lost ≡ false) → narrow x ≡ round up 32 q → lost up 32 q ≡ false → Rounds up q r
kept_rounds up q e h k = (rw e.0 h, e.1 ∙ sym k)

-- zero
pub zero_rounds : (up : Bool) (q : Frac) {x : Wide} {r : Rounded} → (r.number ≡ x) × (r.lost ≡ false) → narrow x ≡ nought → round up 32 q ≡ nought → Rounds up q r
zero_rounds up q e h k = kept_rounds up q e (h ∙ sym k) (lost_nought up 32 q (lit< tt) k)

-- an exponent, read back from its 64 bits
abbrev pub read : ℤ → ℤ
read z = to_z w64 (of_z w64 z)

-- as a number with its losses
pub traced_is : (up : Bool) (q : Frac) {r : Rounded} {t : Traced} → Rounds up q r → t ≡ record { number = narrow r.number; lost = r.lost } → t ≡ rounding up 32 q false
unfolding rounding
traced_is up q h e = e ∙ (λ i. record { number = h.0 i; lost = h.1 i })

-- its number
pub number_of : (up : Bool) (q : Frac) (before : Bool) {r : Traced} → r ≡ rounding up 32 q before → r.number ≡ round up 32 q
unfolding rounding
number_of up q before e = ap (λ (x : Traced). x.number) e

-- what was lost before is passed on
pub passed_is : (up : Bool) (q : Frac) (before : Bool) {b : Bool} {r t : Traced} → b ≡ before → r ≡ rounding up 32 q false → t ≡ record { number = r.number; lost = b || r.lost } → t ≡ rounding up 32 q before
unfolding rounding
passed_is up q before eb er et = et ∙ rw (eb, er)
