-- The class by the tests of both ends against the threshold's constant.
use mathlib.Core.Path.{◌≡◌, refl, sym, ◌∙◌}
use mathlib.Core.Bool.{Bool, true, false}
use mathlib.Core.Logic.{inr}
use Prim.Native.Nat.{◌*◌, ◌^◌}
use native.Mathlib.Nat.{mul-one}
use lib.Dec.{lit<, lit≤}
use lib.IntN.{negsuc}
use lib.Ieee.{size, span, climb}
use Rattle.exact.specs.declared.Scaled.{Scaled}
use Rattle.exact.specs.Fraction.{Frac, whole, ◌over◌, ◌⊗◌, at_most}
use Rattle.exact.specs.Numbers.{threshold_odds}
use Rattle.exact.specs.Steps.{alert}
use Rattle.exact.specs.Scaled.{scaled, value, IsScaled}
use Rattle.exact.specs.Private.Ranges.{InRange}
use Rattle.exact.specs.Private.Round.{round, pack, finish, spare, inexact}
use Rattle.exact.proofs.Order.{at_least_up}
use Rattle.encounter.specs.declared.state.Class.TheVariants.{Alert, Clear, Open}
use Rattle.encounter.specs.Session.{class_of}
use Rattle.encounter.proofs.calls.Classes.{is_alert, is_open, is_clear}

abbrev pub threshold : Scaled
threshold = scaled 3518437209 (negsuc 44)

-- the constant is U(1/10,000)
threshold_is : round true 32 (1 over threshold_odds) ≡ threshold
unfolding round pack finish spare inexact ◌over◌ size span climb
threshold_is = refl

pub threshold_in : InRange 32 (2 ^ 28) threshold
threshold_in = record { is_scaled = inr (record { low = lit≤ tt; high = lit< tt }); above = lit≤ tt; below = lit≤ tt }

-- at least 1/10,000 is 10,000 times at least 1
scale : (x : Frac) → at_most (1 over threshold_odds) x ≡ at_most (whole 1) (x ⊗ whole threshold_odds)
unfolding at_most ◌over◌ ◌⊗◌ whole
scale x = rw (mul-one x.den, mul-one (x.num * threshold_odds))

-- what the code tests of an end
test_is : {x : Scaled} {r : Bool} → IsScaled 32 x → r ≡ at_most (value threshold) (value x) → alert (value x) ≡ r
unfolding alert
test_is {x} n e = sym (e ∙ rw (← threshold_is) (at_least_up 32 (1 over threshold_odds) (lit< tt) n) ∙ scale (value x))

module _ (x y : Scaled) (fine : (InRange 32 (2 ^ 28) x) × (InRange 32 (2 ^ 28) y)) (r : Bool) (low : r ≡ at_most (value threshold) (value x)) where
  pub tells_alert : r ≡ true → Alert ≡ class_of x y
  tells_alert e = is_alert x y (test_is fine.0.is_scaled low ∙ e)

  module _ (e : r ≡ false) (q : Bool) (high : q ≡ at_most (value threshold) (value y)) where
    pub tells_open : q ≡ true → Open ≡ class_of x y
    tells_open f = is_open x y (test_is fine.0.is_scaled low ∙ e) (test_is fine.1.is_scaled high ∙ f)

    pub tells_clear : q ≡ false → Clear ≡ class_of x y
    tells_clear f = is_clear x y (test_is fine.0.is_scaled low ∙ e) (test_is fine.1.is_scaled high ∙ f)
