-- The greatest of a list, found by going through it.
use Rattle.std.specs.Prelude.{fold}
use mathlib.Core.Path.{◌≡◌, refl}
use mathlib.Core.Bool.{Bool, true, false, cond}
use mathlib.Core.List.Memᴰ
use mathlib.Core.List.{List, [], ◌∷◌, Memᴰ}
use mathlib.Core.Logic.{inl, inr, ◌⊎◌}
use Rattle.exact.specs.declared.Scaled.{Scaled}
use Rattle.exact.specs.Fraction.{Frac, ◌≼◌, at_most}
use Rattle.exact.specs.Scaled.{nought, value}
use Rattle.exact.proofs.Fractions.{≼_refl, ≼_trans}
use Rattle.exact.proofs.Order.{at_most_yes, at_most_holds, at_most_otherwise}
use Rattle.encounter.specs.Enclosure.{Every}
use Rattle.encounter.specs.Sums.{greater}
use Rattle.week.specs.Week.{greatest_of}
use Rattle.week.specs.Figure.{IsGreatest}
use Rattle.week.proofs.Quotients.{nought_least}

module _ {A : Type 0} (worth : A → Frac) where
  -- the greater of two
  abbrev larger : A → A → A
  larger x y = cond (at_most (worth x) (worth y)) y x

  first_below : (x y : A) → worth x ≼ worth (larger x y)
  first_below x y = go (at_most (worth x) (worth y)) refl
    where
      go : (b : Bool) → at_most (worth x) (worth y) ≡ b → worth x ≼ worth (cond b y x)
      go true e = at_most_holds (worth x) (worth y) e
      go false e = ≼_refl (worth x)

  second_below : (x y : A) → worth y ≼ worth (larger x y)
  second_below x y = go (at_most (worth x) (worth y)) refl
    where
      go : (b : Bool) → at_most (worth x) (worth y) ≡ b → worth y ≼ worth (cond b y x)
      go true e = ≼_refl (worth y)
      go false e = at_most_otherwise (worth x) (worth y) e

  start_below : (x : A) (l : List A) → worth x ≼ worth (fold larger x l)
  start_below x [] = ≼_refl (worth x)
  start_below x (y ∷ l) = ≼_trans (first_below x y) (start_below (larger x y) l)

  all_below : (x : A) (l : List A) → Every (λ y. worth y ≼ worth (fold larger x l)) l
  all_below x [] = tt
  all_below x (y ∷ l) = (≼_trans (second_below x y) (start_below (larger x y) l), all_below (larger x y) l)

  found : (x : A) (l : List A) → Memᴰ (fold larger x l) (x ∷ l)
  found x [] = Memᴰ.head refl
  found x (y ∷ l) = by (at_most (worth x) (worth y)) (Memᴰ.cases_cons (found (larger x y) l))
    where
      by : {z : A} (b : Bool) → (z ≡ cond b y x) ⊎ Memᴰ z l → Memᴰ z (x ∷ y ∷ l)
      by b (inr o) = Memᴰ.tail (Memᴰ.tail o)
      by true (inl e) = Memᴰ.tail (Memᴰ.head e)
      by false (inl e) = Memᴰ.head e

  pub greatest_is : (x : A) (l : List A) → IsGreatest worth (x ∷ l) (fold larger x l)
  greatest_is x l = record { one_of_them = found x l; none_above = (start_below x l, all_below x l) }

-- from zero the first number of all is the greater one
from_zero : (y : Scaled) → greater nought y ≡ y
unfolding greater
from_zero y = rw (at_most_yes (value nought) (value y) (nought_least (value y)))

pub is_greatest : (l : List Scaled) → (l ≡ [] → ⊥) → IsGreatest value l (greatest_of l)
unfolding greatest_of greater
is_greatest [] some = absurd (some refl)
is_greatest (y ∷ l) some = rw (from_zero y) (greatest_is value y l)
