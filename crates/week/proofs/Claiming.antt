-- The claims.
use mathlib.Core.Path.{◌≡◌, refl, ◌∙◌}
use mathlib.Core.Bool.{true}
use mathlib.Core.List.{List, [], ◌∷◌, map, flatten, map-map, cons-ne-nil}
use Rattle.exact.specs.Fraction.{Frac}
use Rattle.exact.specs.Scaled.{nought, value}
use lib.Dec.{lit<}
use Rattle.exact.proofs.Operations.{sum_none, sum_comm}
use Rattle.exact.specs.Steps.{lower_end, upper_end}
use Rattle.encounter.specs.Enclosure.{Every}
use Rattle.week.specs.declared.Ends.{Ends}
use Rattle.week.specs.Week.{Week, empty_week, held_in, held, greatest_of, added_up, week_ends}
use Rattle.week.specs.Told.{Read, Told, place_of, week_with, Came}
use Rattle.week.specs.Figure.{Quotients, IsGreatest, LiesBetween, OneFigure}
use Rattle.week.specs.Claims.{Claims}
use Rattle.week.proofs.Folding.{every_also, every_flat}
use Rattle.week.proofs.Holding.{week_holds}
use Rattle.week.proofs.Quotients.{Encloses, lower_is_below, upper_is_above}
use Rattle.week.proofs.Telling.{Good, sound}
use Rattle.week.proofs.Greatest.{greatest_is, is_greatest}
use Rattle.week.proofs.Listed.{entry_demands}

lowers : (rs : List Read) → map (λ b. b.lower) (map place_of rs) ≡ map (λ r. lower_end r.encounter r.order) rs
unfolding place_of
lowers rs = map-map (λ (b : Ends). b.lower) place_of rs

uppers : (rs : List Read) → map (λ b. b.upper) (map place_of rs) ≡ map (λ r. upper_end r.encounter r.order) rs
unfolding place_of
uppers rs = map-map (λ (b : Ends). b.upper) place_of rs

between : {w : Week} (t : Told) → w ≡ week_with t → Every Encloses (flatten t) → (qs : List Frac) → Quotients (flatten t) qs → LiesBetween w qs
unfolding week_ends
between t is f [] c = record { greatest = λ some. absurd (some refl); sum = rw (is, week_holds t, uppers (flatten t)) (upper_is_above (flatten t) [] f c) }
between t is f (q ∷ qs) c =
    let g = greatest_is (λ (p : Frac). p) q qs in
    record {
      greatest = λ some. (_, g, rw (is, week_holds t, lowers (flatten t)) (lower_is_below _ (flatten t) (q ∷ qs) f c g.none_above));
      sum = rw (is, week_holds t, uppers (flatten t)) (upper_is_above (flatten t) (q ∷ qs) f c);
    }

figure : {w : Week} {t : Told} → Came w t → OneFigure w t
figure {w} {t} c =
    let o = sound c in
    record { holds = o.is; held_are = rw o.is (week_holds t); between = between t o.is (every_also Good Encloses (λ r g. g.enclosing) (flatten t) (every_flat Good t o.good)) }

lower_is_greatest : (w : Week) → (held w ≡ [] → ⊥) → IsGreatest value (map (λ b. b.lower) (held w)) (week_ends w).lower
unfolding week_ends
lower_is_greatest w some = is_greatest (map (λ b. b.lower) (held w)) (not_empty (held w) some)
  where
    not_empty : (l : List Ends) → (l ≡ [] → ⊥) → map (λ b. b.lower) l ≡ [] → ⊥
    not_empty [] some e = some refl
    not_empty (b ∷ l) some e = cons-ne-nil _ _ e

no_figure : (w : Week) → held w ≡ [] → week_ends w ≡ record { lower = nought; upper = nought }
unfolding week_ends greatest_of added_up
no_figure w e = rw e

empty_holds : held empty_week ≡ []
unfolding held held_in flatten
empty_holds = refl

pub claims : Claims
claims = record { figure = figure; lower_greatest = lower_is_greatest; nothing_held = no_figure; empty = empty_holds; first_sum = λ {x} h. sum_comm true 32 nought x (lit< tt) ∙ sum_none true 32 x nought (lit< tt) h refl; entries = entry_demands }
