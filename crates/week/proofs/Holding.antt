-- Weeks of which the reads are told: what they hold.
use mathlib.Core.Path.{◌≡◌, refl, sym, ap, ◌∙◌}
use mathlib.Core.List.{[], ◌∷◌, map, flatten}
use Rattle.week.specs.declared.Ends.{Ends}
use Rattle.week.specs.Week.{held_in, held}
use Rattle.week.specs.Told.{Told, place_of, day_with, week_with}
use Rattle.week.proofs.Folding.{map_flat}
use Rattle.week.proofs.Places.{day_holds}

days_hold : (t : Told) → map held_in (map day_with t) ≡ map (map place_of) t
days_hold [] = refl
days_hold (rs ∷ t) = λ i. day_holds rs i ∷ days_hold t i

pub week_holds : (t : Told) → held (week_with t) ≡ map place_of (flatten t)
unfolding held week_with
week_holds t = ap (flatten {A = Ends}) (days_hold t) ∙ sym (map_flat place_of t)
