-- What a reader relies on beyond the contracts, request #111 of document 02: one record of statements, each proved. `week_ends` promises it.
use Rattle.std.specs.Prelude.{◌≡◌, [], map}
use Rattle.exact.specs.declared.Scaled.{Scaled}
use Rattle.exact.specs.Fraction.{◌⊕◌}
use Rattle.exact.specs.Scaled.{nought, value, U, IsScaled}
use Rattle.week.specs.Week.{Week, empty_week, held, week_ends}
use Rattle.week.specs.Told.{Told, Came}
use Rattle.week.specs.Figure.{IsGreatest, OneFigure}
use Rattle.week.specs.Lists.{EntryDemands}

pub record Claims : Type 0 where
  -- every week from these calls
  pub figure : {w : Week} {t : Told} → Came w t → OneFigure w t
  -- "The week's lower end is the greatest lower end held"
  pub lower_greatest : (w : Week) → (held w ≡ [] → ⊥) → IsGreatest value (map (λ b. b.lower) (held w)) (week_ends w).lower
  -- "an empty week has zero for both"
  pub nothing_held : (w : Week) → held w ≡ [] → week_ends w ≡ record { lower = nought; upper = nought }
  pub empty : held empty_week ≡ []
  -- the first addition of all is of zero, and changes nothing
  pub first_sum : {x : Scaled} → IsScaled 32 x → U (value nought ⊕ value x) ≡ x
  -- entering counts as a read in the session's list
  pub entries : EntryDemands
