-- A week as programs in other languages get it: request #111 of document 02.
use Rattle.std.specs.Prelude.{cond, eqb, map, Option, Some, None}
use Rattle.exact.specs.Scaled.{nought}
use Rattle.week.specs.declared.Ends.{Ends}
use Rattle.week.specs.Week.{Entry, Week as Array}
use Rattle.jinthuol.specs.declared.Bracket.{Bracket}
use Rattle.jinthuol.specs.declared.Week.{Week}
use Rattle.jinthuol.specs.declared.Entered.{Entered}

-- held is 1 where the place has two ends; in an empty place all is 0
unfoldable pub bracket_of : Option Ends → Bracket
bracket_of None = record { held = 0; lower = nought; upper = nought }
bracket_of (Some e) = record { held = 1; lower = e.lower; upper = e.upper }

unfoldable pub place_in : Bracket → Option Ends
place_in b = cond (eqb b.held 0) None (Some (record { lower = b.lower; upper = b.upper }))

-- the places of each day
unfoldable pub days_of : Week → Array
days_of w = map (λ d. map place_in d.places) w.days

-- the week whose days have these places
unfoldable pub in_days : Array → Week
in_days l = record { days = map (λ day. record { places = map bracket_of day }) l }

-- an entry's refusal, and the week after it
unfoldable pub entered_as : Entry → Entered
entered_as e = record { refusal = e.refusal; week = in_days e.week }
