-- Request #111 of document 02: what a week holds, told from its entries and from the calls on their sessions alone; and the premise of a call on a week.
use Rattle.std.specs.Prelude.{cond, List, [], ◌∷◌, ◌++◌, map, ℕ, ◌-◌, eqb, length, get_or, set, replicate, Some}
use Rattle.exact.specs.declared.Encounter.{Encounter}
use Rattle.exact.specs.Numbers.{days_a_week, places_a_day}
use Rattle.exact.specs.Steps.{lower_end, upper_end}
use Rattle.exact.specs.Refusals.{History, no_encounter, encounter_at, entry_refusal}
use Rattle.encounter.specs.declared.state.Session.{Session}
use Rattle.encounter.specs.Calls.{Reached, told_of}
use Rattle.week.specs.declared.Ends.{Ends}
use Rattle.week.specs.Week.{empty_place, Day, Week, empty_week, enter}

-- an accepted read: its encounter and its order
pub record Read : Type 0 where
  pub encounter : Encounter
  pub order : ℕ

-- for each day the reads that were entered, in the order in which they were
abbrev pub Told : Type 0
Told = List (List Read)

abbrev pub nothing_told : Told
nothing_told = replicate days_a_week []

abbrev pub reads_of : Told → (day : ℕ) → List Read
reads_of t day = get_or t day []

-- after an entry of a session of which the requests tell the history: a refused one tells nothing (with no encounter it is refused as 13 or 21)
unfoldable pub tell : Told → (day : ℕ) → History → Told
tell t day no_encounter = t
tell t day (encounter_at C N) =
    cond (eqb (entry_refusal (encounter_at C N) day (length (reads_of t day))) 0) (set t day (reads_of t day ++ record { encounter = C.encounter; order = N } ∷ [])) t

-- document 01's two ends of a read, which its place has
unfoldable pub place_of : Read → Ends
place_of r = record { lower = lower_end r.encounter r.order; upper = upper_end r.encounter r.order }

-- a day with these reads: their ends in their order, then empty places
unfoldable pub day_with : List Read → Day
day_with rs = map (λ r. Some (place_of r)) rs ++ replicate (places_a_day - length rs) empty_place

unfoldable pub week_with : Told → Week
week_with t = map day_with t

-- a week that came from these calls, and what its entries tell
pub data Came : Week → Told → Type 0 where
  from_empty : Came empty_week nothing_told
  after : {w : Week} {t : Told} → Came w t → (day : ℕ) → {s : Session} → (r : Reached s) → Came (enter w day s).week (tell t day (told_of r))

-- "That a week came from these calls is a premise too." The sessions came from theirs
pub record FromCalls (w : Week) : Type 0 where
  pub told : Told
  pub came : Came w told
