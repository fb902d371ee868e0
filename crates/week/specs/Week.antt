-- Request #111 of document 02, 'One figure for the week': the week, what an entry answers and the week after it, and the week's two ends.
use Rattle.std.specs.Prelude.{fold, cond, ℕ, eqb, get_or, set, replicate, Option, Some, None, is_none, filter_map, Result, Ok, Err}
use Rattle.std.specs.List.{position_or_len}
use mathlib.Core.List.{List, [], map, flatten}
use Rattle.exact.specs.declared.Scaled.{Scaled}
use Rattle.exact.specs.declared.refusals.Refusal.{Refusal}
use Rattle.exact.specs.Fraction.{◌⊕◌}
use Rattle.exact.specs.Numbers.{days_a_week, places_a_day}
use Rattle.exact.specs.Scaled.{nought, value, U}
use Rattle.exact.specs.Refusals.{entry_refusal}
use Rattle.exact.specs.Kinds.{number_of}
use Rattle.encounter.specs.declared.state.Session.{Session}
use Rattle.encounter.specs.declared.state.Answer.{Answer}
use Rattle.encounter.specs.Calls.{history_of, reads, call}
use Rattle.encounter.specs.Sums.{greater}
use Rattle.week.specs.declared.Ends.{Ends}

-- ---- the week

-- "each empty or with the two ends of a read"
abbrev pub empty_place : Option Ends
empty_place = None

-- a bracket: the two ends of an answer
abbrev pub ends_of : Answer → Ends
ends_of a = record { lower = a.lower; upper = a.upper }

-- a day is its places, a week its days, in their order
abbrev pub Day : Type 0
Day = List (Option Ends)

abbrev pub Week : Type 0
Week = List Day

-- "seven days of eight places"
abbrev pub empty_week : Week
empty_week = replicate days_a_week (replicate places_a_day empty_place)

-- ---- an entry

-- the number of a day's next empty place; how many places it has, where none is empty
unfoldable pub next_place : Day → ℕ
next_place day = position_or_len is_none day

-- the day of a number; there is none above 6
abbrev pub day_of : Week → (day : ℕ) → Day
day_of w day = get_or w day []

-- "into the next empty place of the day named"
unfoldable pub entered : Week → (day : ℕ) → Ends → Week
entered w day b = set w day (set (day_of w day) (next_place (day_of w day)) (Some b))

-- the refusal's number, or 0; and the week
pub record Entry : Type 0 where
  pub refusal : ℕ
  pub week : Week

-- "A bracket enters the week only through a read of a session"; "any refusal, the read's own too, leaves the week unchanged." (the tests and their order are in
-- exact/specs/Refusals.antt)
unfoldable pub enter : Week → (day : ℕ) → Session → Entry
enter w day s =
    let r = entry_refusal (history_of s) day (next_place (day_of w day)) in
    record { refusal = r; week = cond (eqb r 0) (entered w day (ends_of (call reads s).answer)) w }

-- the entry into w where code has the week after it, or why it is refused
abbrev pub entry_of : Week → Result Week Refusal → Entry
entry_of w (Ok v) = record { refusal = 0; week = v }
entry_of w (Err e) = record { refusal = number_of e; week = w }

-- ---- the ends

unfoldable pub held_in : Day → List Ends
held_in day = filter_map (λ place. place) day

-- the brackets that a week holds, "in day and place order"
unfoldable pub held : Week → List Ends
held w = flatten (map held_in w)

-- "The week's lower end is the greatest lower end held [..]; an empty week has zero for both."
unfoldable pub greatest_of : List Scaled → Scaled
greatest_of l = fold greater nought l

-- "and its upper end is the upper ends added [..], each addition U"; the first of all is U(0 + x), which is x
unfoldable pub added_up : List Scaled → Scaled
added_up l = fold (λ x y. U (value x ⊕ value y)) nought l

unfoldable pub week_ends : Week → Ends
week_ends w = record { lower = greatest_of (map (λ b. b.lower) (held w)); upper = added_up (map (λ b. b.upper) (held w)) }
