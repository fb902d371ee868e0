-- Document 01, 'Script records': the calls, what each answers and the session after it, told from the history: no encounter, or one with its object number and
-- its time, and the order N.
use Rattle.std.specs.Prelude.{cond, List, ℕ, ◌+◌, eqb, Result, Ok, Err}
use Rattle.exact.specs.declared.refusals.Refusal.{Refusal}
use Rattle.exact.specs.Kinds.{number_of}
use Rattle.exact.specs.declared.Encounter.{Encounter}
use Rattle.exact.specs.declared.Conjunction.{Conjunction}
use Rattle.exact.specs.Records.{Request, begin, begin_conjunction, add, read, bad}
use Rattle.exact.specs.Refusals.{request_at, History, no_encounter, encounter_at, refusal}
use Rattle.encounter.specs.declared.state.Session.{Session}
use Rattle.encounter.specs.declared.state.Answer.{Answer}
use Rattle.encounter.specs.declared.state.Called.{Called}
use Rattle.encounter.specs.Session.{empty, state, no_object, conjunction_of, refused, counted, bracket}

-- ---- the history

-- after an accepted request: "The encounter of an accepted read is that of the last begin accepted before it. From that begin on, the order N is 1 plus the
-- terms that the accepted calls have added so far; an add adds its count." (An add with no encounter is refused, as 12 or 21.) A begin of kind 4, of request #104, is a
-- begin too.
abbrev pub history_after : History → Request → History
history_after w (begin E) = encounter_at (no_object E) 1
history_after w (begin_conjunction C) = encounter_at C 1
history_after no_encounter (add count) = no_encounter
history_after (encounter_at C N) (add count) = encounter_at C (N + count)
history_after w read = w
history_after w (bad r) = w

-- "Refused calls stand in the list too": they leave the history as it was
abbrev pub follow : History → Request → History
follow w q = cond (eqb (refusal w q) 0) (history_after w q) w

-- the session of a history
abbrev pub session_of : History → Session
session_of no_encounter = empty
session_of (encounter_at C N) = state C N

-- the history that a session's fields tell
unfoldable pub history_of : Session → History
history_of s = cond (eqb s.N 0) no_encounter (encounter_at (conjunction_of s) s.N)

-- ---- what is answered

-- a begin and an add answer the order after them
abbrev pub order_answer : History → Answer
order_answer no_encounter = counted 0
order_answer (encounter_at C N) = counted N

-- a read answers the bracket (with no encounter it is refused as 21)
abbrev pub read_answer : History → Answer
read_answer no_encounter = refused 21
read_answer (encounter_at C N) = bracket C N

-- an accepted request, where the history after it is w
abbrev pub accepted_answer : Request → History → Answer
accepted_answer (begin E) w = order_answer w
accepted_answer (begin_conjunction C) w = order_answer w
accepted_answer (add count) w = order_answer w
accepted_answer read w = read_answer w
accepted_answer (bad r) w = refused r

-- "A refusal [..] changes neither session nor script."
abbrev pub refusing : ℕ → Session → Called
refusing r s = record { answer = refused r; session = s }

-- what a begin or an add answers, and the session after it, where code has the session that it leaves or why it is refused, and s is the session before
abbrev pub called : Session → Result Session Refusal → Called
called s (Ok t) = record { answer = counted t.N; session = t }
called s (Err e) = refusing (number_of e) s

-- what a request is answered, and the session after it, where the history tells w and the session is s
unfoldable pub outcome : History → Request → Session → Called
outcome w q s =
    cond (eqb (refusal w q) 0) (record { answer = accepted_answer q (history_after w q); session = session_of (history_after w q) }) (refusing (refusal w q) s)

-- ---- the calls

-- the calls of the library: a record is given by the script's bytes and a position. Object numbers, times, counts, bytes and positions are any whole numbers, so every
-- caller's are among them
pub data Call : Type 0 where
  begins : Encounter → Call
  begins_conjunction : Conjunction → Call
  adds : ℕ → Call
  reads : Call
  takes : List ℕ → ℕ → Call

abbrev pub asked : Call → Request
asked (begins E) = begin E
asked (begins_conjunction C) = begin_conjunction C
asked (adds count) = add count
asked reads = read
asked (takes script position) = request_at script position

-- what a call on a session answers, and the session after it
abbrev pub call : Call → Session → Called
call c s = outcome (history_of s) (asked c) s

-- "That the lent session came from these calls is the one premise a call may have"
pub data Reached : Session → Type 0 where
  from_empty : Reached empty
  after : {s : Session} → Reached s → (c : Call) → Reached (call c s).session

-- the history that the requests tell of a session from these calls
abbrev pub told_of : {s : Session} → Reached s → History
told_of from_empty = no_encounter
told_of (after r c) = follow (told_of r) (asked c)
