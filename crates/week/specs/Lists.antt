-- Request #111 of document 02 in document 01's 'The enclosure over a whole list': "one that answers a session's two ends counts as a read."
use Rattle.std.specs.Prelude.{◌≡◌, ℕ}
use Rattle.exact.specs.Records.{read}
use Rattle.exact.specs.Refusals.{entry_refusal}
use Rattle.encounter.specs.declared.state.Session.{Session}
use Rattle.encounter.specs.Calls.{reads, call, Reached, told_of}
use Rattle.encounter.specs.Enclosure.{Place, place, Claim}
use Rattle.week.specs.Week.{Week, day_of, next_place, ends_of, entered, Entry, enter}

-- an entry e into the week w, on the day named, where a read would have the place p
pub record EntersAsRead (p : Place) (w : Week) (day : ℕ) (e : Entry) : Type 0 where
  -- the three demands of the place; demand 3, where the read is accepted
  pub claim : Claim p
  pub is_read : p.request ≡ read
  -- the refusal is the one that the history tells
  pub number : e.refusal ≡ entry_refusal p.history day (next_place (day_of w day))
  -- where it is entered, the read is accepted, and its two ends are what is put into the week
  pub accepted : e.refusal ≡ 0 → p.answer.refusal ≡ 0
  pub ends : e.refusal ≡ 0 → e.week ≡ entered w day (ends_of p.answer)
  -- "any refusal, the read's own too, leaves the week unchanged"
  pub unchanged : (e.refusal ≡ 0 → ⊥) → e.week ≡ w

-- after every list of calls on one session from empty, in which an entry before stands as a read, an entry into any week on any day. The session stays
unfoldable pub EntryDemands : Type 0
EntryDemands = (s : Session) (r : Reached s) (w : Week) (day : ℕ) → EntersAsRead (place s (told_of r) reads) w day (enter w day s) × ((call reads s).session ≡ s)
