-- Document 01, 'The enclosure over a whole list': the three demands, one claim about every list of calls from the empty session.
use Rattle.std.specs.Prelude.{◌≡◌, false, List, [], ◌∷◌, ℕ, ◌+◌, ◌*◌, ◌^◌, ◌≤◌}
use Rattle.exact.specs.declared.Encounter.{Encounter}
use Rattle.exact.specs.declared.Conjunction.{Conjunction}
use Rattle.exact.specs.Fraction.{◌≼◌, ◌⊗◌, ◌↑◌, ◌over◌}
use Rattle.exact.specs.Numbers.{exponential_cut}
use Rattle.exact.specs.Scaled.{value}
use Rattle.exact.specs.Series.{quotient}
use Rattle.exact.specs.Losses.{exact_terms}
use Rattle.exact.specs.Steps.{sum_to, tail_bound, lower_end, upper_end}
use Rattle.exact.specs.Records.{Request, read}
use Rattle.exact.specs.Refusals.{History, no_encounter, encounter_at, refusal}
use Rattle.encounter.specs.declared.state.Session.{Session}
use Rattle.encounter.specs.declared.state.Answer.{Answer}
use Rattle.encounter.specs.Session.{empty}
use Rattle.encounter.specs.Calls.{follow, session_of, outcome, Call, asked, call}

-- a call in a list: the history before it, told from the requests alone; what it asks; what it is answered, and the session after it
pub record Place : Type 0 where
  pub history : History
  pub request : Request
  pub answer : Answer
  pub session : Session

-- the place of a call on the session s, where the history is w
abbrev pub place : Session → History → Call → Place
place s w c = record { history = w; request = asked c; answer = (call c s).answer; session = (call c s).session }

-- "Each call gets the session as the last one left it"
unfoldable pub places : Session → History → List Call → List Place
places s w [] = []
places s w (c ∷ cs) = place s w c ∷ places (call c s).session (follow w (asked c)) cs

-- demand 3 for one answered bracket, where the encounter and the order are E and N
pub record Encloses (E : Encounter) (N : ℕ) (a : Answer) : Type 0 where
  pub order_is : a.N ≡ N
  -- "which are document 01's lower and upper end at that read's order N"
  pub lower_is : a.lower ≡ lower_end E N
  pub upper_is : a.upper ≡ upper_end E N
  -- "at whatever later point the two exact sums are cut (the series at N terms or more, the exponential at 256 or more), their quotient lies between"
  pub between : (N' K : ℕ) → N ≤ N' → exponential_cut ≤ K → (value a.lower ≼ quotient E N' K) × (quotient E N' K ≼ value a.upper)
  -- "Where the tail bound is at most 2^-31 of the lower sum, the upper end is also at most the lower end × (1 + 2^-31)^(18N + 2,600)."
  pub close :
      tail_bound E N ≼ (1 over (2 ^ 31)) ⊗ value (sum_to false E N) →
      value a.upper ≼ value a.lower ⊗ ((2 ^ 31 + 1) over (2 ^ 31)) ↑ (18 * N + 2600)

-- request #104, "a read answers both": the answer has the object number and the time of C
pub record Named (C : Conjunction) (a : Answer) : Type 0 where
  pub object_is : a.object ≡ C.object
  pub time_is : a.time ≡ C.time

-- what holds of a place
pub record Claim (p : Place) : Type 0 where
  -- demand 1, which the next line implies: "Each refusal bears one of the numbers in document 01, falls under the condition written there and never otherwise"
  pub number : p.answer.refusal ≡ refusal p.history p.request
  -- demands 1 and 2: the whole answer and every stored number are those that the history tells
  pub answer : p.answer ≡ (outcome p.history p.request (session_of p.history)).answer
  pub session : p.session ≡ session_of (follow p.history p.request)
  -- demand 3: "for every read accepted in it"; request #104: with its object and time; request #105: with its count of exact terms
  pub enclosed :
      p.request ≡ read →
      refusal p.history read ≡ 0 →
      (C : Conjunction) × (N : ℕ) × (p.history ≡ encounter_at C N) × Encloses C.encounter N p.answer × Named C p.answer × (p.answer.exact ≡ exact_terms C.encounter N)

abbrev pub Every : {A : Type 0} → (A → Type 0) → List A → Type 0
Every P [] = Unit {0}
Every P (p ∷ l) = P p × Every P l

-- "For every list of begins, adds and reads on one session from empty, refused ones included". `read` promises it (src/calls.rt); that code makes these very calls is
-- what the other promises of both begins, add, read and the record call say
unfoldable pub Demands : Type 0
Demands = (cs : List Call) → Every Claim (places empty no_encounter cs)
