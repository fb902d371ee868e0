-- Along every list of calls the session is empty, or it is the steps' state of the encounter and the order that the requests tell. From that, the demands.
use mathlib.Core.Path.{◌≡◌, refl, sym, ◌∙◌, ap}
use mathlib.Core.Bool.{false}
use mathlib.Core.List.{List, [], ◌∷◌}
use Prim.Native.Nat.{ℕ, suc, ◌+◌, ◌≤◌, ◌<◌}
use mathlib.Core.Logic.{⊎_elim}
use native.Mathlib.Nat.{eq-zero-or-pos, add-zero}
use native.Mathlib.Omega.{arith}
use borrow.Author.Tests.{ltb-false, ne_eqb}
use Rattle.exact.specs.declared.Conjunction.{Conjunction}
use Rattle.exact.specs.Losses.{exact_terms}
use Rattle.exact.specs.Numbers.{largest_order}
use Rattle.exact.specs.Records.{Request, begin, begin_conjunction, add, read, bad}
use Rattle.exact.specs.Refusals.{Accepted, History, no_encounter, encounter_at, refuses_12, refuses_22, refuses_23, refusal}
use Rattle.exact.proofs.Accepted.{passed, test_9_passed}
use Rattle.exact.proofs.Enclosure.{enclosed}
use Rattle.exact.proofs.Closeness.{ends_close}
use Rattle.encounter.specs.declared.state.Session.{Session}
use Rattle.encounter.specs.declared.state.Called.{Called}
use Rattle.encounter.specs.Session.{empty, state, conjunction_of, bracket}
use Rattle.encounter.specs.Private.Held.{Begun}
use Rattle.encounter.specs.Calls.{history_after, follow, session_of, history_of, outcome, Call, adds, asked, call, Reached, from_empty, after, told_of}
use Rattle.encounter.specs.Enclosure.{Claim, Every, place, places, Encloses, Named, Demands}
use Rattle.encounter.proofs.calls.Answering.{by_cases, number, add_12, add_taken}

-- what an accepted begin says of its conjunction
pub record Begins (C : Conjunction) : Type 0 where
  pub fine : Accepted C.encounter
  pub no_time : C.object ≡ 0 → C.time ≡ 0

-- the session s, where the requests so far tell w
pub data Whole : Session → History → Type 0 where
  nothing : Whole empty no_encounter
  at : {C : Conjunction} {N : ℕ} → Begins C → 1 ≤ N → N ≤ largest_order → Whole (state C N) (encounter_at C N)

pub session_is : {s : Session} {w : History} → Whole s w → s ≡ session_of w
session_is nothing = refl
session_is (at h l u) = refl

pub history_is : {s : Session} {w : History} → Whole s w → history_of s ≡ w
unfolding history_of state
history_is nothing = refl
history_is (at {C} {N} h l u) = rw (ne_eqb N 0 (λ z. omega arith))

-- the session after an accepted request
taken_whole : {s : Session} {w : History} → Whole s w → (q : Request) → refusal w q ≡ 0 → Whole (session_of (history_after w q)) (history_after w q)
unfolding refusal refuses_22
taken_whole h (begin E) z = at {N = 1} (record { fine = record { passes = z }; no_time = λ e. refl }) (omega arith) (omega arith)
taken_whole h (begin_conjunction C) z =
    let (p, some) = test_9_passed _ C.object z in
    at {N = 1} (record { fine = record { passes = p }; no_time = λ e. absurd (some e) }) (omega arith) (omega arith)
taken_whole nothing (add count) z = nothing
taken_whole (at {C} {N} h l u) (add count) z =
    let y = (passed 11 (refuses_12 count) _ z).1 in
    at {N = N + count} h (omega arith) (ltb-false largest_order (N + count) (passed 21 (refuses_22 N count) 0 y).0)
taken_whole nothing read z = nothing
taken_whole (at h l u) read z = at h l u
taken_whole nothing (bad r) z = nothing
taken_whole (at h l u) (bad r) z = at h l u

-- the session after any request
kept : {s : Session} {w : History} → Whole s w → (q : Request) → Whole (outcome w q s).session (follow w q)
kept {s} {w} h q = by_cases w q s (λ r v. Whole r.session v) (taken_whole h q) (λ _. h)

-- an accepted read
Read : History → Called → Type 0
Read w r = (C : Conjunction) × (N : ℕ) × (w ≡ encounter_at C N) × Encloses C.encounter N r.answer × Named C r.answer × (r.answer.exact ≡ exact_terms C.encounter N)

not_zero : {A : Type 0} (n : ℕ) → suc n ≡ 0 → A
not_zero n z = let f : ⊥ = omega arith in absurd f

-- the bracket at an order that is read
pub encloses : (C : Conjunction) {N : ℕ} → Accepted C.encounter → 1 ≤ N → refuses_23 C.encounter N ≡ false → Encloses C.encounter N (bracket C N)
unfolding bracket
encloses C {N} h l z = record { order_is = refl; lower_is = refl; upper_is = refl; between = enclosed h N l z; close = ends_close h N l }

enclosing : {s : Session} {w : History} → Whole s w → refusal w read ≡ 0 → Read w (outcome w read s)
unfolding Read refusal
enclosing nothing z = not_zero 20 z
enclosing (at {C} {N} h l u) z = unfold outcome refusal in rw z (
  C,
  N,
  refl,
  encloses C h.fine l (passed 22 (refuses_23 C.encounter N) 0 z).0,
  unfold bracket in record { object_is = refl; time_is = refl },
  unfold bracket in refl,
)

-- a call on such a session is what the history tells
pub by_history : {s : Session} {w : History} → Whole s w → (c : Call) → call c s ≡ outcome w (asked c) s
by_history {s} h c = ap (λ (w : History). outcome w (asked c) s) (history_is h)

pub keeps : {s : Session} {w : History} → Whole s w → (c : Call) → Whole (call c s).session (follow w (asked c))
keeps h c = rw (by_history h c) (kept h (asked c))

pub claim : {s : Session} {w : History} → Whole s w → (c : Call) → Claim (place s w c)
unfolding Read
claim {s} {w} h c = record {
  number = rw (by_history h c) (number w (asked c) s);
  answer = rw (by_history h c) (ap (λ (s : Session). (outcome w (asked c) s).answer) (session_is h));
  session = session_is (keeps h c);
  enclosed = λ e z. rw (by_history h c, e) (enclosing h z);
}

every : {s : Session} {w : History} → Whole s w → (cs : List Call) → Every Claim (places s w cs)
unfolding places
every h [] = tt
every {s = s} {w = w} h (c ∷ cs) = (claim h c, every {s = (call c s).session} {w = follow w (asked c)} (keeps h c) cs)

pub demands : Demands
unfolding Demands
demands cs = every nothing cs

-- ---- the premise of a call

pub whole_told : {s : Session} (r : Reached s) → Whole s (told_of r)
whole_told from_empty = nothing
whole_told (after r c) = keeps (whole_told r) c

pub whole : {s : Session} → Reached s → (w : History) × Whole s w
whole r = (told_of r, whole_told r)

pub state_begun : (C : Conjunction) {N : ℕ} → Accepted C.encounter → 1 ≤ N → N ≤ largest_order → Begun (state C N)
unfolding state
state_begun C h l u = record { fine = h; low = l; high = u; is = refl }

begun_whole : {s : Session} {w : History} → Whole s w → (s.N ≡ 0 → ⊥) → Begun s
begun_whole nothing z = absurd (z refl)
begun_whole (at {C} h l u) z = unfold state in state_begun C h.fine l u

pub begun : (s : Session) → Reached s → (s.N ≡ 0 → ⊥) → Begun s
begun s r z = begun_whole (whole r).1 z

pub order_high : (s : Session) → Reached s → s.N ≤ largest_order
order_high s r = ⊎_elim (λ z. omega (arith, z)) (λ p. (begun s r (λ z. omega arith)).high) (eq-zero-or-pos s.N)

-- a reached session is that of the history which its fields tell
pub told : {s : Session} → Reached s → session_of (history_of s) ≡ s
told r = let (w, h) = whole r in rw (history_is h) (sym (session_is h))

-- terms within the limit lead to the state so many on: where there are some the add is taken, and an add of 0 is refused as 12 and changes nothing
pub led_to : (s : Session) → Reached s → (s.N ≡ 0 → ⊥) → (count : ℕ) → s.N + count ≤ largest_order → (call (adds count) s).session ≡ state (conjunction_of s) (s.N + count)
led_to s r z count l = ⊎_elim none some (eq-zero-or-pos count)
  where
    none : count ≡ 0 → (call (adds count) s).session ≡ state (conjunction_of s) (s.N + count)
    none e =
        ap (λ (c : Called). c.session) (sym (add_12 s count e refl)) ∙ (begun s r z).is ∙ rw (e, add-zero)

    some : 0 < count → (call (adds count) s).session ≡ state (conjunction_of s) (s.N + count)
    some p = ap (λ (c : Called). c.session) (sym (add_taken s count (λ e. omega arith) z l refl refl))
