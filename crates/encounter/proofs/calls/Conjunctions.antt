-- A begin with object and time by cases, as code takes them: a begin of its encounter, then test 9.
use mathlib.Core.Path.{◌≡◌, refl, sym, ◌∙◌, ap}
use Prim.Native.Nat.{ℕ, ◌≤◌, ◌<◌}
use native.Mathlib.Omega.{arith}
use borrow.Author.Tests.{eq-eqb, ne_eqb}
use Rattle.std.specs.Prelude.{Result, Err}
use Rattle.exact.specs.declared.Conjunction.{Conjunction}
use Rattle.exact.specs.declared.refusals.Refusal.{Refusal}
use Rattle.exact.specs.Records.{begin, begin_conjunction}
use Rattle.exact.specs.Refusals.{begin_refusal, refuses_9, test_9, refusal}
use Rattle.exact.proofs.Accepted.{test_9_passed}
use Rattle.encounter.specs.declared.state.Session.{Session}
use Rattle.encounter.specs.declared.state.Answer.{Answer}
use Rattle.encounter.specs.declared.state.Called.{Called}
use Rattle.encounter.specs.Session.{state, no_object, refused, counted}
use Rattle.encounter.specs.Calls.{history_of, outcome, begins, begins_conjunction, call, called}
use Rattle.encounter.proofs.calls.Answering.{refused_is, taken_is, number, positive}

-- ---- test 9

module _ (earlier object : ℕ) where
  pub refused_earlier : (earlier ≡ 0 → ⊥) → earlier ≡ test_9 earlier object
  unfolding test_9
  refused_earlier some = rw (ne_eqb earlier 0 some)

  module _ (z : earlier ≡ 0) where
    pub refused_9 : object ≡ 0 → 9 ≡ test_9 earlier object
    unfolding test_9 refuses_9
    refused_9 e = rw (eq-eqb earlier 0 z, eq-eqb object 0 e)

    pub passed_9 : (object ≡ 0 → ⊥) → earlier ≡ test_9 earlier object
    unfolding test_9 refuses_9
    passed_9 some = z ∙ rw (eq-eqb earlier 0 z, ne_eqb object 0 some)

-- ---- the call

-- r is the begin of the encounter, and n the number after test 9
module _ (C : Conjunction) (s : Session) {r : Called} (f : r ≡ call (begins C.encounter) s) {n : ℕ} (e : n ≡ test_9 r.answer.refusal C.object) where
  number_is : n ≡ refusal (history_of s) (begin_conjunction C)
  unfolding refusal
  number_is = e ∙ ap (λ (r : Called). test_9 r.answer.refusal C.object) f ∙ ap (λ (n : ℕ). test_9 n C.object) (number (history_of s) (begin C.encounter) s)

  pub conjunction_refused : {a : Answer} → 0 < n → a ≡ refused n → record { answer = a; session = s } ≡ call (begins_conjunction C) s
  conjunction_refused h g = refused_is s (begin_conjunction C) n (sym number_is) (λ z. omega arith) g

  module _ (h : n ≤ 0) where
    accepted : refusal (history_of s) (begin_conjunction C) ≡ 0
    accepted = sym number_is ∙ omega arith

    begun_is : r ≡ record { answer = counted 1; session = state (no_object C.encounter) 1 }
    unfolding outcome refusal
    begun_is = let p : begin_refusal C.encounter ≡ 0 = (test_9_passed _ C.object accepted).0 in f ∙ rw p

    -- the encounter's session, with object and time put in
    abbrev with_object : Session → Session
    with_object t = record { encounter = t.encounter; object = C.object; time = C.time; N = t.N; lower = t.lower; upper = t.upper; r256 = t.r256; M = t.M; d = t.d; exact = t.exact; lossless = t.lossless }

    pub conjunction_taken : record { answer = r.answer; session = with_object r.session } ≡ call (begins_conjunction C) s
    unfolding state
    conjunction_taken = taken_is s (begin_conjunction C) accepted (ap (λ (r : Called). r.answer) begun_is) (ap (λ (r : Called). with_object r.session) begun_is)

-- ---- by what a begin of the encounter answers

module _ (C : Conjunction) {r : Result Session Refusal} (f : (s : Session) → called s r ≡ call (begins C.encounter) s) where
  pub earlier_first : {e : Refusal} → r ≡ Err e → (s : Session) → called s (Err e) ≡ call (begins_conjunction C) s
  earlier_first {e} is s =
      conjunction_refused C s (ap (called s) (sym is) ∙ f s) (refused_earlier _ C.object (λ z. omega (arith, positive e, z))) (positive e) refl
