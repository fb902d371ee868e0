-- The calls by cases, as code takes them.
use mathlib.Core.Path.{◌≡◌, refl, sym, ◌∙◌, subst, ap}
use mathlib.Core.Bool.{Bool, true, false, cond}
use Prim.Native.Nat.{ℕ, ◌+◌, ◌≤◌, ◌<◌}
use native.Mathlib.Omega.{arith}
use borrow.Author.Rules.{rules}
use borrow.Author.Tests.{lt-ltb, le-ltb, eq-eqb, ne_eqb, eqb-true, eqb-false}
use lib.Dec.{eqb}
use Rattle.std.specs.Prelude.{Result, Err}
use Rattle.exact.specs.declared.Encounter.{Encounter}
use Rattle.exact.specs.declared.refusals.Refusal.{Refusal}
use Rattle.exact.specs.Kinds.{number_of}
use Rattle.exact.specs.declared.refusals.Refusal.TheVariants.{EmptyAdd, NotBegun, AboveLargestOrder}
use Rattle.exact.specs.declared.Scaled.{Scaled}
use Rattle.exact.specs.Losses.{exact_terms}
use Rattle.exact.specs.Numbers.{largest_order}
use Rattle.exact.specs.Private.Ranges.{tests_3_to_6, Bounds}
use Rattle.exact.specs.Steps.{lower_end, upper_end}
use Rattle.exact.specs.Records.{Request, begin, begin_conjunction, add, read, bad}
use Rattle.exact.specs.Refusals.{History, refuses_3, refuses_4, refuses_5, refuses_6, refuses_7, refuses_11, begin_refusal, Accepted, no_encounter, encounter_at, refuses_12, test_21, refuses_22, refuses_23, refusal}
use Rattle.exact.proofs.Accepted.{bounds}
use Rattle.encounter.specs.declared.state.Session.{Session}
use Rattle.encounter.specs.declared.state.Answer.{Answer}
use Rattle.encounter.specs.declared.state.Class.{Class}
use Rattle.encounter.specs.declared.state.Called.{Called}
use Rattle.encounter.specs.Session.{state, no_object, conjunction_of, refused, counted, bracket, class_of}
use Rattle.encounter.specs.Calls.{history_after, follow, session_of, history_of, accepted_answer, refusing, called, outcome, Call, begins, adds, reads, call, Reached, after}

-- the number of a refusal is not 0
pub positive : (e : Refusal) → 0 < number_of e
positive e = search rules

-- ---- a request by its refusal

module _ (s : Session) (q : Request) where
  pub refused_is : (r : ℕ) {a : Answer} → refusal (history_of s) q ≡ r → (r ≡ 0 → ⊥) → a ≡ refused r → record { answer = a; session = s } ≡ outcome (history_of s) q s
  unfolding outcome
  refused_is r e some f = rw (f, e, ne_eqb r 0 some)

  pub taken_is : {a : Answer} {n : Session} → refusal (history_of s) q ≡ 0 → a ≡ accepted_answer q (history_after (history_of s) q) → n ≡ session_of (history_after (history_of s) q)
      → record { answer = a; session = n } ≡ outcome (history_of s) q s
  unfolding outcome
  taken_is e f g = rw (f, g, e)

-- the number that an accepted request is answered
accepted_number : (q : Request) (w : History) → refusal w q ≡ 0 → (accepted_answer q (history_after w q)).refusal ≡ refusal w q
unfolding refusal bracket
accepted_number (begin E) w z = sym z
accepted_number (begin_conjunction C) w z = sym z
accepted_number (add count) no_encounter z = sym z
accepted_number (add count) (encounter_at C N) z = sym z
accepted_number read no_encounter z = refl
accepted_number read (encounter_at C N) z = sym z
accepted_number (bad r) w z = refl

-- what holds of an accepted request, with the history after it, and of a refused one, with the history as it was, holds of the request
module _ (w : History) (q : Request) (s : Session) where
  abbrev done : Called
  done = record { answer = accepted_answer q (history_after w q); session = session_of (history_after w q) }

  pub by_cases :
      (P : Called → History → Type 0) →
      (refusal w q ≡ 0 → P done (history_after w q)) →
      ((refusal w q ≡ 0 → ⊥) → P (refusing (refusal w q) s) w) →
      P (outcome w q s) (follow w q)
  unfolding outcome
  by_cases P taken left = go (eqb (refusal w q) 0) refl
    where
      go : (b : Bool) → eqb (refusal w q) 0 ≡ b → P (cond b done (refusing (refusal w q) s)) (cond b (history_after w q) w)
      go true e = taken (eqb-true (refusal w q) 0 e)
      go false e = left (eqb-false (refusal w q) 0 e)

  pub number : (outcome w q s).answer.refusal ≡ refusal w q
  number = by_cases (λ r _. r.answer.refusal ≡ refusal w q) (accepted_number q w) (λ _. refl)

-- the history that the fields tell
pub history_none : (s : Session) → s.N ≡ 0 → history_of s ≡ no_encounter
unfolding history_of
history_none s z = rw (eq-eqb s.N 0 z)

pub history_some : (s : Session) → (s.N ≡ 0 → ⊥) → history_of s ≡ encounter_at (conjunction_of s) s.N
unfolding history_of
history_some s some = rw (ne_eqb s.N 0 some)

-- each call keeps the premise
pub call_reached : {s : Session} (c : Call) {r : Called} → Reached s → r ≡ call c s → Reached r.session
call_reached c h e = subst (λ (r : Called). Reached r.session) (sym e) (after h c)

-- what code makes of the session that a call leaves, or of its refusal, keeps the premise
pub call_kept : (c : Call) {s : Session} {r : Called} (x : Result Session Refusal) → Reached s → r ≡ called s x → called s x ≡ call c s → (r ≡ call c s) × Reached r.session
call_kept c x h f e = (f ∙ e, call_reached c h (f ∙ e))

pub call_kept_of_any :
    (c : Call) {s : Session} {r : Called} (x : Result Session Refusal) →
    Reached s →
    r ≡ called s x →
    ((t : Session) → called t x ≡ call c t) →
    (r ≡ call c s) × Reached r.session
call_kept_of_any c {s} x h f e = call_kept c x h f (e s)

-- ---- begin

nested : Bool → Bool → Bool → Bool → ℕ → ℕ
nested a b c d rest = cond a 3 (cond b 4 (cond c 5 (cond d 6 rest)))

module _ (E : Encounter) (rest : ℕ) where
  -- a test of 3 to 6 that refuses does so whatever follows
  early : 0 < tests_3_to_6 E 0 → tests_3_to_6 E rest ≡ tests_3_to_6 E 0
  unfolding tests_3_to_6 nested
  early h = go (refuses_3 E) (refuses_4 E) (refuses_5 E) (refuses_6 E) h
    where
      go : (a b c d : Bool) → 0 < nested a b c d 0 → nested a b c d rest ≡ nested a b c d 0
      go true b c d h = refl
      go false true c d h = refl
      go false false true d h = refl
      go false false false true h = refl
      go false false false false h = let f : ⊥ = omega arith in absurd f

  -- where none of them refuses, what follows decides
  late : tests_3_to_6 E 0 ≡ 0 → tests_3_to_6 E rest ≡ rest
  unfolding tests_3_to_6 nested
  late h = go (refuses_3 E) (refuses_4 E) (refuses_5 E) (refuses_6 E) h
    where
      go : (a b c d : Bool) → nested a b c d 0 ≡ 0 → nested a b c d rest ≡ rest
      go true b c d h = let f : ⊥ = omega arith in absurd f
      go false true c d h = let f : ⊥ = omega arith in absurd f
      go false false true d h = let f : ⊥ = omega arith in absurd f
      go false false false true h = let f : ⊥ = omega arith in absurd f
      go false false false false h = refl

by_tests : (E : Encounter) → begin_refusal E ≡ tests_3_to_6 E (cond (refuses_7 E) 7 (cond (refuses_11 E) 11 0))
unfolding begin_refusal tests_3_to_6
by_tests E = refl

module _ (E : Encounter) (z : tests_3_to_6 E 0 ≡ 0) where
  pub passed_bounds : Bounds E
  passed_bounds = (bounds E 0 z).0

  tests_7_and_11 : begin_refusal E ≡ cond (refuses_7 E) 7 (cond (refuses_11 E) 11 0)
  tests_7_and_11 = by_tests E ∙ late E _ z

  pub accepted : refuses_7 E ≡ false → refuses_11 E ≡ false → Accepted E
  accepted t m = record { passes = tests_7_and_11 ∙ rw (t, m) }

module _ (E : Encounter) (s : Session) where
  -- refused by a test of 3 to 6
  pub begin_early : {r : ℕ} {a : Answer} → r ≡ tests_3_to_6 E 0 → 0 < r → a ≡ refused r → record { answer = a; session = s } ≡ call (begins E) s
  begin_early {r} e h f =
      let p : 0 < tests_3_to_6 E 0 = rw (← e) h in
      refused_is s (begin E) r (unfold refusal in by_tests E ∙ early E _ p ∙ sym e) (λ z. omega arith) f

  module _ (z : tests_3_to_6 E 0 ≡ 0) where
    -- refused by test 7
    pub begin_7 : {a : Answer} → refuses_7 E ≡ true → a ≡ refused 7 → record { answer = a; session = s } ≡ call (begins E) s
    begin_7 t f = refused_is s (begin E) 7 (unfold refusal in tests_7_and_11 E z ∙ rw t) (λ z. omega arith) f

    -- refused by test 11
    pub begin_11 : {a : Answer} → refuses_7 E ≡ false → refuses_11 E ≡ true → a ≡ refused 11 → record { answer = a; session = s } ≡ call (begins E) s
    begin_11 t m f = refused_is s (begin E) 11 (unfold refusal in tests_7_and_11 E z ∙ rw (t, m)) (λ z. omega arith) f

    pub begin_taken : {a : Answer} {n : Session} → refuses_7 E ≡ false → refuses_11 E ≡ false → a ≡ counted 1 → n ≡ state (no_object E) 1
        → record { answer = a; session = n } ≡ call (begins E) s
    begin_taken t m f g = taken_is s (begin E) (unfold refusal in (accepted E z t m).passes) f g

-- ---- add

module _ (s : Session) (count : ℕ) where
  pub add_12 : {a : Answer} → count ≡ 0 → a ≡ refused 12 → record { answer = a; session = s } ≡ call (adds count) s
  add_12 e f = refused_is s (add count) 12 (unfold refusal refuses_12 in rw (eq-eqb count 0 e)) (λ z. omega arith) f

  module _ (more : count ≡ 0 → ⊥) where
    -- past test 12, the tests of the state decide
    later : (w : History) (r : ℕ) → test_21 w (λ E N. cond (refuses_22 N count) 22 0) ≡ r → refusal w (add count) ≡ r
    unfolding refusal refuses_12
    later w r e = rw (ne_eqb count 0 more) e

    pub add_21 : {a : Answer} → s.N ≡ 0 → a ≡ refused 21 → record { answer = a; session = s } ≡ call (adds count) s
    add_21 z f = refused_is s (add count) 21 (later (history_of s) 21 (rw (history_none s z))) (λ z. omega arith) f

    module _ (some : s.N ≡ 0 → ⊥) where
      pub add_22 : {a : Answer} → largest_order < s.N + count → a ≡ refused 22 → record { answer = a; session = s } ≡ call (adds count) s
      add_22 l f =
          refused_is s (add count) 22 (later (history_of s) 22 (unfold refuses_22 in rw (history_some s some, lt-ltb largest_order (s.N + count) l))) (λ z. omega arith) f

      pub add_taken : {a : Answer} {n : Session} → s.N + count ≤ largest_order → a ≡ counted (s.N + count) → n ≡ state (conjunction_of s) (s.N + count)
          → record { answer = a; session = n } ≡ call (adds count) s
      add_taken l f g =
          taken_is s (add count) (later (history_of s) 0 (unfold refuses_22 in rw (history_some s some, le-ltb largest_order (s.N + count) l))) (rw (history_some s some) f) (rw (history_some s some) g)

-- refused, as code says it
module _ (s : Session) (count : ℕ) where
  pub add_refused_12 : count ≡ 0 → called s (Err EmptyAdd) ≡ call (adds count) s
  add_refused_12 z = add_12 s count z refl

  pub add_refused_21 : (count ≡ 0 → ⊥) → s.N ≡ 0 → called s (Err NotBegun) ≡ call (adds count) s
  add_refused_21 more z = add_21 s count more z refl

  pub add_refused_22 : (count ≡ 0 → ⊥) → (s.N ≡ 0 → ⊥) → largest_order < s.N + count → called s (Err AboveLargestOrder) ≡ call (adds count) s
  add_refused_22 more some l = add_22 s count more some l refl

-- ---- read

module _ (s : Session) where
  -- a read leaves its session, whatever it is answered
  answer_of : {a : Answer} {n : Session} → record { answer = a; session = n } ≡ call reads s → a ≡ (call reads s).answer
  answer_of e = ap (λ (r : Called). r.answer) e

  pub read_21 : {a : Answer} → s.N ≡ 0 → a ≡ refused 21 → a ≡ (call reads s).answer
  read_21 z f = answer_of (refused_is s read 21 (unfold refusal in rw (history_none s z)) (λ z. omega arith) f)

  module _ (some : s.N ≡ 0 → ⊥) where
    pub read_23 : {a : Answer} → refuses_23 s.encounter s.N ≡ true → a ≡ refused 23 → a ≡ (call reads s).answer
    read_23 r f = answer_of (refused_is s read 23 (unfold refusal in rw (history_some s some, r)) (λ z. omega arith) f)

    pub read_taken : {a : Answer} → refuses_23 s.encounter s.N ≡ false → a ≡ bracket (conjunction_of s) s.N → a ≡ (call reads s).answer
    read_taken r f = answer_of (taken_is s read (unfold refusal in rw (history_some s some, r)) (rw (history_some s some) f) refl)

  pub bracket_is : {x y : Scaled} {k : Class} → s.exact ≡ exact_terms s.encounter s.N → x ≡ lower_end s.encounter s.N → y ≡ upper_end s.encounter s.N → k ≡ class_of x y
      → record { refusal = 0; N = s.N; lower = x; upper = y; class = k; object = s.object; time = s.time; exact = s.exact } ≡ bracket (conjunction_of s) s.N
  unfolding bracket
  bracket_is e ex ey ek = rw (ek, ex, ey, e)
