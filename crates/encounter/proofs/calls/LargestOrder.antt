-- An encounter that is begun can be read at the largest order; one that a begin refuses as 11 can be read at none.
use mathlib.Core.Path.{◌≡◌, refl, sym, ◌∙◌, ap}
use mathlib.Core.Bool.{true, false}
use Prim.Native.Nat.{ℕ, ◌+◌, ◌-◌, ◌≤◌, ◌<◌}
use native.Mathlib.Omega.{arith}
use Rattle.exact.specs.declared.Encounter.{Encounter}
use Rattle.exact.specs.declared.Conjunction.{Conjunction}
use Rattle.exact.specs.Numbers.{largest_order}
use Rattle.exact.specs.Records.{begin, begin_conjunction}
use Rattle.exact.specs.Refusals.{refuses_11, begin_refusal, refuses_23, refusal}
use Rattle.exact.proofs.Accepted.{facts}
use Rattle.exact.proofs.Stopped.{refused_as_11, before_9, never_read}
use Rattle.encounter.specs.declared.state.Session.{Session}
use Rattle.encounter.specs.declared.state.Answer.{Answer}
use Rattle.encounter.specs.Session.{state, conjunction_of, bracket}
use Rattle.encounter.specs.Calls.{history_of, begins, begins_conjunction, adds, reads, call, Reached, after}
use Rattle.encounter.specs.Claims.{ReadLater, NeverRead}
use Rattle.encounter.proofs.calls.Answering.{number, read_taken, read_23}
use Rattle.encounter.proofs.calls.Invariant.{begun, led_to}

-- a read at order N by test 23
module _ (C : Conjunction) (N : ℕ) (l : 1 ≤ N) where
  accepted_at : refuses_23 C.encounter N ≡ false → (call reads (state C N)).answer.refusal ≡ 0
  unfolding state bracket
  accepted_at r = sym (ap (λ (a : Answer). a.refusal) (read_taken (state C N) (λ z. omega arith) r refl))

  refused_at : refuses_23 C.encounter N ≡ true → (call reads (state C N)).answer.refusal ≡ 23
  unfolding state
  refused_at r = sym (ap (λ (a : Answer). a.refusal) (read_23 (state C N) (λ z. omega arith) r refl))

module _ (s : Session) (r : Reached s) (p : 0 < s.N) where
  some : s.N ≡ 0 → ⊥
  some z = omega arith

  all : s.N + (largest_order - s.N) ≡ largest_order
  all = omega (arith, (begun s r some).high)

  -- the session at the largest order
  at_largest : (call (adds (largest_order - s.N)) s).session ≡ state (conjunction_of s) largest_order
  at_largest = led_to s r some (largest_order - s.N) (omega (arith, all)) ∙ ap (state (conjunction_of s)) all

  pub begun_can_be_read : ReadLater s
  unfolding state refuses_11 refuses_23
  begun_can_be_read = record {
    count = largest_order - s.N;
    in_limit = omega (arith, all);
    order = rw (at_largest, all);
    same = rw at_largest;
    readable = record {
      reached = after r (adds (largest_order - s.N));
      accepted = rw at_largest (accepted_at (conjunction_of s) largest_order (omega arith) (facts (begun s r some).fine).readable);
    };
  }

never : (E : Encounter) → begin_refusal E ≡ 11 → NeverRead E
never E h C e N l u = refused_at C N l (rw e (never_read E (refused_as_11 E h) N u))

pub stopped_never_read : (E : Encounter) (s : Session) → (call (begins E) s).answer.refusal ≡ 11 → NeverRead E
unfolding refusal
stopped_never_read E s h = never E (sym (number (history_of s) (begin E) s) ∙ h)

pub stopped_conjunction_never_read : (C : Conjunction) (s : Session) → (call (begins_conjunction C) s).answer.refusal ≡ 11 → NeverRead C.encounter
unfolding refusal
stopped_conjunction_never_read C s h = never C.encounter (before_9 _ C.object (sym (number (history_of s) (begin_conjunction C) s) ∙ h))
