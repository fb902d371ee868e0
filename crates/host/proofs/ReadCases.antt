-- A read of a session that came from the calls is a bracket or a refusal.
use mathlib.Core.Path.{◌≡◌, refl, sym, subst}
use mathlib.Core.Bool.{Bool, true, false, cond}
use Prim.Native.Nat.{ℕ}
use borrow.Author.Tests.{eqb-true, eqb-false, ne_eqb}
use lib.Dec.{eqb}
use Rattle.exact.specs.declared.refusals.Refusal.{Refusal}
use Rattle.exact.specs.declared.refusals.Refusal.TheVariants.{NotBegun, TailTooLarge}
use Rattle.exact.specs.Kinds.{number_of}
use Rattle.exact.specs.Records.{read}
use Rattle.exact.specs.Refusals.{History, no_encounter, encounter_at, refuses_23, refusal}
use Rattle.encounter.specs.declared.state.Session.{Session}
use Rattle.encounter.specs.declared.state.Answer.{Answer}
use Rattle.encounter.specs.Session.{refused, bracket, conjunction_of}
use Rattle.encounter.specs.Calls.{history_of, outcome, reads, call, Reached}
use Rattle.encounter.proofs.calls.AcceptedReads.{ReadOf, accepted_read}

-- 21 or 23
refused_at : (b : Bool) → (◌≡◌ {A = ℕ} (cond b 23 0) 0 → ⊥) → (e : Refusal) × (◌≡◌ {A = ℕ} (cond b 23 0) (number_of e))
refused_at true some = (TailTooLarge, refl)
refused_at false some = absurd (some refl)

refused_as : (w : History) → (refusal w read ≡ 0 → ⊥) → (e : Refusal) × (refusal w read ≡ number_of e)
unfolding refusal
refused_as no_encounter some = (NotBegun, refl)
refused_as (encounter_at C N) some = refused_at (refuses_23 C.encounter N) some

refused_read : (s : Session) → (refusal (history_of s) read ≡ 0 → ⊥) → (call reads s).answer ≡ refused (refusal (history_of s) read)
unfolding outcome
refused_read s some = rw (ne_eqb _ 0 some)

-- what holds of the bracket where the read is accepted, and of every refusal, holds of the read's answer
pub by_read : (P : Answer → Type 0) {s : Session} → Reached s → (ReadOf s → P (bracket (conjunction_of s) s.N)) → ((e : Refusal) → P (refused (number_of e))) → P (call reads s).answer
by_read P {s} r accepted left = go (eqb (refusal (history_of s) read) 0) refl
  where
    go : (b : Bool) → eqb (refusal (history_of s) read) 0 ≡ b → P (call reads s).answer
    go true e = let f = accepted_read r (eqb-true _ 0 e) in subst P (sym f.is) (accepted f)
    go false h =
        let some = eqb-false (refusal (history_of s) read) 0 h in
        let (e, is) = refused_as (history_of s) some in
        subst P (sym (rw is at (refused_read s some))) (left e)
