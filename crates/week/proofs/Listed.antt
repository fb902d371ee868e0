-- The demands over every list of calls, entries among them.
use mathlib.Core.Path.{◌≡◌, refl, sym, ap, ◌∙◌}
use mathlib.Core.Bool.{Bool, true, false, cond}
use Prim.Native.Nat.{ℕ}
use lib.Dec.{eqb}
use Rattle.exact.specs.Records.{read}
use Rattle.exact.specs.Refusals.{History, refusal, entry_refusal}
use Rattle.encounter.specs.declared.state.Session.{Session}
use Rattle.encounter.specs.Calls.{follow, session_of, history_of, reads, call}
use Rattle.encounter.specs.Enclosure.{place}
use Rattle.encounter.proofs.calls.Invariant.{Whole, session_is, history_is, whole_told, claim}
use Rattle.week.specs.Week.{Week, Entry, day_of, next_place, enter}
use Rattle.week.specs.Lists.{EntersAsRead, EntryDemands}
use Rattle.week.proofs.Tests.{enters, stays, goes_in, read_number}

enters_as_read : {s : Session} {h : History} → Whole s h → (w : Week) (day : ℕ) → EntersAsRead (place s h reads) w day (enter w day s)
unfolding enter
enters_as_read {s} {h} o w day = record {
  claim = claim o reads;
  is_read = refl;
  number = ap (λ (v : History). entry_refusal v day (next_place (day_of w day))) (history_is o);
  accepted = λ z. read_number s ∙ (enters (history_of s) day (next_place (day_of w day)) z).read_passes;
  ends = λ z. sym (ap (λ (e : Entry). e.week) (goes_in w day s (sym z)));
  unchanged = λ n. sym (ap (λ (e : Entry). e.week) (stays w day s refl n));
}

-- a read leaves the history and the session as they are
history_stays : (h : History) → follow h read ≡ h
history_stays h = go (eqb (refusal h read) 0)
  where
    go : (b : Bool) → cond b h h ≡ h
    go true = refl
    go false = refl

session_stays : {s : Session} {h : History} → Whole s h → (call reads s).session ≡ s
session_stays {h = h} o = (claim o reads).session ∙ ap session_of (history_stays h) ∙ sym (session_is o)

pub entry_demands : EntryDemands
unfolding EntryDemands
entry_demands s r w day = let o = whole_told r in (enters_as_read o w day, session_stays o)
