-- What an entry promises, by cases, as code takes them.
use mathlib.Core.Path.{◌≡◌, refl, sym, ◌∙◌, ap, subst}
use Prim.Native.Nat.{ℕ, ◌≤◌, ◌<◌}
use native.Mathlib.Omega.{arith}
use Rattle.std.specs.Prelude.{Option, Some, None, Result, Ok, Err}
use Rattle.std.specs.Option.{ok_or}
use Rattle.exact.specs.Kinds.{number_of, refusal_in}
use Rattle.exact.specs.declared.refusals.Refusal.{Refusal}
use Rattle.exact.specs.declared.refusals.Refusal.TheVariants.{NoDay, FullDay}
use Rattle.exact.specs.Numbers.{days_a_week, places_a_day}
use Rattle.exact.specs.Records.{read}
use Rattle.exact.specs.Refusals.{refusal, test_24, entry_refusal}
use Rattle.encounter.specs.declared.state.Session.{Session}
use Rattle.encounter.specs.declared.state.Reading.{Reading}
use Rattle.encounter.specs.Session.{answer_of}
use Rattle.encounter.specs.Calls.{history_of, reads, call, Reached, told_of}
use lib.ListN.{set}
use Rattle.week.specs.declared.Ends.{Ends}
use Rattle.week.specs.Week.{Day, Week, Entry, day_of, next_place, ends_of, entered, enter, entry_of}
use Rattle.encounter.specs.declared.state.Answer.{Answer}
use Rattle.encounter.proofs.calls.Answering.{positive}
use Rattle.week.specs.Told.{FromCalls, tell, after}
use Rattle.week.proofs.Tests.{enters, test_13, test_rest, as_read, a_ninth, has_place, stays, goes_in, read_number}

-- what `ok_or` answers of the next place: none, or one
pub full : {o : Option ℕ} {r : Result ℕ Refusal} {e : Refusal} → r ≡ ok_or o FullDay → r ≡ Err e → (o ≡ None) × (e ≡ FullDay)
full = grind arith

pub got : {o : Option ℕ} {r : Result ℕ Refusal} {p : ℕ} → r ≡ ok_or o FullDay → r ≡ Ok p → o ≡ Some p
got = grind arith

module _ {w : Week} {s : Session} (f : FromCalls w) (reached : Reached s) (day : ℕ) where
  -- the week after an entry is from these calls too
  still : FromCalls (enter w day s).week
  still = record { told = tell f.told day (told_of reached); came = after f.came day reached }

  pub keeps : {v : Week} → entry_of w (Ok v) ≡ enter w day s → (entry_of w (Ok v) ≡ enter w day s) × FromCalls v
  keeps e = (e, subst FromCalls (sym (ap (λ (x : Entry). x.week) e)) still)

-- ---- into a day

module _ (day : Day) (s : Session) where
  abbrev number_in : ℕ
  number_in = test_24 (refusal (history_of s) read) (next_place day)

  after_read : (a : Result Reading Refusal) → answer_of a ≡ (call reads s).answer → test_24 (refusal_in a) (next_place day) ≡ number_in
  after_read (Ok x) e = ap (λ (r : ℕ). test_24 r (next_place day)) (ap (λ (b : Answer). b.refusal) e ∙ read_number s)
  after_read (Err r) e = ap (λ (r : ℕ). test_24 r (next_place day)) (ap (λ (b : Answer). b.refusal) e ∙ read_number s)

  pub refused_read : (e : Refusal) → answer_of (Err e) ≡ (call reads s).answer → number_of e ≡ number_in
  refused_read e is = as_read (number_of e) (next_place day) (λ z. omega (arith, z, positive e)) ∙ after_read (Err e) is

  module _ {x : Reading} (is : answer_of (Ok x) ≡ (call reads s).answer) where
    pub refused_24 : places_a_day ≤ next_place day → number_of FullDay ≡ number_in
    refused_24 l = a_ninth 0 (next_place day) refl l ∙ after_read (Ok x) is

    pub accepted : next_place day < places_a_day → 0 ≡ number_in
    accepted l = has_place 0 (next_place day) refl l ∙ after_read (Ok x) is

-- ---- into a week

module _ (w : Week) (s : Session) (day : ℕ) where
  pub refused_13 : days_a_week ≤ day → entry_of w (Err NoDay) ≡ enter w day s
  refused_13 l = stays w day s (test_13 (history_of s) day (next_place (day_of w day)) l) (λ z. omega (arith, z))

  module _ (in_week : day < days_a_week) where
    number_is : {n : ℕ} → n ≡ number_in (day_of w day) s → n ≡ entry_refusal (history_of s) day (next_place (day_of w day))
    number_is e = e ∙ test_rest (history_of s) day (next_place (day_of w day)) in_week

    pub refused_in : (e : Refusal) → number_of e ≡ number_in (day_of w day) s → entry_of w (Err e) ≡ enter w day s
    refused_in e is = stays w day s (number_is is) (λ z. omega (arith, z, positive e))

    pub has_room : {p : ℕ} {b : Ends} → 0 ≡ number_in (day_of w day) s → ◌≡◌ {A = ℕ × Ends} (p, b) (next_place (day_of w day), ends_of (call reads s).answer) → p < places_a_day
    has_room z e = rw (ap (λ (r : ℕ × Ends). r.0) e) (enters (history_of s) day (next_place (day_of w day)) (sym (number_is z))).has_room

    pub put_in :
        {p : ℕ} {b : Ends} → 0 ≡ number_in (day_of w day) s → ◌≡◌ {A = ℕ × Ends} (p, b) (next_place (day_of w day), ends_of (call reads s).answer) → entry_of w (Ok (set w day (set (day_of w day) p (Some b)))) ≡ enter w day s
    unfolding entered
    put_in z e = (λ i. record { refusal = 0; week = set w day (set (day_of w day) (e i).0 (Some (e i).1)) }) ∙ goes_in w day s (number_is z)
