-- Every week from these calls is the one that its entries tell, and every read that they tell was accepted.
use mathlib.Core.Path.{◌≡◌, refl, sym, ap, ◌∙◌, subst}
use mathlib.Core.Bool.{Bool, true, false}
use mathlib.Core.List.{List, [], ◌∷◌, ◌++◌}
use mathlib.Core.Logic.{⊎_elim}
use Prim.Native.Nat.{ℕ, ◌^◌, ◌≤◌, ◌<◌}
use native.Mathlib.Omega.{arith}
use borrow.Author.Tests.{eqb-true, eqb-false, ne_eqb}
use lib.Dec.{eqb, lit≤}
use lib.ListN.{length, set, length-set, length-append}
use Rattle.exact.specs.declared.Conjunction.{Conjunction}
use Rattle.exact.specs.Numbers.{days_a_week, places_a_day}
use Rattle.exact.specs.Refusals.{History, no_encounter, encounter_at, entry_refusal}
use Rattle.exact.specs.Steps.{lower_end, upper_end}
use Rattle.exact.specs.Private.Ranges.{InRange}
use Rattle.exact.proofs.Fractions.{lt_or_le}
use Rattle.encounter.specs.declared.state.Session.{Session}
use Rattle.encounter.specs.declared.state.Answer.{Answer}
use Rattle.encounter.specs.Session.{conjunction_of, bracket}
use Rattle.encounter.specs.Calls.{history_of, reads, call, Reached}
use Rattle.encounter.specs.Enclosure.{Every}
use Rattle.encounter.proofs.calls.AcceptedReads.{ReadOf, accepted_read}
use Rattle.encounter.proofs.calls.Invariant.{history_is, whole_told, begun, encloses}
use Rattle.encounter.proofs.calls.ReadNumbers.{lower_end_fine, upper_end_fine}
use Rattle.week.specs.declared.Ends.{Ends}
use Rattle.week.specs.Week.{Week, Entry, empty_week, day_of, next_place, ends_of, entered, enter}
use Rattle.week.specs.Told.{Read, Told, nothing_told, reads_of, tell, place_of, day_with, week_with, Came, from_empty, after, FromCalls}
use Rattle.week.proofs.Folding.{every_same, every_set, every_get, every_append, map_set, get_map}
use Rattle.week.proofs.Places.{day_length, next_is, put_next}
use Rattle.week.proofs.Tests.{test_13, enters, stays, goes_in}
use Rattle.week.proofs.Quotients.{Encloses}

-- a read that was accepted: its ends enclose, and their exponents are not far
pub record Good (r : Read) : Type 0 where
  pub enclosing : Encloses r
  pub lower_in : InRange 32 (2 ^ 27) (lower_end r.encounter r.order)
  pub upper_in : InRange 32 (2 ^ 27) (upper_end r.encounter r.order)

pub record Sound (w : Week) (t : Told) : Type 0 where
  pub is : w ≡ week_with t
  pub days : length t ≡ days_a_week
  pub places : Every (λ (rs : List Read). length rs ≤ places_a_day) t
  pub good : Every (Every Good) t

-- ---- an accepted read

abbrev read_at : Session → Read
read_at s = record { encounter = s.encounter; order = s.N }

good_read : {s : Session} → Reached s → ReadOf s → Good (read_at s)
good_read {s} r f =
    let b = begun s r (λ z. omega (arith, z, f.low)) in
    record {
      enclosing = record { between = unfold bracket in (encloses (conjunction_of s) f.fine f.low f.passes).between };
      lower_in = lower_end_fine s b refl;
      upper_in = upper_end_fine s b refl;
    }

history_at : {s : Session} → ReadOf s → history_of s ≡ encounter_at (conjunction_of s) s.N
unfolding history_of
history_at {s} f = rw (ne_eqb s.N 0 (λ z. omega (arith, z, f.low)))

ends_are : {s : Session} → ReadOf s → ends_of (call reads s).answer ≡ place_of (read_at s)
unfolding place_of bracket
ends_are f = ap (λ (a : Answer). ends_of a) f.is

-- ---- what an entry tells

told_nothing : (t : Told) (day : ℕ) (h : History) → eqb (entry_refusal h day (length (reads_of t day))) 0 ≡ false → tell t day h ≡ t
unfolding tell
told_nothing t day no_encounter e = refl
told_nothing t day (encounter_at C N) e = rw e

told_read : (t : Told) (day : ℕ) (C : Conjunction) (N : ℕ) → eqb (entry_refusal (encounter_at C N) day (length (reads_of t day))) 0 ≡ true → tell t day (encounter_at C N) ≡ set t day (reads_of t day ++ record { encounter = C.encounter; order = N } ∷ [])
unfolding tell
told_read t day C N e = rw e

-- ---- an entry keeps it so

module _ {w : Week} {t : Told} (o : Sound w t) (day : ℕ) where
  day_is : day < days_a_week → day_of w day ≡ day_with (reads_of t day)
  unfolding week_with
  day_is l = ap (λ (v : Week). day_of v day) o.is ∙ get_map day_with t day [] [] (omega (arith, l, o.days))

  -- a day has all its places
  full_day : day < days_a_week → length (day_of w day) ≡ places_a_day
  full_day l =
      let rs = reads_of t day in
      let few : length rs ≤ places_a_day = every_get (λ (rs : List Read). length rs ≤ places_a_day) t o.places day [] (lit≤ tt) in
      ap length (day_is l) ∙ omega (arith, few, day_length rs)

  same_number : (h : History) → entry_refusal h day (next_place (day_of w day)) ≡ entry_refusal h day (length (reads_of t day))
  same_number h =
      ⊎_elim
      (λ l. ap (entry_refusal h day) (ap next_place (day_is l) ∙ next_is (reads_of t day)))
      (λ l. sym (test_13 h day _ l) ∙ test_13 h day _ l)
      (lt_or_le day days_a_week)

  put : (r : Read) → day < days_a_week → length (reads_of t day) < places_a_day → entered w day (place_of r) ≡ week_with (set t day (reads_of t day ++ r ∷ []))
  unfolding entered week_with
  put r l p =
      rw (day_is l) (ap (set w day) (put_next (reads_of t day) r p) ∙ rw o.is (sym (map_set day_with t day (reads_of t day ++ r ∷ []))))

  kept : (r : Read) → Good r → day < days_a_week → length (reads_of t day) < places_a_day → Sound (entered w day (place_of r)) (set t day (reads_of t day ++ r ∷ []))
  kept r g l p = record {
    is = put r l p;
    days = length-set t day _ ∙ o.days;
    places = every_set (λ (rs : List Read). length rs ≤ places_a_day) t o.places day _ (omega (arith, p, length-append (reads_of t day) (r ∷ [])));
    good = every_set (Every Good) t o.good day _ (every_append Good (reads_of t day) (r ∷ []) (every_get (Every Good) t o.good day [] tt) (g, tt));
  }

  step : {s : Session} → Reached s → Sound (enter w day s).week (tell t day (history_of s))
  step {s} r = go (eqb (entry_refusal (history_of s) day (length (reads_of t day))) 0) refl
    where
      go : (b : Bool) → eqb (entry_refusal (history_of s) day (length (reads_of t day))) 0 ≡ b → Sound (enter w day s).week (tell t day (history_of s))
      go false e =
          let other : entry_refusal (history_of s) day (next_place (day_of w day)) ≡ 0 → ⊥ = λ z. eqb-false _ 0 e (sym (same_number (history_of s)) ∙ z) in
          subst (λ (v : Week). Sound v (tell t day (history_of s))) (ap (λ (x : Entry). x.week) (stays w day s refl other)) (subst (λ (u : Told). Sound w u) (sym (told_nothing t day (history_of s) e)) o)
      go true e =
          let z = eqb-true (entry_refusal (history_of s) day (length (reads_of t day))) 0 e in
          let x = enters (history_of s) day (length (reads_of t day)) z in
          let f = accepted_read r x.read_passes in
          let put : entered w day (place_of (read_at s)) ≡ (enter w day s).week = ap (λ (b : Ends). entered w day b) (sym (ends_are f)) ∙ ap (λ (x : Entry). x.week) (goes_in w day s (sym z ∙ sym (same_number (history_of s)))) in
          let told : set t day (reads_of t day ++ read_at s ∷ []) ≡ tell t day (history_of s) =
          sym (ap (λ (h : History). tell t day h) (history_at f) ∙ told_read t day (conjunction_of s) s.N (ap (λ (h : History). eqb (entry_refusal h day (length (reads_of t day))) 0) (sym (history_at f)) ∙ e)) in
          subst (λ (v : Week). Sound v (tell t day (history_of s))) put
          (subst (λ (u : Told). Sound (entered w day (place_of (read_at s))) u) told (kept (read_at s) (good_read r f) x.in_week x.has_room))

nothing_sound : Sound empty_week nothing_told
unfolding week_with day_with
nothing_sound = record {
  is = refl;
  days = refl;
  places = every_same (λ (rs : List Read). length rs ≤ places_a_day) days_a_week [] (lit≤ tt);
  good = every_same (Every Good) days_a_week [] tt;
}

pub sound : {w : Week} {t : Told} → Came w t → Sound w t
sound from_empty = nothing_sound
sound (after {w} {t} c day {s} r) =
    subst (λ (h : History). Sound (enter w day s).week (tell t day h)) (history_is (whole_told r)) (step (sound c) day r)

pub eight_places : {w : Week} → FromCalls w → (day : ℕ) → day < days_a_week → length (day_of w day) ≡ places_a_day
eight_places f = full_day (sound f.came)
