-- The two forms of a week, place by place and day by day.
use mathlib.Core.Path.{◌≡◌, refl, sym, ap, ◌∙◌, subst}
use mathlib.Core.List.{List, [], ◌∷◌, map, map-map}
use Prim.Native.Nat.{ℕ, zero, suc, ◌+◌, ◌≤◌, ◌<◌}
use lib.ListN.{length, length-map, get_or, drop, set}
use native.Mathlib.Omega.{arith}
use native.Mathlib.Numerals.{add-one}
use borrow.Author.Tests.{eq-eqb, ne_eqb}
use Rattle.std.specs.Prelude.{Option, Some, None}
use Rattle.std.proofs.lemmas.List.{drop_all, drop_more}
use Rattle.week.specs.declared.Ends.{Ends}
use Rattle.week.proofs.Folding.{map_set, get_map}
use Rattle.std.specs.Prelude.{fold}
use Rattle.exact.specs.Numbers.{days_a_week}
use Rattle.exact.specs.Records.{read}
use Rattle.exact.specs.Refusals.{refusal, test_24, entry_refusal}
use Rattle.week.specs.Private.Walk.{with_bracket}
use Rattle.week.proofs.Tests.{test_rest}
use Rattle.week.proofs.Walking.{one_day_more}
use Rattle.encounter.specs.declared.state.Session.{Session}
use Rattle.encounter.specs.Calls.{history_of, Reached, told_of}
use Rattle.week.specs.Told.{FromCalls, tell, after}
use Rattle.week.specs.Week.{day_of, next_place, Week as Array, Entry, entered, enter, held, held_in}
use Rattle.jinthuol.specs.declared.Bracket.{Bracket}
use Rattle.jinthuol.specs.declared.Day.{Day}
use Rattle.jinthuol.specs.declared.Week.{Week}
use Rattle.jinthuol.specs.Week.{bracket_of, place_in, days_of, in_days, entered_as}

-- h of the n entries from k on
abbrev pub mapped_from : {A B : Type 0} → (A → B) → A → ℕ → ℕ → List A → List B
mapped_from h d zero k l = []
mapped_from h d (suc n) k l = h (get_or l k d) ∷ mapped_from h d n (k + 1) l

-- what is given entry by entry is what `map` gives of all
pub mapped : {A B : Type 0} (h : A → B) (d : A) (n k : ℕ) (l : List A) → length l ≡ k + n → mapped_from h d n k l ≡ map h (drop k l)
mapped h d zero k l e = sym (ap (map h) (drop_all k l (omega (arith, e))))
mapped h d (suc n) k l e =
    ap (λ (r : List _). h (get_or l k d) ∷ r) (mapped h d n (k + 1) l (omega (arith, e))) ∙ sym (ap (map h) (drop_more l k d (omega (arith, e))))

pub empty_is : (b : Bracket) → b.held ≡ 0 → None ≡ place_in b
unfolding place_in
empty_is b z = rw (eq-eqb b.held 0 z)

pub held_is : (b : Bracket) → (b.held ≡ 0 → ⊥) → Some (record { lower = b.lower; upper = b.upper }) ≡ place_in b
unfolding place_in
held_is b n = rw (ne_eqb b.held 0 n)

-- into the struct and out of it
place_back : (p : Option Ends) → place_in (bracket_of p) ≡ p
unfolding place_in bracket_of
place_back None = refl
place_back (Some e) = refl

places_back : (day : List (Option Ends)) → map place_in (map bracket_of day) ≡ day
places_back [] = refl
places_back (p ∷ day) = λ i. place_back p i ∷ places_back day i

pub days_back : (l : Array) → days_of (in_days l) ≡ l
unfolding days_of in_days
days_back [] = refl
days_back (day ∷ l) = λ i. places_back day i ∷ days_back l i

-- ---- a loop that writes in place

-- f of the first i of a list, then the rest as it was
abbrev pub partly : {A : Type 0} → (A → A) → List A → ℕ → List A
partly f [] i = []
partly f (x ∷ l) zero = x ∷ l
partly f (x ∷ l) (suc i) = f x ∷ partly f l i

module _ {A : Type 0} (f : A → A) where
  pub partly_none : (l : List A) → l ≡ partly f l 0
  partly_none [] = refl
  partly_none (x ∷ l) = refl

  pub partly_turn : (l : List A) (i : ℕ) (d : A) {k : List A} {y : A} → k ≡ partly f l i → i < length l → y ≡ f (get_or k i d) → set k i y ≡ partly f l (i + 1)
  partly_turn l i d e h g = rw add-one (rw e (turn l i d h (g ∙ ap (λ (k : List A). f (get_or k i d)) e)))
    where
      turn : (l : List A) (i : ℕ) (d : A) {y : A} → i < length l → y ≡ f (get_or (partly f l i) i d) → set (partly f l i) i y ≡ partly f l (suc i)
      turn [] i d h e = refl
      turn (x ∷ l) zero d h e = λ j. e j ∷ partly_none l j
      turn (x ∷ l) (suc i) d h e = ap (λ (r : List A). f x ∷ r) (turn l i d (omega (arith, h)) e)

  pub partly_all : (l : List A) (i : ℕ) → length l ≤ i → partly f l i ≡ map f l
  partly_all [] i h = refl
  partly_all (x ∷ l) zero h = absurd (let z : ⊥ = omega (arith, h) in z)
  partly_all (x ∷ l) (suc i) h = ap (λ (r : List A). f x ∷ r) (partly_all l i (omega (arith, h)))

-- ---- each place as these calls write it

abbrev pub again : Bracket → Bracket
again b = bracket_of (place_in b)

abbrev pub day_again : Day → Day
day_again day = record { places = map again day.places }

pub empty_again : (b : Bracket) → b.held ≡ 0 → bracket_of None ≡ again b
empty_again b z = ap bracket_of (empty_is b z)

pub held_again : (b : Bracket) → (b.held ≡ 0 → ⊥) → record { held = 1; lower = b.lower; upper = b.upper } ≡ again b
unfolding bracket_of
held_again b n = ap bracket_of (held_is b n)

days_again : (l : List Day) → map day_again l ≡ map (λ (day : List (Option Ends)). record { places = map bracket_of day }) (map (λ (d : Day). map place_in d.places) l)
days_again [] = refl
days_again (d ∷ l) = λ i. record { places = sym (map-map bracket_of place_in d.places) i } ∷ days_again l i

pub week_again : (l : List Day) → ◌≡◌ {A = Week} (record { days = map day_again l }) (in_days (days_of (record { days = l })))
unfolding days_of in_days
week_again l = λ i. record { days = days_again l i }

-- ---- a day of the struct

pub day_is : (w : Week) (i : ℕ) (d : Day) → i < length w.days → map place_in (get_or w.days i d).places ≡ day_of (days_of w) i
unfolding days_of
day_is w i d h = sym (get_map (λ (d : Day). map place_in d.places) w.days i d [] h)

pub as_many : (w : Week) → length (days_of w) ≡ length w.days
unfolding days_of
as_many w = length-map w.days (λ d. map place_in d.places)

-- the number of an entry, where code has it of the places of the day named
pub number_is :
    (w : Week) (s : Session) (day : ℕ) (d : Day) {n : ℕ} {l : List (Option Ends)} →
    day < length w.days →
    day < days_a_week →
    l ≡ map place_in (get_or w.days day d).places →
    n ≡ test_24 (refusal (history_of s) read) (next_place l) →
    n ≡ entry_refusal (history_of s) day (next_place (day_of (days_of w) day))
number_is w s day d h k e i =
    i ∙ ap (λ (l : List (Option Ends)). test_24 (refusal (history_of s) read) (next_place l)) (e ∙ day_is w day d h) ∙ test_rest (history_of s) day (next_place (day_of (days_of w) day)) k

-- a turn of the loop over the days
pub day_turn :
    (e : Ends) (w : Week) (i : ℕ) (d : Day) {r : Ends} →
    i < length w.days →
    r ≡ fold with_bracket e (held_in (map place_in (get_or w.days i d).places)) →
    fold with_bracket r (held (drop (i + 1) (days_of w))) ≡ fold with_bracket e (held (drop i (days_of w)))
day_turn e w i d h g =
    rw (g, day_is w i d h) (one_day_more e (days_of w) i [] (omega (arith, h, as_many w)))

-- the place of the struct that an entry writes
pub put_in : (l : Array) (d p : ℕ) (z : Day) (e : Ends) → d < length l → ◌≡◌ {A = Week} (record { days = set (in_days l).days d (record { places = set (get_or (in_days l).days d z).places p (bracket_of (Some e)) }) }) (in_days (set l d (set (day_of l d) p (Some e))))
unfolding in_days
put_in l d p z e h =
    let f : List (Option Ends) → Day = λ day. record { places = map bracket_of day } in
    let k : get_or (map f l) d z ≡ f (day_of l d) = get_map f l d [] z h in
    rw k (λ i. record { days = sym (map_set f l d (set (day_of l d) p (Some e)) ∙ (λ j. set (map f l) d (record { places = map_set bracket_of (day_of l d) p (Some e) j }))) i })

pub entered_in : (l : Array) (z : Day) {d p day : ℕ} {e b : Ends} → d < length l → ◌≡◌ {A = ℕ × ℕ × Ends} (d, p, e) (day, next_place (day_of l day), b)
    → ◌≡◌ {A = Week} (record { days = set (in_days l).days d (record { places = set (get_or (in_days l).days d z).places p (bracket_of (Some e)) }) }) (in_days (entered l day b))
unfolding entered
entered_in l z {d} {p} {e = e} h v = put_in l d p z e h ∙ (λ i. in_days (set l (v i).0 (set (day_of l (v i).0) (v i).1 (Some (v i).2))))

-- ---- an entry, as code has it of the struct

pub part_0 : {d e p q : ℕ} {b c : Ends} → ◌≡◌ {A = ℕ × ℕ × Ends} (d, p, b) (e, q, c) → d ≡ e
part_0 g = λ i. (g i).0

pub part_1 : {d e p q : ℕ} {b c : Ends} → ◌≡◌ {A = ℕ × ℕ × Ends} (d, p, b) (e, q, c) → p ≡ q
part_1 g = λ i. (g i).1

module _ (w : Array) (s : Session) (day : ℕ) where
  still : Reached s → FromCalls w → FromCalls (enter w day s).week
  still r f = record { told = tell f.told day (told_of r); came = after f.came day r }

  -- what `jinthuol_enter` promises of the struct v, where the week after the entry is u
  pub promised : {r : ℕ} {u : Array} {v : Week} → Reached s → FromCalls w → record { refusal = r; week = u } ≡ enter w day s → v ≡ in_days u
      → (record { refusal = r; week = v } ≡ entered_as (enter w day s)) × (days_of v ≡ (enter w day s).week) × FromCalls (days_of v)
  unfolding entered_as
  promised {r} {u} {v} c f e g =
      let k : days_of v ≡ (enter w day s).week = ap days_of g ∙ days_back u ∙ ap (λ (x : Entry). x.week) e in
      ((λ i. record { refusal = (e i).refusal; week = (g ∙ ap (λ (x : Entry). in_days x.week) e) i }), k, subst FromCalls (sym k) (still c f))
