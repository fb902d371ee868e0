-- A day's next empty place, and a day of which the reads are told: their ends, then empty places.
use mathlib.Core.Path.{◌≡◌, refl, sym, ap, ◌∙◌}
use mathlib.Core.List.{List, [], ◌∷◌, ◌++◌, map, map-append, append_assoc}
use Prim.Native.Nat.{ℕ, zero, suc, ◌+◌, ◌-◌, ◌<◌}
use native.Mathlib.Omega.{arith}
use mathlib.Core.Bool.{Bool, true, false, cond}
use borrow.Author.Tests.{ltb-false}
use Rattle.std.specs.Prelude.{Option, Some, None, is_none, position, nat_lt, ◌≤◌}
use Rattle.std.proofs.lemmas.Option.{same_Some, none-some}
use Rattle.std.specs.List.{position_or_len}
use Rattle.std.proofs.lemmas.List.Quantifiers.{position-Some}
use lib.ListN.{length, length-map, set, replicate, length-replicate, length-append}
use lib.Seq.{set-append_seam}
use Rattle.exact.specs.Numbers.{places_a_day}
use Rattle.week.specs.declared.Ends.{Ends}
use Rattle.week.specs.Week.{empty_place, Day, next_place, held_in}
use Rattle.week.specs.Told.{Read, place_of, day_with}

-- ---- as code finds it

pub found : (l : Day) {p : ℕ} → position is_none l ≡ Some p → (p ≡ next_place l) × (p < length l)
unfolding next_place
found l e = let p = position-Some is_none l _ empty_place e in (go (nat_lt (position_or_len is_none l) (length l)) e, p.0)
  where
    go : {q : ℕ} (b : Bool) → cond b (Some (position_or_len is_none l)) None ≡ Some q → q ≡ position_or_len is_none l
    go true i = sym (same_Some _ _ i)
    go false i = absurd (none-some _ i)

pub none_found : (l : Day) → position is_none l ≡ None → length l ≤ next_place l
unfolding next_place
none_found l e = ltb-false _ _ (go (nat_lt (position_or_len is_none l) (length l)) refl e)
  where
    go : (b : Bool) → nat_lt (position_or_len is_none l) (length l) ≡ b → cond b (Some (position_or_len is_none l)) None ≡ None → nat_lt (position_or_len is_none l) (length l) ≡ false
    go true i j = absurd (none-some _ (sym j))
    go false i j = i

-- ---- of a day whose reads are told

abbrev pub in_place : Read → Option Ends
in_place r = Some (place_of r)

filled : (rs : List Read) (k : ℕ) → next_place (map in_place rs ++ replicate k empty_place) ≡ length rs
unfolding next_place
filled [] zero = refl
filled [] (suc k) = refl
filled (r ∷ rs) k = omega (arith, filled rs k)

pub next_is : (rs : List Read) → next_place (day_with rs) ≡ length rs
unfolding day_with
next_is rs = filled rs (places_a_day - length rs)

pub day_length : (rs : List Read) → length (day_with rs) ≡ length rs + (places_a_day - length rs)
unfolding day_with
day_length rs = simp (length-append, length-map, length-replicate) refl

-- the next read's ends go into the next place
one_more : (rs : List Read) (r : Read) (k j : ℕ) → k ≡ suc j → set (map in_place rs ++ replicate k empty_place) (length rs) (in_place r) ≡ map in_place (rs ++ r ∷ []) ++ replicate j empty_place
one_more rs r k j e =
    rw (e, ← length-map rs in_place, map-append in_place rs (r ∷ []))
    (set-append_seam (map in_place rs) empty_place (replicate j empty_place) (in_place r) ∙ sym (append_assoc (map in_place rs) (in_place r ∷ []) (replicate j empty_place)))

pub put_next : (rs : List Read) (r : Read) → length rs < places_a_day → set (day_with rs) (next_place (day_with rs)) (in_place r) ≡ day_with (rs ++ r ∷ [])
put_next rs r h =
    rw (next_is rs)
    (unfold day_with in one_more rs r (places_a_day - length rs) (places_a_day - length (rs ++ r ∷ [])) (omega (arith, length-append rs (r ∷ []))))

-- what such a day holds

no_more : (k : ℕ) → held_in (replicate k empty_place) ≡ []
unfolding held_in
no_more zero = refl
no_more (suc k) = no_more k

held_filled : (rs : List Read) (k : ℕ) → held_in (map in_place rs ++ replicate k empty_place) ≡ map place_of rs
unfolding held_in
held_filled [] k = no_more k
held_filled (r ∷ rs) k = ap (λ (l : List Ends). place_of r ∷ l) (held_filled rs k)

pub day_holds : (rs : List Read) → held_in (day_with rs) ≡ map place_of rs
unfolding day_with
day_holds rs = held_filled rs (places_a_day - length rs)
