-- The ends as code gathers them are the week's: the numbers that it sums and compares are in the limits of the arithmetic.
use mathlib.Core.Path.{◌≡◌, refl, sym, ap, ◌∙◌}
use mathlib.Core.Bool.{Bool, true, false, cond}
use mathlib.Core.List.{List, [], ◌∷◌, ◌++◌, map, flatten}
use Prim.Native.Nat.{ℕ, ◌+◌, ◌*◌, ◌^◌, ◌≤◌, ◌<◌}
use native.Mathlib.Omega.{arith}
use Rattle.std.specs.Prelude.{fold, filter_map, flat_map, Option, Some, None}
use Rattle.std.proofs.lemmas.List.{at_drop_all, at_drop_more}
use lib.Dec.{lit<, lit≤}
use lib.ListN.{length, get_or, drop}
use Rattle.exact.specs.declared.Scaled.{Scaled}
use Rattle.exact.specs.Fraction.{◌⊕◌, at_most}
use Rattle.exact.specs.Numbers.{days_a_week, places_a_day}
use Rattle.exact.specs.Scaled.{nought, value, U}
use Rattle.exact.specs.Steps.{lower_end, upper_end}
use Rattle.exact.specs.Private.Ranges.{InRange}
use Rattle.exact.proofs.Ranges.{nought_range, widen, sum_range}
use Rattle.encounter.specs.Enclosure.{Every}
use Rattle.encounter.specs.Sums.{greater}
use Rattle.encounter.proofs.sums.Limits.{sum_is, greater_is}
use Rattle.week.specs.declared.Ends.{Ends}
use Rattle.week.specs.Week.{Day, Week, held_in, held, greatest_of, added_up, week_ends}
use Rattle.std.proofs.lemmas.List.Elements.{filter_map-append}
use Rattle.std.proofs.lemmas.List.Sums.{fold-append}
use Rattle.week.specs.Told.{Read, place_of, FromCalls}
use Rattle.week.specs.Private.Walk.{no_ends, with_bracket}
use Rattle.week.proofs.Folding.{every_flat, flat_length}
use Rattle.week.proofs.Holding.{week_holds}
use Rattle.week.proofs.Telling.{Good, sound}

-- ---- the brackets, as code goes through them

held_are : (w : Week) → filter_map (λ p. p) (flat_map (λ d. d) w) ≡ flatten (map held_in w)
unfolding flatten held_in
held_are [] = refl
held_are (day ∷ w) = filter_map-append (λ p. p) day (flat_map (λ d. d) w) ∙ ap (λ (l : List Ends). filter_map (λ p. p) day ++ l) (held_are w)

-- a turn at an empty place, and at one that holds a bracket
pub none_there : (e : Ends) (day : Day) (i : ℕ) (d : Option Ends) → i < length day → get_or day i d ≡ None → fold with_bracket e (held_in (drop (i + 1) day)) ≡ fold with_bracket e (held_in (drop i day))
unfolding held_in
none_there e day i d h g = sym (at_drop_more (λ (l : Day). fold with_bracket e (held_in l)) day i d h ∙ rw g refl)

pub one_there : (e : Ends) (day : Day) (i : ℕ) (d : Option Ends) {b : Ends} → i < length day → get_or day i d ≡ Some b → fold with_bracket (with_bracket e b) (held_in (drop (i + 1) day)) ≡ fold with_bracket e (held_in (drop i day))
unfolding held_in
one_there e day i d h g = sym (at_drop_more (λ (l : Day). fold with_bracket e (held_in l)) day i d h ∙ rw g refl)

pub no_place_left : (e : Ends) (day : Day) (i : ℕ) → length day ≤ i → e ≡ fold with_bracket e (held_in (drop i day))
unfolding held_in
no_place_left e day i h = sym (at_drop_all (λ (l : Day). fold with_bracket e (held_in l)) day i h)

pub one_day_more : (e : Ends) (w : Week) (i : ℕ) (d : Day) → i < length w → fold with_bracket (fold with_bracket e (held_in (get_or w i d))) (held (drop (i + 1) w)) ≡ fold with_bracket e (held (drop i w))
unfolding held flatten
one_day_more e w i d h =
    sym (at_drop_more (λ (l : Week). fold with_bracket e (held l)) w i d h ∙ fold-append with_bracket e (held_in (get_or w i d)) (held (drop (i + 1) w)))

pub no_day_left : (e : Ends) (w : Week) (i : ℕ) → length w ≤ i → e ≡ fold with_bracket e (held (drop i w))
unfolding held flatten
no_day_left e w i h = sym (at_drop_all (λ (l : Week). fold with_bracket e (held l)) w i h)

-- ---- the numbers are in the limits

greater_in : {B : ℕ} {x y : Scaled} → InRange 32 B x → InRange 32 B y → InRange 32 B (greater x y)
unfolding greater
greater_in {B} {x} {y} h k = go (at_most (value x) (value y))
  where
    go : (t : Bool) → InRange 32 B (cond t y x)
    go true = k
    go false = h

-- the brackets of rs, after k others: each addition moves an exponent by two at most
gathered :
    (x y : Scaled) (k : ℕ) (rs : List Read) →
    InRange 32 (2 ^ 27) x →
    InRange 32 (2 ^ 27 + 2 * k) y →
    k + length rs ≤ days_a_week * places_a_day →
    Every Good rs →
    fold with_bracket (record { lower = x; upper = y }) (map place_of rs) ≡ record { lower = fold greater x (map (λ b. b.lower) (map place_of rs)); upper = fold (λ x y. U (value x ⊕ value y)) y (map (λ b. b.upper) (map place_of rs)) }
unfolding place_of
gathered x y k [] h j l g = refl
gathered x y k (r ∷ rs) h j l g =
    let a = lower_end r.encounter r.order in
    let b = upper_end r.encounter r.order in
    let first : with_bracket (record { lower = x; upper = y }) (place_of r) ≡ record { lower = greater x a; upper = U (value y ⊕ value b) } =
    λ i. record { lower = greater_is (widen (lit≤ tt) h) (widen (lit≤ tt) g.0.lower_in) i; upper = sum_is true (widen (omega (arith, l)) j) (widen (lit≤ tt) g.0.upper_in) i } in
    ap (λ (e : Ends). fold with_bracket e (map place_of rs)) first ∙ gathered (greater x a) (U (value y ⊕ value b)) (k + 1) rs (greater_in h g.0.lower_in) (widen (omega arith) (sum_range true 32 (lit< tt) j (widen (omega arith) g.0.upper_in))) (omega (arith, l)) g.1

pub walk_is : {w : Week} → FromCalls w → fold with_bracket no_ends (filter_map (λ p. p) (flat_map (λ d. d) w)) ≡ week_ends w
unfolding week_ends held greatest_of added_up
walk_is {w} c =
    let o = sound c.came in
    let t = c.told in
    let many : length (flatten t) ≤ days_a_week * places_a_day = omega (arith, flat_length places_a_day t o.places, o.days) in
    rw (held_are w, o.is, week_holds t) (gathered nought nought 0 (flatten t) (nought_range 32 (2 ^ 27)) (nought_range 32 _) (omega (arith, many)) (every_flat Good t o.good))

pub held_give : {w : Week} → FromCalls w → fold with_bracket no_ends (held w) ≡ week_ends w
unfolding held
held_give {w} c = sym (ap (λ (l : List Ends). fold with_bracket no_ends l) (held_are w)) ∙ walk_is c
