-- The records moved together, in place.
use mathlib.Core.Path.{◌≡◌, refl, sym, ap, ◌∙◌}
use mathlib.Core.Bool.{Bool, true, false, cond}
use mathlib.Core.List.{List, [], ◌∷◌, ◌++◌, flatten, append_assoc, append-nil}
use Prim.Native.Nat.{ℕ, ◌+◌, ◌-◌, ◌≤◌, ◌<◌}
use native.Mathlib.Omega.{arith}
use borrow.Author.Tests.{le-ltb, lt-ltb}
use lib.ListN.{length, take, drop, length-append, length-drop, take-append-drop, drop_of_length-le}
use lib.Seq.{paste, drop-paste, take-paste, length-paste, drop-drop, length-take-le, take_all}
use Rattle.exact.specs.Numbers.{largest_script}
use Rattle.exact.specs.Refusals.{refuses_8}
use Rattle.listing.proofs.Putting.{dropped as agree_later}
use Rattle.drop_empty_adds.specs.Dropping.{first_length, records, is_empty_add, dropped, InPlace}
use Rattle.drop_empty_adds.specs.Private.OneRecord.{KeptOrDropped}
use Rattle.drop_empty_adds.proofs.Cutting.{end, are_records, records_step, first_some}
use Rattle.drop_empty_adds.proofs.Remaining.{remaining, dropped_is, nothing_left}

-- lists that agree from index n on agree from a later one on
later : (a b : List ℕ) (n k : ℕ) → n ≤ k → drop n a ≡ drop n b → drop k a ≡ drop k b
later a b n k h e =
    let s : k ≡ n + (k - n) = omega arith in
    rw s (agree_later a b n (k - n) e)

-- ---- one record more

-- the script is read up to from, and what remains of that stands in the first bytes up to to
pub record Going (l buf : List ℕ) (from to : ℕ) : Type 0 where
  pub is : take to buf ++ flatten (remaining (records (drop from l))) ≡ flatten (remaining (records l))
  pub rest : drop to buf ≡ drop to l
  pub down : to ≤ from
  pub within : from ≤ length l
  pub same : length buf ≡ length l

module _ (l buf : List ℕ) (from to : ℕ) (g : Going l buf from to) where
  unread : drop from buf ≡ drop from l
  unread = later buf l to from g.down g.rest

  part_is : take (length buf - from) (drop from buf) ≡ drop from l
  part_is = take_all (length buf - from) (drop from buf) (omega (arith, length-drop from buf)) ∙ unread

  module _ (h : from < length buf) (n : ℕ) (found : n ≡ first_length (take (length buf - from) (drop from buf))) where
    first : n ≡ first_length (drop from l)
    first = found ∙ ap first_length part_is

    bounds : (0 < n) × (from + n ≤ length l)
    bounds =
        let b = first_some (drop from l) (omega (arith, length-drop from l, g.same)) in
        (omega (arith, first, b.0), omega (arith, first, b.1, length-drop from l, g.within))

    pub some : 0 < n
    some = bounds.0

    pub fits : from + n ≤ length buf
    fits = omega (arith, bounds.1, g.same)

    step : records (drop from l) ≡ take n (drop from l) ∷ records (drop (from + n) l)
    step =
        records_step (drop from l) (omega (arith, length-drop from l, g.same))
        ∙ rw (← first) (ap (λ (x : List ℕ). take n (drop from l) ∷ records x) (drop-drop n from l))

    -- what remains of the first record and the rest
    of_first : (t : Bool) → is_empty_add (take n (drop from l)) ≡ t
        → cond t (remaining (records (drop (from + n) l))) (take n (drop from l) ∷ remaining (records (drop (from + n) l))) ≡ remaining (records (drop from l))
    of_first t e = sym (ap remaining step ∙ rw e)

    skip : is_empty_add (take n (drop from l)) ≡ true → Going l buf (from + n) to
    skip e = record {
      is = ap (λ (bs : List (List ℕ)). take to buf ++ flatten bs) (of_first true e) ∙ g.is;
      rest = g.rest;
      down = omega (arith, g.down);
      within = bounds.1;
      same = g.same;
    }

    keep : (buf' : List ℕ) → is_empty_add (take n (drop from l)) ≡ false → buf' ≡ paste buf to (drop from buf) n → Going l buf' (from + n) (to + n)
    unfolding flatten
    keep buf' e p =
        let a : to ≤ length buf = omega (arith, g.down, fits) in
        let b : n ≤ length (drop from buf) = omega (arith, fits, length-drop from buf) in
        let left = flatten (remaining (records (drop (from + n) l))) in
        record {
          is =
              ap (λ (x : List ℕ). take (to + n) x ++ left) p
              ∙ ap (λ (x : List ℕ). x ++ left) (take-paste buf to (drop from buf) n a b)
              ∙ append_assoc (take to buf) (take n (drop from buf)) left
              ∙ ap (λ (x : List ℕ). take to buf ++ (take n x ++ left)) unread
              ∙ ap (λ (bs : List (List ℕ)). take to buf ++ flatten bs) (of_first false e)
              ∙ g.is;
          rest = ap (drop (to + n)) p ∙ drop-paste buf to (drop from buf) n a b ∙ later buf l to (to + n) (omega arith) g.rest;
          down = omega (arith, g.down);
          within = bounds.1;
          same = ap length p ∙ length-paste buf to (drop from buf) n (omega (arith, g.down, fits)) b ∙ g.same;
        }

    pub next : (buf' : List ℕ) (r : ℕ) → KeptOrDropped buf buf' from to n r → Going l buf' (from + n) r
    next buf' r k = go (is_empty_add (take n (drop from buf))) refl
      where
        same_record : is_empty_add (take n (drop from buf)) ≡ is_empty_add (take n (drop from l))
        same_record = ap (λ (x : List ℕ). is_empty_add (take n x)) unread

        go : (t : Bool) → is_empty_add (take n (drop from buf)) ≡ t → Going l buf' (from + n) r
        go true e = let (a, b) = k.dropped e in rw (a, b) (skip (sym same_record ∙ e))
        go false e = let (a, b) = k.kept e in rw b (keep buf' (sym same_record ∙ e) a)

  -- ---- the end

  pub finished : length buf ≤ from → length l ≤ largest_script → InPlace l buf to
  unfolding flatten
  finished h short =
      let z : refuses_8 l ≡ false = unfold refuses_8 in le-ltb largest_script (length l) short in
      let none : records (drop from l) ≡ [] = ap records (drop_of_length-le l {i = from} (omega (arith, g.same))) ∙ are_records end in
      let new : take to buf ≡ dropped l =
      sym (append-nil (take to buf)) ∙ ap (λ (bs : List (List ℕ)). take to buf ++ flatten (remaining bs)) (sym none) ∙ g.is ∙ sym (dropped_is l z) in
      let size : length (dropped l) ≡ to = ap length (sym new) ∙ length-take-le to buf (omega (arith, g.down, g.within, g.same)) in
      record { is = sym (take-append-drop to buf) ∙ rw (new, g.rest, size); ends = sym size }

-- of a script that is too long nothing is left
pub too_long_left : (l : List ℕ) → largest_script < length l → dropped l ≡ []
too_long_left l h = nothing_left l (unfold refuses_8 in lt-ltb largest_script (length l) h)

-- so what follows it is not looked at
pub no_further : (l rest : List ℕ) → largest_script < length l → dropped (l ++ rest) ≡ dropped l
no_further l rest h = too_long_left (l ++ rest) (omega (arith, h, length-append l rest)) ∙ sym (too_long_left l h)

-- the new script lies within what was lent
pub new_within : (l buf : List ℕ) (r : ℕ) → InPlace l buf r → r ≤ length buf
new_within l buf r p = omega (arith, p.ends, ap length p.is, length-append (dropped l) (drop (length (dropped l)) l))
