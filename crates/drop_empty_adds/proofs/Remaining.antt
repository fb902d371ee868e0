-- The records that remain, and the script that they make.
use mathlib.Core.Path.{◌≡◌, refl, ap, ◌∙◌}
use mathlib.Core.Bool.{Bool, true, false, cond}
use mathlib.Core.List.{List, [], ◌∷◌, ◌++◌, flatten, append-nil}
use Prim.Native.Nat.{ℕ, ◌≤◌}
use native.Mathlib.Omega.{arith}
use borrow.Author.Tests.{le-ltb, ltb-false}
use lib.ListN.{length, length-append}
use Rattle.exact.specs.Numbers.{largest_script}
use Rattle.exact.specs.Refusals.{refuses_8}
use Rattle.encounter.specs.Enclosure.{Every}
use Rattle.drop_empty_adds.specs.Dropping.{records, is_empty_add, without, dropped}
use Rattle.drop_empty_adds.specs.Claims.{NoEmptyAdds}
use Rattle.drop_empty_adds.proofs.FirstRecords.{stops_kept}
use Rattle.drop_empty_adds.proofs.Cutting.{Cuts, end, last, more, cuts, are_records, all_bytes}

abbrev pub remaining : List (List ℕ) → List (List ℕ)
remaining = without is_empty_add

-- one record more, by whether it is dropped
module _ (b : List ℕ) (bs : List (List ℕ)) where
  pub by_first : (P : List (List ℕ) → Type 0) → (is_empty_add b ≡ true → P (remaining bs)) → (is_empty_add b ≡ false → P (b ∷ remaining bs)) → P (remaining (b ∷ bs))
  by_first P drop keep = go (is_empty_add b) refl
    where
      go : (t : Bool) → is_empty_add b ≡ t → P (cond t (remaining bs) (b ∷ remaining bs))
      go true e = drop e
      go false e = keep e

-- they are the records of the script that they make
pub remain : {l : List ℕ} {bs : List (List ℕ)} → Cuts l bs → Cuts (flatten (remaining bs)) (remaining bs)
unfolding flatten
remain end = end
remain (last {l} some e) = rw (stops_kept l e, append-nil l) (last some e)
remain (more {b} {bs = bs} w c) = by_first b bs (λ r. Cuts (flatten r) r) (λ _. remain c) (λ _. more w (remain c))

-- no more bytes than all have
fewer : (bs : List (List ℕ)) → length (flatten (remaining bs)) ≤ length (flatten bs)
unfolding flatten
fewer [] = omega arith
fewer (b ∷ bs) =
    by_first b bs (λ r. length (flatten r) ≤ length (b ++ flatten bs))
    (λ _. omega (arith, length-append b (flatten bs), fewer bs))
    (λ _. omega (arith, length-append b (flatten bs), length-append b (flatten (remaining bs)), fewer bs))

none : (bs : List (List ℕ)) → Every (λ b. is_empty_add b ≡ false) (remaining bs)
none [] = tt
none (b ∷ bs) = by_first b bs (Every (λ b. is_empty_add b ≡ false)) (λ _. none bs) (λ e. (e, none bs))

all : (bs : List (List ℕ)) → Every (λ b. is_empty_add b ≡ false) bs → remaining bs ≡ bs
all [] h = refl
all (b ∷ bs) (e, h) = rw (e, all bs h)

-- ---- the new script

module _ (l : List ℕ) (z : refuses_8 l ≡ false) where
  pub dropped_is : dropped l ≡ flatten (remaining (records l))
  unfolding dropped
  dropped_is = rw z

  pub new_records : records (dropped l) ≡ remaining (records l)
  new_records = ap records dropped_is ∙ are_records (remain (cuts l))

  pub still_short : refuses_8 (dropped l) ≡ false
  unfolding refuses_8
  still_short =
      let h = ltb-false largest_script (length l) z in
      le-ltb largest_script (length (dropped l)) (omega (arith, ap length dropped_is, fewer (records l), ap length (all_bytes (cuts l))))

  none_in : NoEmptyAdds (dropped l)
  none_in = rw new_records (none (records l))

  pub unchanged : NoEmptyAdds l → dropped l ≡ l
  unchanged h = dropped_is ∙ rw (all (records l) h) (all_bytes (cuts l))

pub nothing_left : (l : List ℕ) → refuses_8 l ≡ true → dropped l ≡ []
unfolding dropped
nothing_left l z = rw z

by_8 : (P : List ℕ → Type 0) (l : List ℕ) → (refuses_8 l ≡ false → P (dropped l)) → P [] → P (dropped l)
by_8 P l f p = go (refuses_8 l) refl
  where
    go : (t : Bool) → refuses_8 l ≡ t → P (dropped l)
    go true e = rw (nothing_left l e) p
    go false e = f e

none_of_nothing : NoEmptyAdds []
none_of_nothing = rw (are_records end) tt

pub none_left : (l : List ℕ) → NoEmptyAdds (dropped l)
none_left l = by_8 NoEmptyAdds l (none_in l) none_of_nothing

pub once : (l : List ℕ) → dropped (dropped l) ≡ dropped l
once l = by_8 (λ r. dropped r ≡ r) l (λ z. unchanged (dropped l) (still_short l z) (none_in l z)) (unchanged [] (unfold refuses_8 in refl) none_of_nothing)
