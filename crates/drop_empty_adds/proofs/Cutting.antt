-- A script cut into its records, by cases: no bytes, a record that ends it, or a whole record and a rest that is cut.
use mathlib.Core.Path.{◌≡◌, refl, subst, ap, ◌∙◌}
use mathlib.Core.Bool.{Bool, true, false}
use mathlib.Core.List.{List, [], ◌∷◌, ◌++◌, flatten, append-nil}
use Prim.Native.Nat.{ℕ, zero, suc, pred, ◌≤◌, ◌<◌}
use native.Mathlib.Omega.{arith}
use lib.ListN.{length, take, drop, length-append, length-drop, take-append-drop}
use lib.Seq.{take-length, drop-length, take-append_seam, drop-append_seam}
use Rattle.drop_empty_adds.specs.Dropping.{first_length, cut, records}
use Rattle.drop_empty_adds.proofs.FirstRecords.{stops, Whole, whole_some, stops_length, goes, parts, starts_with}

pub data Cuts : List ℕ → List (List ℕ) → Type 0 where
  end : Cuts [] []
  last : {l : List ℕ} → 0 < length l → stops l ≡ true → Cuts l (l ∷ [])
  more : {b r : List ℕ} {bs : List (List ℕ)} → Whole b → Cuts r bs → Cuts (b ++ r) (b ∷ bs)

-- ---- the computed cut

nil : (k : ℕ) → cut k [] ≡ []
unfolding cut
nil zero = refl
nil (suc k) = refl

step : (k : ℕ) (l : List ℕ) → 0 < length l → cut (suc k) l ≡ take (first_length l) l ∷ cut k (drop (first_length l) l)
unfolding cut
step k [] h = absurd (omega arith)
step k (kind ∷ l) h = refl

-- a record has at least one byte, and no more than there are
pub first_some : (l : List ℕ) → 0 < length l → (0 < first_length l) × (first_length l ≤ length l)
first_some l h = go (stops l) refl
  where
    go : (t : Bool) → stops l ≡ t → (0 < first_length l) × (first_length l ≤ length l)
    go true e = rw (stops_length l e) (h, omega arith)
    go false e = let (k, m) = goes l e in unfold first_length in rw e (omega arith, m)

last_cut : (k : ℕ) (l : List ℕ) → 0 < length l → stops l ≡ true → cut (suc k) l ≡ l ∷ []
last_cut k l h e = step k l h ∙ rw (stops_length l e, take-length l, drop-length l, nil k)

more_cut : (k : ℕ) (b r : List ℕ) → Whole b → cut (suc k) (b ++ r) ≡ b ∷ cut k r
more_cut k b r w =
    step k (b ++ r) (omega (arith, length-append b r, whole_some b w)) ∙ rw (starts_with b w r, take-append_seam b r, drop-append_seam b r)

-- with as many records as there are bytes the cut is whole
cuts_to : (k : ℕ) (l : List ℕ) → length l ≤ k → Cuts l (cut k l)
cuts_to zero [] h = unfold cut in end
cuts_to zero (kind ∷ l) h = absurd (omega arith)
cuts_to (suc k) [] h = unfold cut in end
cuts_to (suc k) (kind ∷ l) h = go (λ r. cuts_to k r) (stops (kind ∷ l)) refl
  where
    go : ((r : List ℕ) → length r ≤ k → Cuts r (cut k r)) → (t : Bool) → stops (kind ∷ l) ≡ t → Cuts (kind ∷ l) (cut (suc k) (kind ∷ l))
    go again true e = rw (last_cut k (kind ∷ l) (omega arith) e) (last {l = kind ∷ l} (omega arith) e)
    go again false e =
        let n = first_length (kind ∷ l) in
        let rest = drop n (kind ∷ l) in
        let some = first_some (kind ∷ l) (omega arith) in
        let c : Cuts rest (cut k rest) = again rest (omega (arith, length-drop n (kind ∷ l))) in
        rw (step k (kind ∷ l) (omega arith))
        (subst (λ (w : List ℕ). Cuts w (take n (kind ∷ l) ∷ cut k rest)) (take-append-drop n (kind ∷ l)) (more (parts (kind ∷ l) e) c))

-- and there is no other
is_cut : {l : List ℕ} {bs : List (List ℕ)} → Cuts l bs → (k : ℕ) → length l ≤ k → cut k l ≡ bs
is_cut end k h = nil k
is_cut (last some e) zero h = absurd (omega arith)
is_cut (last {l} some e) (suc k) h = last_cut k l some e
is_cut (more {b} {r} w c) zero h = absurd (omega (arith, length-append b r, whole_some b w))
is_cut (more {b} {r} w c) (suc k) h =
    more_cut k b r w ∙ ap (λ (l : List (List ℕ)). b ∷ l) (is_cut c k (omega (arith, length-append b r, whole_some b w)))

-- ---- the records of a script

pub cuts : (l : List ℕ) → Cuts l (records l)
unfolding records
cuts l = cuts_to (length l) l (omega arith)

pub are_records : {l : List ℕ} {bs : List (List ℕ)} → Cuts l bs → records l ≡ bs
unfolding records
are_records {l} c = is_cut c (length l) (omega arith)

-- the first record, and those of the rest
pub records_step : (l : List ℕ) → 0 < length l → records l ≡ take (first_length l) l ∷ records (drop (first_length l) l)
unfolding records
records_step l h =
    let n = first_length l in
    let (some, _) = first_some l h in
    let e : length l ≡ suc (pred (length l)) = omega arith in
    ap (λ (k : ℕ). cut k l) e
    ∙ step (pred (length l)) l h
    ∙ ap (λ (bs : List (List ℕ)). take n l ∷ bs) (is_cut (cuts (drop n l)) (pred (length l)) (omega (arith, length-drop n l)))

pub all_bytes : {l : List ℕ} {bs : List (List ℕ)} → Cuts l bs → flatten bs ≡ l
unfolding flatten
all_bytes end = refl
all_bytes (last {l} some e) = append-nil l
all_bytes (more {b} w c) = ap (λ (l : List ℕ). b ++ l) (all_bytes c)
