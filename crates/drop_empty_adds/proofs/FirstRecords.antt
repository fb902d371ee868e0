-- The first record of a list of bytes: where the script ends with it, and where it is whole.
use mathlib.Core.Path.{◌≡◌, refl, sym, subst, ap, ◌∙◌}
use mathlib.Core.Bool.{Bool, true, false, cond, not, ◌||◌}
use mathlib.Core.List.{List, ◌++◌}
use Prim.Native.Nat.{ℕ, ◌+◌, ◌-◌, ◌≤◌, ◌<◌}
use native.Mathlib.Omega.{arith}
use native.Mathlib.Nat.{add-zero}
use borrow.Author.Tests.{le-ltb, lt-leb, ltb-false, not-false}
use lib.Dec.{leb, T}
use lib.ListN.{length, take, drop, get_or, length-append, length-drop, get_or-append}
use lib.Seq.{get_or-drop, get_or-take, length-take-le}
use Rattle.exact.specs.Records.{is_kind, body_length, bad, request_of}
use Rattle.exact.specs.Refusals.{refuses_1, refuses_2, request_at}
use Rattle.exact.proofs.Accepted.{neither}
use Rattle.records.specs.RecordCall.{next_at}
use Rattle.drop_empty_adds.specs.Dropping.{first_length, adds_nothing, is_empty_add}
use Rattle.drop_empty_adds.proofs.SameBytes.{same_request}
use Rattle.drop_empty_adds.proofs.Tests.{same_ltb, same_leb}

-- refused as 1 or 2
abbrev pub stops : List ℕ → Bool
stops l = refuses_1 l 0 || refuses_2 l 0

-- a record and no more: a known kind, and its whole body
pub record Whole (b : List ℕ) : Type 0 where
  pub known : is_kind (get_or b 0 0) ≡ true
  pub size : length b ≡ 1 + body_length (get_or b 0 0)

pub whole_some : (b : List ℕ) → Whole b → 0 < length b
whole_some b w = omega (arith, w.size)

-- ---- a record that ends the script

pub stops_length : (l : List ℕ) → stops l ≡ true → first_length l ≡ length l
unfolding first_length
stops_length l z = rw z

-- it is not dropped
pub stops_kept : (l : List ℕ) → stops l ≡ true → is_empty_add l ≡ false
unfolding is_empty_add request_at
stops_kept l z = go (refuses_1 l 0) (refuses_2 l 0) z
  where
    go : (a b : Bool) → a || b ≡ true → adds_nothing (cond a (bad 1) (cond b (bad 2) (request_of (get_or l 0 0) l (0 + 1)))) ≡ false
    go true b z = refl
    go false true z = refl
    go false false z = absurd (subst T (sym z) tt)

-- ---- a whole record

-- a list that does not stop starts with one
pub goes : (l : List ℕ) → stops l ≡ false → (is_kind (get_or l 0 0) ≡ true) × (1 + body_length (get_or l 0 0) ≤ length l)
unfolding refuses_1 refuses_2
goes l z =
    let (a, b) = neither (refuses_1 l 0) (refuses_2 l 0) z in
    let (c, d) = neither (leb (length l) 0) (not (is_kind (get_or l 0 0))) a in
    (not-false _ d, omega (arith, ltb-false (length l) (0 + 1 + body_length (get_or l 0 0)) b))

pub asks : (l : List ℕ) → stops l ≡ false → request_at l 0 ≡ request_of (get_or l 0 0) l 1
unfolding request_at
asks l z = let (a, b) = neither (refuses_1 l 0) (refuses_2 l 0) z in rw (a, b)

-- the first record of such a list is whole
pub parts : (l : List ℕ) → stops l ≡ false → Whole (take (first_length l) l)
unfolding first_length
parts l z =
    let (k, h) = goes l z in
    let n = 1 + body_length (get_or l 0 0) in
    let e : get_or (take n l) 0 0 ≡ get_or l 0 0 = get_or-take n l 0 0 (omega arith) in
    rw z (record { known = rw e k; size = length-take-le n l h ∙ ap (λ (kind : ℕ). 1 + body_length kind) (sym e) })

module _ (b : List ℕ) (w : Whole b) where
  -- a list that starts with it does not stop
  on : (l : List ℕ) → get_or l 0 0 ≡ get_or b 0 0 → length b ≤ length l → stops l ≡ false
  unfolding refuses_1 refuses_2
  on l e h =
      rw (lt-leb (length l) 0 (omega (arith, whole_some b w)), e, w.known, le-ltb (length l) (0 + 1 + body_length (get_or b 0 0)) (omega (arith, w.size))) refl

  pub goes_alone : stops b ≡ false
  goes_alone = on b refl (omega arith)

  module _ (r : List ℕ) where
    same_kind : get_or (b ++ r) 0 0 ≡ get_or b 0 0
    same_kind = get_or-append b r 0 0 (whole_some b w)

    longer : length b ≤ length (b ++ r)
    longer = omega (arith, length-append b r)

    pub goes_on : stops (b ++ r) ≡ false
    goes_on = on (b ++ r) same_kind longer

    pub starts_with : first_length (b ++ r) ≡ length b
    unfolding first_length
    starts_with = rw (goes_on, same_kind) (sym w.size)

    -- what it asks for, whatever follows
    pub asks_the_same : request_at (b ++ r) 0 ≡ request_at b 0
    unfolding request_at
    asks_the_same =
        asks (b ++ r) goes_on
        ∙ ap (λ (kind : ℕ). request_of kind (b ++ r) 1) same_kind
        ∙ same_request (b ++ r) b 1 1 (get_or b 0 0) w.known (λ k h. get_or-append b r 0 (1 + k) (omega (arith, w.size)))
        ∙ sym (asks b goes_alone)

-- ---- a record further on

module _ (l : List ℕ) (i : ℕ) where
  byte_at : (k : ℕ) → get_or l (i + k) 0 ≡ get_or (drop i l) k 0
  byte_at k = sym (get_or-drop i l k 0)

  pub kind_at : get_or l i 0 ≡ get_or (drop i l) 0 0
  kind_at = ap (λ (n : ℕ). get_or l n 0) (sym (add-zero i)) ∙ byte_at 0

  test_1 : refuses_1 l i ≡ refuses_1 (drop i l) 0
  unfolding refuses_1
  test_1 =
      rw (kind_at, length-drop i l)
      (ap (λ (t : Bool). t || not (is_kind (get_or (drop i l) 0 0))) (same_leb (length l) i (length l - i) 0 (λ h. omega arith) (λ h. omega arith)))

  test_2 : refuses_2 l i ≡ refuses_2 (drop i l) 0
  unfolding refuses_2
  test_2 =
      rw (kind_at, length-drop i l)
      (let n = body_length (get_or (drop i l) 0 0) in same_ltb (length l) (i + 1 + n) (length l - i) (0 + 1 + n) (λ h. omega arith) (λ h. omega arith))

  -- what it asks for is told by the bytes from it on
  pub asks_there : request_at l i ≡ request_at (drop i l) 0
  unfolding request_at
  asks_there = rw (test_1, test_2, kind_at) (go (refuses_1 (drop i l) 0) refl (refuses_2 (drop i l) 0) refl)
    where
      kind : ℕ
      kind = get_or (drop i l) 0 0

      go :
          (a : Bool) → refuses_1 (drop i l) 0 ≡ a →
          (b : Bool) → refuses_2 (drop i l) 0 ≡ b →
          cond a (bad 1) (cond b (bad 2) (request_of kind l (i + 1))) ≡ cond a (bad 1) (cond b (bad 2) (request_of kind (drop i l) 1))
      go true e b f = refl
      go false e true f = refl
      go false e false f =
          same_request l (drop i l) (i + 1) 1 kind (goes (drop i l) (rw (e, f))).0
          (λ k h. let same : i + 1 + k ≡ i + (1 + k) = omega arith in ap (λ (n : ℕ). get_or l n 0) same ∙ byte_at (1 + k))

  -- and so is where the next one lies
  pub next_there : stops (drop i l) ≡ false → next_at l i ≡ i + first_length (drop i l)
  unfolding next_at first_length
  next_there z = rw (test_1, test_2, z, kind_at) (omega arith)
