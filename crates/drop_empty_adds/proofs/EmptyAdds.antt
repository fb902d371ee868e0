-- Whether a first record is an add of count 0, as code finds it.
use mathlib.Core.Path.{◌≡◌, refl, sym, ◌∙◌}
use mathlib.Core.Bool.{Bool, true, false}
use mathlib.Core.List.{List}
use Prim.Native.Nat.{ℕ, ◌≤◌, ◌<◌}
use native.Mathlib.Omega.{arith}
use borrow.Author.Tests.{eq-eqb, ne_eqb, eqb-true, eqb-false, lt-ltb, le-ltb, lt-leb}
use lib.Dec.{eqb}
use lib.ListN.{length, get_or}
use Rattle.exact.specs.Records.{is_kind, body_length, begin_at, u16_at, conjunction_at, Request, begin, begin_conjunction, read, bad, request_of}
use Rattle.exact.specs.Refusals.{refuses_1, refuses_2, refuses_12, request_at}
use Rattle.listing.proofs.Lengths.{either}
use Rattle.drop_empty_adds.specs.Dropping.{adds_nothing, is_empty_add}
use Rattle.drop_empty_adds.proofs.Tests.{or_true}
use Rattle.drop_empty_adds.proofs.FirstRecords.{stops, stops_kept}

module _ (l : List ℕ) where
  abbrev Kept : Request → Type 0
  Kept q = false ≡ adds_nothing q

  pub of_other_kind : (get_or l 0 0 ≡ 2 → ⊥) → false ≡ is_empty_add l
  unfolding is_empty_add request_at request_of
  of_other_kind h =
      rw (ne_eqb (get_or l 0 0) 2 h)
      (either Kept (refuses_1 l 0) {x = bad 1} refl
      (either Kept (refuses_2 l 0) {x = bad 2} refl
      (either Kept (eqb (get_or l 0 0) 1) {x = begin (begin_at l 1)} refl
      (either Kept (eqb (get_or l 0 0) 3) {x = read} {y = begin_conjunction (conjunction_at l 1)} refl refl))))

  pub of_few : length l < 3 → false ≡ is_empty_add l
  unfolding refuses_2 body_length
  of_few h = go (eqb (get_or l 0 0) 2) refl
    where
      short : get_or l 0 0 ≡ 2 → stops l ≡ true
      short e = rw (e, lt-ltb (length l) 3 h) (or_true (refuses_1 l 0))

      go : (t : Bool) → eqb (get_or l 0 0) 2 ≡ t → false ≡ is_empty_add l
      go true e = sym (stops_kept l (short (eqb-true (get_or l 0 0) 2 e)))
      go false e = of_other_kind (eqb-false (get_or l 0 0) 2 e)

  module _ (h : 3 ≤ length l) (e : get_or l 0 0 ≡ 2) where
    -- an add asks for its count
    count : is_empty_add l ≡ eqb (u16_at l 1) 0
    unfolding is_empty_add request_at request_of refuses_1 refuses_2 refuses_12 is_kind body_length
    count = rw (lt-leb (length l) 0 (omega arith), e, le-ltb (length l) 3 h)

    pub of_low_byte : (get_or l 1 0 ≡ 0 → ⊥) → false ≡ is_empty_add l
    of_low_byte some = sym (count ∙ ne_eqb (u16_at l 1) 0 (λ z. some (omega arith)))

    pub of_high_byte : (get_or l 2 0 ≡ 0 → ⊥) → false ≡ is_empty_add l
    of_high_byte some = sym (count ∙ ne_eqb (u16_at l 1) 0 (λ z. some (omega arith)))

    pub of_no_count : get_or l 1 0 ≡ 0 → get_or l 2 0 ≡ 0 → true ≡ is_empty_add l
    of_no_count low high = sym (count ∙ eq-eqb (u16_at l 1) 0 (omega arith))
