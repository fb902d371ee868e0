-- The length of a first record, as code finds it.
use mathlib.Core.Path.{◌≡◌, refl, sym, ◌∙◌}
use mathlib.Core.Bool.{Bool, true, false, ◌||◌}
use mathlib.Core.List.{List}
use Prim.Native.Nat.{ℕ, ◌+◌, ◌<◌}
use native.Mathlib.Omega.{arith}
use borrow.Author.Tests.{le-leb, lt-leb, ltb-true, ltb-false}
use lib.Dec.{leb, ltb}
use lib.ListN.{length, get_or}
use Rattle.std.specs.Prelude.{Some, None, min}
use Rattle.std.proofs.lemmas.Option.{none-some}
use Rattle.exact.specs.Records.{is_kind, body_length}
use Rattle.exact.specs.Refusals.{refuses_1, refuses_2}
use Rattle.drop_empty_adds.specs.Dropping.{first_length}
use Rattle.drop_empty_adds.specs.Private.OneRecord.{whole_length}
use Rattle.drop_empty_adds.proofs.Tests.{or_true}
use Rattle.drop_empty_adds.proofs.FirstRecords.{stops_length}

module _ (l : List ℕ) where
  pub of_none : length l ≡ 0 → 0 ≡ first_length l
  unfolding refuses_1
  of_none z = sym z ∙ sym (stops_length l (rw (le-leb (length l) 0 (omega arith))))

  pub of_no_kind : whole_length (get_or l 0 0) ≡ None → length l ≡ first_length l
  unfolding whole_length refuses_1
  of_no_kind e = go (is_kind (get_or l 0 0)) refl
    where
      both : (t : Bool) → t || true || refuses_2 l 0 ≡ true
      both true = refl
      both false = refl

      go : (t : Bool) → is_kind (get_or l 0 0) ≡ t → length l ≡ first_length l
      go true k = absurd (none-some _ (sym (rw k at e)))
      go false k = sym (stops_length l (rw k (both (leb (length l) 0))))

  pub of_whole : (n : ℕ) → 0 < length l → whole_length (get_or l 0 0) ≡ Some n → min n (length l) ≡ first_length l
  unfolding whole_length first_length refuses_1 refuses_2
  of_whole n some e = go (is_kind (get_or l 0 0)) refl (ltb (length l) (0 + 1 + body_length (get_or l 0 0))) refl
    where
      size : is_kind (get_or l 0 0) ≡ true → n ≡ 1 + body_length (get_or l 0 0)
      size k = grind (arith, rw k at e)

      go : (t : Bool) → is_kind (get_or l 0 0) ≡ t → (short : Bool) → ltb (length l) (0 + 1 + body_length (get_or l 0 0)) ≡ short → min n (length l) ≡ first_length l
      go false k _ _ = absurd (none-some n (rw k at e))
      go true k true h =
          let z : min n (length l) ≡ length l = omega (arith, size k, ltb-true (length l) (0 + 1 + body_length (get_or l 0 0)) h) in
          z ∙ sym (stops_length l (rw h (or_true (refuses_1 l 0))))
      go true k false h =
          let z : min n (length l) ≡ 1 + body_length (get_or l 0 0) = omega (arith, size k, ltb-false (length l) (0 + 1 + body_length (get_or l 0 0)) h) in
          rw (k, lt-leb (length l) 0 (omega arith), h) z
