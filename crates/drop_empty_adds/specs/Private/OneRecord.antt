-- The length of a record by its kind, and what becomes of one record. Private functions promise it.
use Rattle.std.specs.Prelude.{◌≡◌, true, false, cond, List, ℕ, Some, None, ◌+◌, take, drop}
use Rattle.std.specs.declared.option.Option.{Option}
use Rattle.std.proofs.Math.Seq.{paste}
use Rattle.exact.specs.Records.{is_kind, body_length}
use Rattle.drop_empty_adds.specs.Dropping.{is_empty_add}

-- the bytes of a whole record of this kind, or none where there is no such kind
unfoldable pub whole_length : ℕ → Option ℕ
whole_length kind = cond (is_kind kind) (Some (1 + body_length kind)) None

-- the record of n bytes at from: dropped, or moved down to index to; r is the index past what is kept
pub record KeptOrDropped (before after : List ℕ) (from to n r : ℕ) : Type 0 where
  pub dropped : is_empty_add (take n (drop from before)) ≡ true → (after ≡ before) × (r ≡ to)
  pub kept : is_empty_add (take n (drop from before)) ≡ false → (after ≡ paste before to (drop from before) n) × (r ≡ to + n)
