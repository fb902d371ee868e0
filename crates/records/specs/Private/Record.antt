-- What the bytes at a position of a script are, as private functions read them.
use Rattle.std.specs.Prelude.{◌≡◌, List, ℕ, ◌+◌, ◌≤◌, ◌<◌, length}
use Rattle.exact.specs.declared.kinds.Kind.{Kind}
use Rattle.exact.specs.declared.refusals.Refusal.{Refusal}
use Rattle.exact.specs.Kinds.{kind_byte, number_of}
use Rattle.exact.specs.Records.{body_length, bad, request_of}
use Rattle.exact.specs.Refusals.{request_at}
use Rattle.records.specs.RecordCall.{next_at}

-- a record of this kind, with this body
pub record RecordAt (l : List ℕ) (i : ℕ) (kind : Kind) (body : List ℕ) : Type 0 where
  pub asks : request_at l i ≡ request_of (kind_byte kind) body 0
  pub next : next_at l i ≡ i + 1 + length body
  pub whole : length body ≡ body_length (kind_byte kind)
  pub within : i + 1 + length body ≤ length l

-- no record, which is refused as 1 or 2
pub record NoRecordAt (l : List ℕ) (i : ℕ) (e : Refusal) : Type 0 where
  pub some : 0 < number_of e
  pub asks : request_at l i ≡ bad (number_of e)
  pub next : next_at l i ≡ i
