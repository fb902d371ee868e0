-- Text put into a buffer.
use Rattle.std.specs.Prelude.{ℕ, ◌+◌, ◌≤◌, ◌<◌, ◌≡◌, List, ◌++◌, length, take, drop}
use Rattle.encounter.specs.declared.state.Answer.{Answer}
use Rattle.listing.specs.Line.{line, room}

-- a line of these bytes has room for the text
pub record RoomFor (before text : List ℕ) : Type 0 where
  pub enough : length before + length text ≤ room

-- after holds the first at bytes of before, then the text, which ends at index end, and then the bytes of before from there on
pub record Put (before after : List ℕ) (at : ℕ) (text : List ℕ) (end : ℕ) : Type 0 where
  pub is : take end after ≡ take at before ++ text
  pub ends : end ≡ at + length text
  pub rest : drop end after ≡ drop end before
  pub same : length after ≡ length before

-- where before has less than room bytes from index at on, end is at and nothing changes; otherwise the line is put, of room bytes at most
pub record PutLine (before after : List ℕ) (at offset kind : ℕ) (a : Answer) (end : ℕ) : Type 0 where
  pub full : length before < at + room → (end ≡ at) × (after ≡ before)
  pub written : at + room ≤ length before → Put before after at (line offset kind a) end
  pub short : end ≤ at + room
