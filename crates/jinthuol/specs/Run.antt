-- The listing of a script, written into a lent buffer.
use Rattle.std.specs.Prelude.{◌≡◌, true, false, List, ℕ, ◌+◌, ◌*◌, ◌≤◌, ◌<◌, ltb, length, take}
use Rattle.encounter.specs.Session.{empty}
use Rattle.exact.specs.Refusals.{refuses_8}
use Rattle.listing.specs.Line.{room}
use Rattle.listing.specs.Put.{PutLine}
use Rattle.listing.specs.Listing.{PieceOf, printed, too_long}
use Rattle.listing.specs.declared.script.Piece.{Piece}
use Rattle.jinthuol.specs.declared.Listing.{Listing}

-- The first bytes of the buffer are a piece of the listing from its start on: all of it where `ended`, and
-- otherwise as many lines as have room. `room` bytes for each byte of the script are room for all. A script that is too long is refused as the program
-- refuses it.
pub record RunOf (l before after : List ℕ) (r : Listing) : Type 0 where
  pub whole : r.ended ≡ true → take r.used after ≡ printed l
  pub full : r.ended ≡ false → length before < r.used + room
  pub enough : room * length l ≤ length before → r.ended ≡ true
  pub piece : refuses_8 l ≡ false → (p : Piece) × PieceOf l 0 empty before after p × (p.used ≡ r.used) × (p.ended ≡ r.ended)
  pub long : refuses_8 l ≡ true → PutLine before after 0 0 0 too_long r.used × (r.ended ≡ ltb 0 r.used)
