-- What the program prints, in pieces: `printed` of crate listing, refusal 8 included.
use Rattle.std.specs.Prelude.{◌≡◌, false, cond, List, [], ◌++◌, ℕ, ◌+◌, ◌*◌, ◌≤◌, ◌<◌, length, take}
use Rattle.encounter.specs.declared.state.Session.{Session}
use Rattle.encounter.specs.Calls.{Reached}
use Rattle.listing.specs.Line.{line, room}
use Rattle.listing.specs.Listing.{listing, too_long}
use Rattle.listing.specs.declared.script.Piece.{Piece}
use Rattle.exact.specs.Numbers.{largest_script}
use Rattle.exact.specs.Refusals.{refuses_8}

-- the bytes of the buffer that a piece is put into; any number from `room` on would do
abbrev pub piece_size : ℕ
piece_size = 65536

-- what is left to print of script l from position i on, with session s there: at 0 with the empty session it is `printed l`
unfoldable pub printed_from : List ℕ → ℕ → Session → List ℕ
printed_from l i s = cond (refuses_8 l) (line 0 0 too_long) (listing l i s)

-- A piece: the first bytes of the buffer, with what is left to print after them, are what was left to print. A piece that is not the last one has some
-- bytes, and at most `room` for each byte of the script from i to the next position.
pub record NextOf (l : List ℕ) (i : ℕ) (s : Session) (buffer : List ℕ) (p : Piece) : Type 0 where
  pub is : take p.used buffer ++ cond p.ended [] (printed_from l p.next p.session) ≡ printed_from l i s
  pub within : p.used ≤ length buffer
  pub size : length buffer ≡ piece_size
  pub more : p.ended ≡ false → 0 < p.used
  pub few : p.ended ≡ false → p.used + room * i ≤ room * p.next
  pub left : p.ended ≡ false → p.next < largest_script
  pub reached : Reached p.session
