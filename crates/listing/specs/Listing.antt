-- Document 01, 'What the program prints': the listing of a script.
use Rattle.std.specs.Prelude.{◌≡◌, Bool, false, cond, ◌||◌, List, [], ◌++◌, ℕ, zero, suc, ◌+◌, ◌-◌, ◌*◌, ◌≤◌, ◌<◌, ltb, eqb, length, take, drop, get_or}
use Rattle.exact.specs.Refusals.{refuses_8}
use Rattle.encounter.specs.declared.state.Session.{Session}
use Rattle.encounter.specs.declared.state.Answer.{Answer}
use Rattle.encounter.specs.Session.{empty, refused}
use Rattle.encounter.specs.Calls.{Reached}
use Rattle.records.specs.RecordCall.{record_call}
use Rattle.listing.specs.Line.{line, room}
use Rattle.listing.specs.declared.script.Piece.{Piece}

-- "It ends [..] after refusal 1 or 2; after the others it goes on."
unfoldable pub is_final : Answer → Bool
is_final a = eqb a.refusal 1 || eqb a.refusal 2

-- the lines of at most k records, from position i of the script on; "It ends where no byte is left"
unfoldable pub lines : ℕ → List ℕ → ℕ → Session → List ℕ
lines zero l i s = []
lines (suc k) l i s =
    cond (ltb i (length l))
    (line i (get_or l i 0) (record_call l i s).answer ++
    cond (is_final (record_call l i s).answer) [] (lines k l (record_call l i s).next (record_call l i s).session))
    []

-- every record has its kind byte, so there are no more records than bytes
unfoldable pub listing : List ℕ → ℕ → Session → List ℕ
listing l i s = lines (length l - i) l i s

-- "Refusal 8 prints `0 refused 8` only."
abbrev pub too_long : Answer
too_long = refused 8

-- what the program prints
unfoldable pub printed : List ℕ → List ℕ
printed l = cond (refuses_8 l) (line 0 0 too_long) (listing l 0 empty)

-- ---- The listing is written in pieces. A reader of what is printed can stop above.

-- text is that of some records from position i on, in order, each of whose lines had room among n bytes; then comes position j, with session t. (That none follows
-- refusal 1 or 2 is said by `is` below.)
pub data Written (l : List ℕ) (n i : ℕ) (s : Session) : List ℕ → ℕ → Session → Type 0 where
  nothing : Written l n i s [] i s
  more :
      {text : List ℕ} {j : ℕ} {t : Session} →
      Written l n i s text j t →
      j < length l →
      length text + room ≤ n →
      Written l n i s (text ++ line j (get_or l j 0) (record_call l j t).answer) (record_call l j t).next (record_call l j t).session

-- A piece of the listing from position i on: the first bytes of the buffer are the text of its records, and these bytes with the listing from the next
-- position on are the listing. Each line had `room` bytes, and the piece ends before the listing does only where fewer are left; then it has used at most
-- `room` bytes for each byte of the script from i to the next position, so that `room` bytes for each byte of a script are enough for its listing.
pub record PieceOf (l : List ℕ) (i : ℕ) (s : Session) (before after : List ℕ) (p : Piece) : Type 0 where
  pub written : Written l (length before) i s (take p.used after) p.next p.session
  pub is : take p.used after ++ cond p.ended [] (listing l p.next p.session) ≡ listing l i s
  pub full : p.ended ≡ false → length before < p.used + room
  pub few : p.ended ≡ false → p.used + room * i ≤ room * p.next
  pub left : p.ended ≡ false → p.next < length l
  pub reached : Reached p.session
  pub within : p.used ≤ length after
  pub rest : drop p.used after ≡ drop p.used before
  pub same : length after ≡ length before
