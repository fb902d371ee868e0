-- Request #110: what the records of a script are answered, and the listing in which the program `screen` prints it.
use Rattle.std.specs.Prelude.{List, [], ◌∷◌, ◌++◌, ℕ, ◌+◌, length, get_or}
use Rattle.encounter.specs.declared.state.Session.{Session}
use Rattle.encounter.specs.declared.state.Answer.{Answer}
use Rattle.encounter.specs.Session.{empty}
use Rattle.encounter.specs.Calls.{takes, call}
use Rattle.listing.specs.Line.{line}
use Rattle.drop_empty_adds.specs.Dropping.{records}

-- a record's bytes, what it is answered, and the session after it. Its offset is left out: "offsets aside"
pub record Answered : Type 0 where
  pub bytes : List ℕ
  pub answer : Answer
  pub session : Session

-- records one after the other, the first on the session s, each other one on the session that the one before it left
abbrev pub answered : Session → List (List ℕ) → List Answered
answered s [] = []
answered s (b ∷ l) = record { bytes = b; answer = (call (takes b 0) s).answer; session = (call (takes b 0) s).session } ∷ answered (call (takes b 0) s).session l

-- the answers of a script
abbrev pub answers : List ℕ → List Answered
answers l = answered empty (records l)

-- their lines, where the first record's offset is i
abbrev pub lines_from : ℕ → List Answered → List ℕ
lines_from i [] = []
lines_from i (a ∷ l) = line i (get_or a.bytes 0 0) a.answer ++ lines_from (i + length a.bytes) l
