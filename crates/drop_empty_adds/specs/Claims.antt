-- Request #110: what holds of the new script, for every script.
use Rattle.std.specs.Prelude.{◌≡◌, true, false, ℕ, eqb, take, drop}
use mathlib.Core.List.{List, flatten}
use Rattle.exact.specs.Refusals.{refuses_8}
use Rattle.encounter.specs.declared.state.Session.{Session}
use Rattle.encounter.specs.Calls.{refusing, takes, call}
use Rattle.encounter.specs.Enclosure.{Every}
use Rattle.listing.specs.Listing.{printed}
use Rattle.drop_empty_adds.specs.Dropping.{first_length, records, is_empty_add, without, dropped}
use Rattle.drop_empty_adds.specs.Answers.{answers, lines_from}

-- no record of the script is an add of count 0
abbrev pub NoEmptyAdds : List ℕ → Type 0
NoEmptyAdds l = Every (λ b. is_empty_add b ≡ false) (records l)

pub record Claims : Type 0 where
  -- "The answers of the remaining records, offsets aside, must be those that the old script gives them under the limits and tests as they now stand.": bytes, answers
  -- and stored numbers, in the same order. Of a script that meets 8 nothing is left
  pub same_answers : (l : List ℕ) → refuses_8 l ≡ false → answers (dropped l) ≡ without (λ a. is_empty_add a.bytes) (answers l)
  -- the answers are those that the program `screen` prints: its listing is their lines
  pub as_printed : (l : List ℕ) → refuses_8 l ≡ false → printed l ≡ lines_from 0 (answers l)
  -- so the new listing is the old one without the lines of the dropped records, its offsets counted anew
  pub new_listing : (l : List ℕ) → refuses_8 l ≡ false → printed (dropped l) ≡ lines_from 0 (without (λ a. is_empty_add a.bytes) (answers l))
  -- what the record at a position of a script is answered, it is answered by its own bytes
  pub own_bytes : (l : List ℕ) (i : ℕ) (s : Session) → call (takes l i) s ≡ call (takes (take (first_length (drop i l)) (drop i l)) 0) s
  -- a script is its records
  pub all_bytes : (l : List ℕ) → flatten (records l) ≡ l
  -- a dropped record was refused as 12, on every session, and changed nothing
  pub refused_as_12 : (b : List ℕ) (s : Session) → is_empty_add b ≡ true → call (takes b 0) s ≡ refusing 12 s
  -- and it is dropped just where it is refused so
  pub just_12 : (b : List ℕ) (s : Session) → is_empty_add b ≡ eqb (call (takes b 0) s).answer.refusal 12
  -- none is left, dropping twice is dropping once, and a script that has none comes out as it went in
  pub none_left : (l : List ℕ) → NoEmptyAdds (dropped l)
  pub once : (l : List ℕ) → dropped (dropped l) ≡ dropped l
  pub unchanged : (l : List ℕ) → refuses_8 l ≡ false → NoEmptyAdds l → dropped l ≡ l
