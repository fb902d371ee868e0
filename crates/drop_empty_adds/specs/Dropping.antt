-- Request #110 of document 02: a script cut into its records, and the script without its adds of count 0.
use Rattle.std.specs.Prelude.{◌≡◌, Bool, false, cond, ◌||◌, ℕ, zero, suc, ◌+◌, length, take, drop, get_or}
use mathlib.Core.List.{List, [], ◌∷◌, ◌++◌, flatten}
use Rattle.exact.specs.Records.{body_length, Request, begin, begin_conjunction, add, read, bad}
use Rattle.exact.specs.Refusals.{refuses_1, refuses_2, refuses_8, refuses_12, request_at}

-- ---- a script's records

-- how many bytes the first record of l has: its kind byte and its body; where it is refused as 1 or 2 they are all that l has: "the byte at a refusal 1 or 2 and
-- everything after it"
unfoldable pub first_length : List ℕ → ℕ
first_length l = cond (refuses_1 l 0 || refuses_2 l 0) (length l) (1 + body_length (get_or l 0 0))

-- the first k records of l, each as its bytes
unfoldable pub cut : ℕ → List ℕ → List (List ℕ)
cut zero l = []
cut (suc k) [] = []
cut (suc k) (kind ∷ l) = take (first_length (kind ∷ l)) (kind ∷ l) ∷ cut k (drop (first_length (kind ∷ l)) (kind ∷ l))

-- all of them: every record has a byte, so there are no more records than bytes
unfoldable pub records : List ℕ → List (List ℕ)
records l = cut (length l) l

-- ---- without its adds of count 0

-- "an add with count 0"
abbrev pub adds_nothing : Request → Bool
adds_nothing (begin E) = false
adds_nothing (begin_conjunction C) = false
adds_nothing (add count) = refuses_12 count
adds_nothing read = false
adds_nothing (bad r) = false

-- a record, as its bytes, asks for one
unfoldable pub is_empty_add : List ℕ → Bool
is_empty_add bytes = adds_nothing (request_at bytes 0)

-- the list without those that are to be dropped
abbrev pub without : {A : Type 0} → (A → Bool) → List A → List A
without drops [] = []
without drops (a ∷ l) = cond (drops a) (without drops l) (a ∷ without drops l)

-- "a program that drops such records and copies all others byte by byte. [..] For a script that meets 8 it writes nothing."
unfoldable pub dropped : List ℕ → List ℕ
dropped l = cond (refuses_8 l) [] (flatten (without is_empty_add (records l)))

-- What the program's work on a script, which it does in place, leaves of it: the new script, of r bytes, and then the bytes that were there.
pub record InPlace (before after : List ℕ) (r : ℕ) : Type 0 where
  pub is : after ≡ dropped before ++ drop (length (dropped before)) before
  pub ends : r ≡ length (dropped before)
