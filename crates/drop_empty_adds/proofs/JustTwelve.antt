-- The records that are dropped are just those that test 12 refuses.
use mathlib.Core.Path.{◌≡◌, refl, ap, sym, ◌∙◌}
use mathlib.Core.Bool.{Bool, true, false, cond}
use mathlib.Core.List.{List}
use Prim.Native.Nat.{ℕ}
use lib.Dec.{eqb}
use lib.ListN.{get_or}
use Rattle.exact.specs.Records.{u16_at, begin_at, conjunction_at, Request, begin, begin_conjunction, add, read, bad, request_of}
use Rattle.exact.specs.Refusals.{refuses_1, refuses_2, refuses_12, refuses_22, request_at, test_21, History, refusal}
use Rattle.encounter.specs.declared.state.Session.{Session}
use Rattle.encounter.specs.Calls.{history_of, takes, call}
use Rattle.encounter.proofs.calls.Answering.{number}
use Rattle.listing.proofs.Lengths.{either}
use Rattle.drop_empty_adds.specs.Dropping.{adds_nothing, is_empty_add}
use Rattle.drop_empty_adds.proofs.RefusalNumbers.{OfEach, of_begin, of_conjunction, of_add, of_read}

abbrev Other : ℕ → Type 0
Other r = false ≡ eqb r 12

others : OfEach Other
others = (refl, refl, refl, refl, refl, refl, refl, refl, refl, refl, refl)

of_count : (w : History) (count : ℕ) (t : Bool) → t ≡ eqb (cond t 12 (test_21 w (λ E N. cond (refuses_22 N count) 22 0))) 12
of_count w count true = refl
of_count w count false = of_add Other others w count

module _ (w : History) where
  abbrev Just : Request → Type 0
  Just q = adds_nothing q ≡ eqb (refusal w q) 12

  just : (l : List ℕ) → Just (request_at l 0)
  unfolding request_at request_of refusal
  just l =
      either Just (refuses_1 l 0) {x = bad 1} refl
      (either Just (refuses_2 l 0) {x = bad 2} refl
      (either Just (eqb (get_or l 0 0) 1) {x = begin (begin_at l 1)} (of_begin Other others (begin_at l 1))
      (either Just (eqb (get_or l 0 0) 2) {x = add (u16_at l 1)} (of_count w (u16_at l 1) (refuses_12 (u16_at l 1)))
      (either Just (eqb (get_or l 0 0) 3) {x = read} {y = begin_conjunction (conjunction_at l 1)} (of_read Other others w) (of_conjunction Other others (conjunction_at l 1))))))

pub just_12 : (b : List ℕ) (s : Session) → is_empty_add b ≡ eqb (call (takes b 0) s).answer.refusal 12
unfolding is_empty_add
just_12 b s = just (history_of s) b ∙ ap (λ (r : ℕ). eqb r 12) (sym (number (history_of s) (request_at b 0) s))
