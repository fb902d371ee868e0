-- The answers of the records that remain.
use mathlib.Core.Path.{◌≡◌, refl, sym, subst, ap, ◌∙◌}
use mathlib.Core.Bool.{Bool, true, false, cond}
use mathlib.Core.List.{List, [], ◌∷◌}
use Prim.Native.Nat.{ℕ}
use lib.Dec.{T}
use Rattle.exact.specs.Records.{Request, begin, begin_conjunction, add, read, bad}
use Rattle.exact.specs.Refusals.{request_at, History, refusal}
use Rattle.encounter.specs.declared.state.Session.{Session}
use Rattle.encounter.specs.declared.state.Called.{Called}
use Rattle.encounter.specs.Calls.{refusing, outcome, takes, call}
use Rattle.drop_empty_adds.specs.Dropping.{adds_nothing, is_empty_add, without}
use Rattle.drop_empty_adds.specs.Answers.{Answered, answered}
use Rattle.drop_empty_adds.proofs.Remaining.{remaining}

-- an add of count 0 is refused as 12, whatever the session
nothing_12 : (w : History) (q : Request) → adds_nothing q ≡ true → refusal w q ≡ 12
unfolding refusal
nothing_12 w (begin E) z = absurd (subst T (sym z) tt)
nothing_12 w (begin_conjunction C) z = absurd (subst T (sym z) tt)
nothing_12 w (add count) z = rw z
nothing_12 w read z = absurd (subst T (sym z) tt)
nothing_12 w (bad r) z = absurd (subst T (sym z) tt)

pub refused_as_12 : (b : List ℕ) (s : Session) → is_empty_add b ≡ true → call (takes b 0) s ≡ refusing 12 s
unfolding is_empty_add outcome
refused_as_12 b s z = rw (nothing_12 _ (request_at b 0) z)

abbrev drops : Answered → Bool
drops a = is_empty_add a.bytes

pub answers_remain : (bs : List (List ℕ)) (s : Session) → answered s (remaining bs) ≡ without drops (answered s bs)
answers_remain [] s = refl
answers_remain (b ∷ bs) s = go (is_empty_add b) refl (λ s. answers_remain bs s)
  where
    done : Session
    done = (call (takes b 0) s).session

    first : Answered
    first = record { bytes = b; answer = (call (takes b 0) s).answer; session = done }

    go : (t : Bool) → is_empty_add b ≡ t → ((s : Session) → answered s (remaining bs) ≡ without drops (answered s bs))
        → answered s (cond t (remaining bs) (b ∷ remaining bs)) ≡ cond t (without drops (answered done bs)) (first ∷ without drops (answered done bs))
    go true e again = again s ∙ ap (λ (c : Session). without drops (answered c bs)) (sym (ap (λ (c : Called). c.session) (refused_as_12 b s e)))
    go false e again = ap (λ (l : List Answered). first ∷ l) (again done)
