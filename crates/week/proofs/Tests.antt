-- The tests of an entry by cases, as code takes them, and what an entry then answers.
use mathlib.Core.Path.{◌≡◌, refl, sym, ◌∙◌}
use mathlib.Core.Bool.{Bool, true, false, cond, true≢false}
use Prim.Native.Nat.{ℕ, ◌≤◌, ◌<◌}
use lib.Dec.{eqb}
use borrow.Author.Tests.{eq-eqb, ne_eqb, le-leb, lt-leb, leb-false, eqb-true}
use Rattle.exact.specs.Numbers.{days_a_week, places_a_day}
use Rattle.exact.specs.Records.{read}
use Rattle.exact.specs.Refusals.{History, refusal, refuses_13, refuses_24, test_24, entry_refusal}
use Rattle.exact.proofs.Accepted.{passed}
use Rattle.encounter.specs.declared.state.Session.{Session}
use Rattle.encounter.specs.Calls.{history_of, reads, call}
use Rattle.encounter.proofs.calls.Answering.{number}
use Rattle.week.specs.Week.{Week, day_of, next_place, ends_of, entered, enter}

-- ---- the number

module _ (w : History) (day place : ℕ) where
  pub test_13 : days_a_week ≤ day → 13 ≡ entry_refusal w day place
  unfolding entry_refusal refuses_13
  test_13 h = rw (le-leb days_a_week day h)

  pub test_rest : day < days_a_week → test_24 (refusal w read) place ≡ entry_refusal w day place
  unfolding entry_refusal refuses_13
  test_rest h = rw (lt-leb days_a_week day h)

-- test 24, after the read's
module _ (earlier place : ℕ) where
  pub as_read : (earlier ≡ 0 → ⊥) → earlier ≡ test_24 earlier place
  unfolding test_24
  as_read n = rw (ne_eqb earlier 0 n)

  module _ (z : earlier ≡ 0) where
    pub a_ninth : places_a_day ≤ place → 24 ≡ test_24 earlier place
    unfolding test_24 refuses_24
    a_ninth f = rw (eq-eqb earlier 0 z, le-leb places_a_day place f)

    pub has_place : place < places_a_day → 0 ≡ test_24 earlier place
    unfolding test_24 refuses_24
    has_place f = rw (eq-eqb earlier 0 z, lt-leb places_a_day place f)

-- what an accepted entry says
pub record Enters (w : History) (day place : ℕ) : Type 0 where
  pub in_week : day < days_a_week
  pub read_passes : refusal w read ≡ 0
  pub has_room : place < places_a_day

by_room : (w : History) (day place : ℕ) → day < days_a_week → refusal w read ≡ 0 → ◌≡◌ {A = ℕ} (cond (refuses_24 place) 24 0) 0 → Enters w day place
unfolding refuses_24
by_room w day place l z y = record { in_week = l; read_passes = z; has_room = leb-false places_a_day place (passed 23 (refuses_24 place) 0 y).0 }

pub enters : (w : History) (day place : ℕ) → entry_refusal w day place ≡ 0 → Enters w day place
unfolding entry_refusal refuses_13 test_24
enters w day place z = let (a, y) = passed 12 (refuses_13 day) _ z in go (eqb (refusal w read) 0) refl (leb-false days_a_week day a) y
  where
    go : (b : Bool) → eqb (refusal w read) 0 ≡ b → day < days_a_week → cond b (cond (refuses_24 place) 24 0) (refusal w read) ≡ 0 → Enters w day place
    go true e l y = by_room w day place l (eqb-true _ 0 e) y
    go false e l y = absurd (true≢false (sym (eq-eqb (refusal w read) 0 y) ∙ e))

-- ---- the week after it

module _ (w : Week) (day : ℕ) (s : Session) where
  abbrev number_of : ℕ
  number_of = entry_refusal (history_of s) day (next_place (day_of w day))

  pub stays : {r : ℕ} → r ≡ number_of → (r ≡ 0 → ⊥) → record { refusal = r; week = w } ≡ enter w day s
  unfolding enter
  stays {r} e n = rw (← e, ne_eqb r 0 n)

  pub goes_in : 0 ≡ number_of → record { refusal = 0; week = entered w day (ends_of (call reads s).answer) } ≡ enter w day s
  unfolding enter
  goes_in e = rw (← e)

-- the read's own refusal
pub read_number : (s : Session) → (call reads s).answer.refusal ≡ refusal (history_of s) read
read_number s = number (history_of s) read s
