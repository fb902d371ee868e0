-- One test of the whole table: at each entry both conditions hold, and one below it not both. So each entry is the least of all orders.
use mathlib.Core.Path.{◌≡◌, refl, sym, ◌∙◌, subst}
use mathlib.Core.Bool.{Bool, true, false, not, ◌&&◌, true≢false}
use mathlib.Core.List.{List, [], ◌∷◌}
use mathlib.Core.Logic.{⊎_elim}
use Prim.Native.Nat.{ℕ, zero, suc, ◌+◌, ◌-◌, ◌*◌, ◌^◌, ◌≤◌, ◌<◌}
use native.Mathlib.Nat.{add-zero, zero-add, add-suc, suc-add, le_of_suc-le-suc, not-suc-le-zero}
use native.Mathlib.Omega.{arith}
use borrow.Author.Tests.{leb-true, le-leb, not-true}
use lib.Dec.{leb}
use lib.ListN.{length, get_or}
use Rattle.exact.specs.Numbers.{largest_order}
use Rattle.exact.specs.Series.{factorial}
use Rattle.exact.proofs.Accepted.{both_true}
use Rattle.exact.proofs.Fractions.{lt_or_le}
use Rattle.exact.proofs.Least.{least_is}
use Rattle.advice.specs.Orders.{largest_M, tail_odds, Enough, Least, Orders}
use Rattle.advice.specs.Private.Order.{is_enough, order_for}
use Rattle.advice.proofs.Enough.{small_of, of_small, smaller, later}

-- ---- the test is true just where both conditions hold

enough_of : (M N : ℕ) → is_enough M N (factorial (suc N)) ≡ true → Enough M N
unfolding is_enough
enough_of M N h =
    let (e, s) = both_true (leb (2 * M) (N + 2)) (leb (2 * M ^ N * tail_odds) (factorial (suc N))) h in
    of_small M N (leb-true _ _ e) (leb-true _ _ s)

of_enough : (M N : ℕ) → Enough M N → is_enough M N (factorial (suc N)) ≡ true
unfolding is_enough
of_enough M N e = rw (le-leb (2 * M) (N + 2) e.passes, le-leb (2 * M ^ N * tail_odds) (factorial (suc N)) (small_of M N e))

-- ---- an entry

-- whether both conditions hold for M at x, and not both at x − 1; f is x!
unfoldable pub is_entry : (M x f : ℕ) → Bool
is_entry M zero f = false
is_entry M (suc n) f = is_enough M (suc n) (suc (suc n) * f) && not (is_enough M n f)

entry_of : (M x : ℕ) → is_entry M x (factorial x) ≡ true → Least M x
unfolding is_entry factorial
entry_of M zero h = absurd (true≢false (sym h))
entry_of M (suc n) h =
    let f = factorial (suc n) in
    let (a, b) = both_true (is_enough M (suc n) (suc (suc n) * f)) (not (is_enough M n f)) h in
    record {
      enough = enough_of M (suc n) a;
      least = λ i e. ⊎_elim (λ j. absurd (true≢false (sym (of_enough M n (later M i n (le_of_suc-le-suc j) e)) ∙ not-true _ b))) (λ j. j) (lt_or_le i (suc n));
    }

pub first : Least 1 13
first = entry_of 1 13 (unfold is_enough is_entry factorial in refl)

last : Enough largest_M 708
last = enough_of largest_M 708 (unfold is_enough factorial in refl)

-- every least order lies from the first entry to the last
pub range : {M N : ℕ} → Least M N → 1 ≤ M → M ≤ largest_M → (13 ≤ N) × (N ≤ 708)
range {M} {N} h p l = (first.least N (smaller N p h.enough), h.least 708 (smaller 708 l last))

-- ---- the table

-- the test over the places from i on
unfoldable pub every : ℕ → List ℕ → Bool
every i [] = true
every i (x ∷ xs) = is_entry (suc i) x (factorial x) && every (suc i) xs

from : (xs : List ℕ) (i : ℕ) → every i xs ≡ true → (k : ℕ) → k < length xs → Least (suc (i + k)) (get_or xs k 0)
unfolding every
from [] i t k h = absurd (not-suc-le-zero h)
from (x ∷ xs) i t zero h = rw (add-zero i) (entry_of (suc i) x (both_true (is_entry (suc i) x (factorial x)) (every (suc i) xs) t).0)
from (x ∷ xs) i t (suc k) h =
    subst (λ (m : ℕ). Least (suc m) (get_or xs k 0)) (suc-add i k ∙ sym (add-suc i k))
    (from xs (suc i) (both_true (is_entry (suc i) x (factorial x)) (every (suc i) xs) t).1 k (le_of_suc-le-suc h))

pub tested_table : (xs : List ℕ) → length xs ≡ largest_M → every 0 xs ≡ true → Orders xs
tested_table xs n t = record { entry = at }
  where
    at : (M : ℕ) → 1 ≤ M → M ≤ largest_M → Least M (get_or xs (M - 1) 0)
    at zero p l = absurd (not-suc-le-zero p)
    at (suc k) p l = let e : suc k - 1 ≡ k = omega arith in rw e (rw (zero-add k) at (from xs 0 t k (rw n l)))

-- ---- the entry computed

-- the least order is the one computed
pub computed : {M N : ℕ} → 1 ≤ M → M ≤ largest_M → Least M N → N ≡ order_for M
unfolding order_for
computed {M} {N} p l h =
    least_is (λ n. is_enough M n (factorial (suc n))) largest_order N (omega (arith, range h p l)) (λ j k. before j k (is_enough M j (factorial (suc j))) refl) (λ k. of_enough M N h.enough)
  where
    before : (j : ℕ) → j < N → (b : Bool) → is_enough M j (factorial (suc j)) ≡ b → b ≡ false
    before j k true e = let f : ⊥ = omega (arith, h.least j (enough_of M j e)) in absurd f
    before j k false e = refl

pub entries : {xs : List ℕ} → Orders xs → (M : ℕ) → 1 ≤ M → M ≤ largest_M → Least M (order_for M)
entries o M p l = let h = o.entry M p l in rw (← computed p l h) h
