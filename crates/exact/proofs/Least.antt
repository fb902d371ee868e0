-- The least number for which a test is true.
use mathlib.Core.Path.{◌≡◌, refl, ap}
use mathlib.Core.Bool.{Bool, true, false, cond}
use Prim.Native.Nat.{ℕ, zero, suc, ◌≤◌, ◌<◌}
use native.Mathlib.Nat.{le_of_suc-le-suc, not-suc-le-zero}
use native.Mathlib.Omega.{arith}
use Rattle.exact.specs.Least.{least}

pub least_le : (f : ℕ → Bool) (n : ℕ) → least f n ≤ n
unfolding least
least_le f zero = omega arith
least_le f (suc n) = go (f 0) (least_le (λ k. f (suc k)) n)
  where
    m : ℕ
    m = least (λ k. f (suc k)) n

    go : (b : Bool) → m ≤ n → cond b 0 (suc m) ≤ suc n
    go true l = omega arith
    go false l = omega arith

-- below it the test is false
pub least_before : (f : ℕ → Bool) (n k : ℕ) → k < least f n → f k ≡ false
unfolding least
least_before f zero k l = absurd (not-suc-le-zero l)
least_before f (suc n) k l = go (λ k. least_before (λ k. f (suc k)) n k) (f 0) refl k l
  where
    m : ℕ
    m = least (λ k. f (suc k)) n

    go : ((k : ℕ) → k < m → f (suc k) ≡ false) → (b : Bool) → f 0 ≡ b → (k : ℕ) → k < cond b 0 (suc m) → f k ≡ false
    go h true e k l = absurd (not-suc-le-zero l)
    go h false e zero l = e
    go h false e (suc k) l = h k (le_of_suc-le-suc l)

-- at it the test is true
pub least_here : (f : ℕ → Bool) (n : ℕ) → least f n < n → f (least f n) ≡ true
unfolding least
least_here f zero l = absurd (not-suc-le-zero l)
least_here f (suc n) l = go (least_here (λ k. f (suc k)) n) (f 0) refl l
  where
    m : ℕ
    m = least (λ k. f (suc k)) n

    go : (m < n → f (suc m) ≡ true) → (b : Bool) → f 0 ≡ b → cond b 0 (suc m) < suc n → f (cond b 0 (suc m)) ≡ true
    go h true e l = e
    go h false e l = h (le_of_suc-le-suc l)

-- and so it is the only such number
pub least_is : (f : ℕ → Bool) (n k : ℕ) → k ≤ n → ((j : ℕ) → j < k → f j ≡ false) → (k < n → f k ≡ true) → k ≡ least f n
unfolding least
least_is f zero zero l b h = refl
least_is f zero (suc k) l b h = absurd (not-suc-le-zero l)
least_is f (suc n) zero l b h = rw (h (omega arith))
least_is f (suc n) (suc k) l b h =
    rw (b 0 (omega arith)) (ap suc (least_is (λ k. f (suc k)) n k (le_of_suc-le-suc l) (λ j m. b (suc j) (omega arith)) (λ m. h (omega arith))))
