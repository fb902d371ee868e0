-- The decimal digits of a number: those that io::decimal writes, and how many they are.
use Prim.Native.Nat.{ℕ, zero, suc, ◌+◌, ◌*◌, ◌-◌, ◌/◌, ◌%◌, ◌^◌, ◌≤◌, ◌<◌}
use mathlib.Core.Path.{◌≡◌, refl, ap}
use mathlib.Core.Bool.{Bool, true, false}
use mathlib.Core.List.{List, [], ◌∷◌, ◌++◌}
use native.Mathlib.Omega.{arith}
use native.Mathlib.Nat.{pow-suc, pow-le-pow_right}
use lib.Dec.{ltb}
use borrow.Author.Tests.{lt-ltb, le-ltb, ltb-true, ltb-false}
use lib.ListN.{length, length-append}
use Rattle.io.specs.Digits.{last_digits, hex_digit_ascii, IsDigitCount}
use Rattle.listing.specs.Line.{number_text, decimal_digits}

last : (x : ℕ) → hex_digit_ascii (x % 10) ≡ 48 + x % 10
last x = rw (lt-ltb (x % 10) 10 (omega arith))

one : (f x : ℕ) → x < 10 → decimal_digits (suc f) x ≡ (48 + x % 10) ∷ []
unfolding decimal_digits
one f x h = rw (lt-ltb x 10 h)

more : (f x : ℕ) → 10 ≤ x → decimal_digits (suc f) x ≡ decimal_digits f (x / 10) ++ ((48 + x % 10) ∷ [])
unfolding decimal_digits
more f x h = rw (le-ltb x 10 h)

digits_are : (f k x : ℕ) → x < f → x < 10 ^ suc k → (0 < k → 10 ^ k ≤ x) → last_digits 10 (suc k) x ≡ decimal_digits f x
digits_are zero k x h u g = absurd (omega arith)
digits_are (suc f) zero x h u g = rw (one f x (omega arith), last x)
digits_are (suc f) (suc k) x h u g =
    let low : 10 ^ suc k ≤ x = g (omega arith) in
    let p : 10 ^ suc k ≡ 10 ^ k * 10 = pow-suc 10 k in
    let q : 10 ^ suc (suc k) ≡ 10 ^ suc k * 10 = pow-suc 10 (suc k) in
    let some : 0 < 10 ^ k = pow-le-pow_right {n = 10} (omega arith) {i = 0} {j = k} (omega arith) in
    let again = digits_are f k (x / 10) (omega arith) (omega arith) (λ i. omega arith) in
    rw (more f x (omega arith), last x) (ap (λ (l : List ℕ). l ++ ((48 + x % 10) ∷ [])) again)

pub digits_decimal : (x k : ℕ) → IsDigitCount 10 1 x k → last_digits 10 k x ≡ number_text x
unfolding number_text
digits_decimal x zero f = absurd (omega (arith, f.0))
digits_decimal x (suc k) f =
    let e : suc k - 1 ≡ k = omega arith in
    digits_are (suc x) k x (omega arith) f.1 (λ i. rw e at (f.2 (omega arith)))

-- one digit more
longer :
    (f n x : ℕ) →
    ((m : ℕ) → x / 10 < 10 ^ m → 0 < m → length (decimal_digits f (x / 10)) ≤ m) →
    x < 10 ^ suc n →
    10 ≤ x →
    length (decimal_digits f (x / 10)) + 1 ≤ suc n
longer f zero x g h low = absurd (omega arith)
longer f (suc n) x g h low =
    let q : 10 ^ suc (suc n) ≡ 10 ^ suc n * 10 = pow-suc 10 (suc n) in
    let again : length (decimal_digits f (x / 10)) ≤ suc n = g (suc n) (omega arith) (omega arith) in
    omega arith

-- a number below 10^n has at most n digits
short : (f n x : ℕ) → x < 10 ^ n → 0 < n → length (decimal_digits f x) ≤ n
short zero n x h p = unfold decimal_digits in (omega arith)
short (suc f) zero x h p = absurd (omega arith)
short (suc f) (suc n) x h p = by (λ m. short f m (x / 10)) (ltb x 10) refl
  where
    by : ((m : ℕ) → x / 10 < 10 ^ m → 0 < m → length (decimal_digits f (x / 10)) ≤ m) → (b : Bool) → ltb x 10 ≡ b → length (decimal_digits (suc f) x) ≤ suc n
    by g true e = rw (one f x (ltb-true x 10 e)) (omega arith)
    by g false e = let low : 10 ≤ x = ltb-false x 10 e in rw (more f x low, length-append) (longer f n x g h low)

pub decimal_20 : (x : ℕ) → x < 2 ^ 64 → length (number_text x) ≤ 20
unfolding number_text
decimal_20 x h = short (suc x) 20 x (omega arith) (omega arith)

pub decimal_10 : (x : ℕ) → x < 2 ^ 32 → length (number_text x) ≤ 10
unfolding number_text
decimal_10 x h = short (suc x) 10 x (omega arith) (omega arith)
