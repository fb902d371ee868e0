-- The ranges of the numbers that a term is formed through, over any arithmetic that keeps them (exact/proofs/Growth.antt).
use mathlib.Core.Path.{◌≡◌}
use Prim.Native.Nat.{ℕ, ◌+◌, ◌^◌, ◌<◌}
use native.Mathlib.Omega.{arith}
use lib.Dec.{lit≤}
use Rattle.exact.specs.Arithmetic.{Arithmetic}
use Rattle.exact.specs.Private.Ranges.{largest_exponent, LettersAll, TermsAll}
use Rattle.exact.specs.Numbers.{largest_order}
use Rattle.exact.specs.Steps.{LettersOf, TermsOf, next_c}
use Rattle.exact.proofs.Growth.{Keeps, c_in}

module _ {S : Type 0} {A : Arithmetic S} {P : ℕ → S → Type 0} (K : Keeps A P) where
  -- a letter times a term
  pub times : {x y : S} → P 387 x → P largest_exponent y → P (largest_exponent + 420) (A.product x y)
  times i k = K.more (lit≤ tt) (K.product i k)

  pub times_fine : {x y r : S} → r ≡ A.product x y → P 387 x → P largest_exponent y → P (2 ^ 28) r
  times_fine e i k = rw e (K.more (lit≤ tt) (times i k))

  module _ {n : ℕ} (nl : n < largest_order) where
    -- y / (n + 2)
    over : {y : S} → P (largest_exponent + 420) y → P (largest_exponent + 453) (A.quotient y (n + 2))
    over j = K.quotient (n + 2) (omega arith) (omega (arith, nl)) j

    pub over_fine : {y : S} → P (largest_exponent + 420) y → P (2 ^ 28) (A.quotient y (n + 2))
    over_fine j = K.more (lit≤ tt) (over j)

    -- x + y / (n + 2)
    pub plus_over_fine : {x y : S} → P (largest_exponent + 460) x → P (largest_exponent + 420) y → P (2 ^ 28) (A.sum x (A.quotient y (n + 2)))
    plus_over_fine i j = K.more (lit≤ tt) (K.sum i (K.more (lit≤ tt) (over j)))

  module _ {l : LettersOf S} (i : LettersAll P l) {s : TermsOf S} (k : TermsAll P largest_exponent s) where
    -- the sums of c(n + 1), before it is divided
    pub two : P (largest_exponent + 423) (A.sum s.p (A.half (A.product l.h s.v)))
    two = K.sum (K.more (lit≤ tt) k.p) (K.half (times i.h k.v))

    pub three : P (largest_exponent + 425) (A.sum (A.sum s.p (A.half (A.product l.h s.v))) (A.product l.X s.y))
    three = K.sum two (K.more (lit≤ tt) (times i.X k.y))

    pub four : P (largest_exponent + 427) (A.sum (A.sum (A.sum s.p (A.half (A.product l.h s.v))) (A.product l.X s.y)) (A.product l.Y s.c))
    four = K.sum three (K.more (lit≤ tt) (times i.Y k.c))

    -- c(n + 1)
    pub next_in : {n : ℕ} {c : S} → n < largest_order → c ≡ next_c A l n s → P (largest_exponent + 460) c
    next_in nl e = rw e (c_in K l i largest_exponent _ nl k)
