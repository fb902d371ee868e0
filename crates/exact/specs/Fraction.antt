-- Document 01, 'Scaled numbers': "In definitions and proofs a fraction is a whole numerator, signed where something is subtracted, over a whole denominator above
-- 0; two fractions are compared by multiplying crosswise." Only g of the letters subtracts (Series.antt); all else here is of numbers that are 0 or more.
-- Definitions only; their laws are in proofs/Fractions.antt.
use Rattle.std.specs.Prelude.{◌≡◌, Bool, not, ℕ, zero, suc, pred, ◌+◌, ◌*◌, ◌≤◌, ◌<◌, leb}
use Rattle.std.proofs.Common.{mul-pos, zero-lt-suc}

infix 40 ◌≼◌ ◌≈◌
infixl 60 ◌⊕◌
infixl 70 ◌⊗◌
infixl 70 ◌÷◌
infixl 70 ◌⊘◌
infix 75 ◌over◌
infixr 80 ◌↑◌
pub record Frac : Type 0 where
  pub num : ℕ
  pub den : ℕ
  pub pos : 0 < den

-- p is at most q
pub record ◌≼◌ (p q : Frac) : Type 0 where
  pub le : p.num * q.den ≤ q.num * p.den

-- p and q have one value
pub record ◌≈◌ (p q : Frac) : Type 0 where
  pub eq : p.num * q.den ≡ q.num * p.den

-- whether p is at most q
unfoldable pub at_most : Frac → Frac → Bool
at_most p q = leb (p.num * q.den) (q.num * p.den)

-- whether p is above q
unfoldable pub above : Frac → Frac → Bool
above p q = not (at_most p q)

-- the whole number n
unfoldable pub whole : ℕ → Frac
whole n = record { num = n; den = 1; pos = zero-lt-suc 0 }

-- n over d is n/d, for d above 0 (over 0 it counts as n/1)
unfoldable pub ◌over◌ : ℕ → ℕ → Frac
◌over◌ n d = record { num = n; den = suc (pred d); pos = zero-lt-suc (pred d) }

-- the sum
unfoldable pub ◌⊕◌ : Frac → Frac → Frac
◌⊕◌ p q = record { num = p.num * q.den + q.num * p.den; den = p.den * q.den; pos = mul-pos p.pos q.pos }

-- the product
unfoldable pub ◌⊗◌ : Frac → Frac → Frac
◌⊗◌ p q = record { num = p.num * q.num; den = p.den * q.den; pos = mul-pos p.pos q.pos }

-- p ÷ k is p/k, for a whole k above 0 (over 0 it counts as p/1)
unfoldable pub ◌÷◌ : Frac → ℕ → Frac
◌÷◌ p k = record { num = p.num; den = p.den * suc (pred k); pos = mul-pos p.pos (zero-lt-suc (pred k)) }

-- p ⊘ q is p/q, for q above 0 (for a q whose numerator is 0 it counts that as 1)
unfoldable pub ◌⊘◌ : Frac → Frac → Frac
◌⊘◌ p q = record { num = p.num * q.den; den = p.den * suc (pred q.num); pos = mul-pos p.pos (zero-lt-suc (pred q.num)) }

-- p ↑ n is p to the power n; p ↑ 0 is 1, for p = 0 too
unfoldable pub ◌↑◌ : Frac → ℕ → Frac
◌↑◌ p zero = whole 1
◌↑◌ p (suc n) = p ⊗ p ↑ n

-- sum f n is f(0) + .. + f(n-1)
unfoldable pub sum : (ℕ → Frac) → ℕ → Frac
sum f zero = whole 0
sum f (suc n) = sum f n ⊕ f n
