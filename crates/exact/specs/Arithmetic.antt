-- The arithmetic that the rounded steps are written over (Steps.antt), and its instances: the fractions themselves; each side of document 01; and by request #105
-- of document 02 each side with, beside every number, whether something was lost on its way.
use Rattle.std.specs.Prelude.{Bool, false, ◌||◌, ℕ}
use Rattle.exact.specs.declared.Scaled.{Scaled}
use Rattle.exact.specs.declared.Traced.{Traced}
use Rattle.exact.specs.Fraction.{Frac, ◌⊕◌, ◌⊗◌, ◌÷◌}
use Rattle.exact.specs.Scaled.{value, lost, half as half_of}
use Rattle.exact.specs.Private.Round.{round}

-- numbers S, with D (or U) of an exact fraction, of a sum, of a product and of a quotient by a whole number; and halving
pub record Arithmetic (S : Type 0) : Type 0 where
  pub fraction : Frac → S
  pub sum : S → S → S
  pub product : S → S → S
  pub quotient : S → ℕ → S
  pub half : S → S

-- the fractions themselves: nothing is rounded
unfoldable pub unrounded : Arithmetic Frac
unrounded = record { fraction = λ q. q; sum = λ p q. p ⊕ q; product = λ p q. p ⊗ q; quotient = λ q k. q ÷ k; half = λ q. q ÷ 2 }

-- a side, to so many bits: D where up is false, U where up is true. "Halving and doubling are exact."
unfoldable pub rounded : Bool → ℕ → Arithmetic Scaled
rounded up bits = record {
  fraction = λ q. round up bits q;
  sum = λ x y. round up bits (value x ⊕ value y);
  product = λ x y. round up bits (value x ⊗ value y);
  quotient = λ x k. round up bits (value x ÷ k);
  half = λ x. half_of x;
}

-- ---- request #105

-- "Every rounding must say whether it lost anything, and everything built on rounding must pass that on": q rounded, where `before` says whether something was lost
-- on the way to q
unfoldable pub rounding : Bool → ℕ → Frac → Bool → Traced
rounding up bits q before = record { number = round up bits q; lost = before || lost up bits q }

-- a side with losses: something was lost on the way to a result where it was lost on the way to an operand, "also one that a zero factor hides", or by its own rounding
unfoldable pub traced : Bool → ℕ → Arithmetic Traced
traced up bits = record {
  fraction = λ q. rounding up bits q false;
  sum = λ x y. rounding up bits (value x.number ⊕ value y.number) (x.lost || y.lost);
  product = λ x y. rounding up bits (value x.number ⊗ value y.number) (x.lost || y.lost);
  quotient = λ x k. rounding up bits (value x.number ÷ k) x.lost;
  half = λ x. record { number = half_of x.number; lost = x.lost };
}
