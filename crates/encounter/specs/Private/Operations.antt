-- The arithmetic of both sides together, and what the operations of the steps keep (trait `Operations`, src/steps/numbers.rt): how far exponents go. No line of the paper.
use Rattle.std.specs.Prelude.{Bool, true, false, ℕ}
use Rattle.exact.specs.declared.Scaled.{Scaled}
use Rattle.exact.specs.declared.Traced.{Traced}
use Rattle.exact.specs.Arithmetic.{Arithmetic, rounded, rounding, traced}
use Rattle.exact.specs.Private.Ranges.{InRange}
use Rattle.exact.proofs.Growth.{Keeps}
use Rattle.exact.proofs.Exponents.{in_range}
use Rattle.encounter.specs.declared.steps.sides.Pair.{Pair}
use Rattle.encounter.specs.Private.Loops.{narrow, wide, side_of}

-- D on the lower side and U on the upper
abbrev pub pair : Scaled → Scaled → Pair
pair x y = record { lower = wide x; upper = wide y }

unfoldable pub both : Arithmetic Pair
both = record {
  fraction = λ q. pair ((rounded false 32).fraction q) ((rounded true 32).fraction q);
  sum = λ a b. pair ((rounded false 32).sum (narrow a.lower) (narrow b.lower)) ((rounded true 32).sum (narrow a.upper) (narrow b.upper));
  product = λ a b. pair ((rounded false 32).product (narrow a.lower) (narrow b.lower)) ((rounded true 32).product (narrow a.upper) (narrow b.upper));
  quotient = λ a k. pair ((rounded false 32).quotient (narrow a.lower) k) ((rounded true 32).quotient (narrow a.upper) k);
  half = λ a. pair ((rounded false 32).half (narrow a.lower)) ((rounded true 32).half (narrow a.upper));
}

-- exponents from -B to B, of a number with its losses and of both sides' numbers
abbrev pub TracedIn : ℕ → Traced → Type 0
TracedIn B x = InRange 32 B x.number

abbrev pub PairIn : ℕ → Pair → Type 0
PairIn B x = (up : Bool) → InRange 32 B (side_of up x)

pub traced_keeps : (up : Bool) → Keeps (traced up 32) TracedIn
unfolding traced rounded rounding
traced_keeps up = let k = in_range up in record {
  more = λ l h. k.more l h;
  fraction = λ n d nl dl dp. k.fraction n d nl dl dp;
  sum = λ h j. k.sum h j;
  product = λ h j. k.product h j;
  quotient = λ m p l h. k.quotient m p l h;
  half = λ h. k.half h;
}

-- what holds on the lower side and on the upper side holds in both directions
pub by_side : (P : Bool → Type 0) → P false → P true → (up : Bool) → P up
by_side P l u false = l
by_side P l u true = u

pub both_keeps : Keeps both PairIn
unfolding both
both_keeps = let k = in_range false in let j = in_range true in record {
  more = λ l h up. (in_range up).more l (h up);
  fraction = λ n d nl dl dp. by_side _ (k.fraction n d nl dl dp) (j.fraction n d nl dl dp);
  sum = λ g h. by_side _ (k.sum (g false) (h false)) (j.sum (g true) (h true));
  product = λ g h. by_side _ (k.product (g false) (h false)) (j.product (g true) (h true));
  quotient = λ m p l h. by_side _ (k.quotient m p l (h false)) (j.quotient m p l (h true));
  half = λ h. by_side _ (k.half (h false)) (j.half (h true));
}
