-- Every exponent that the steps reach: at index n within 700n + 400, so far inside an i32 for every accepted encounter and every order to the largest.
use mathlib.Core.Bool.{Bool, true}
use mathlib.Core.Logic.{inr}
use lib.Dec.{lit<, lit≤}
use Rattle.exact.specs.declared.Encounter.{Encounter}
use Rattle.exact.specs.Scaled.{one}
use Rattle.exact.specs.Private.Ranges.{InRange, Bounds}
use Rattle.exact.specs.Private.Round.{round}
use Rattle.exact.specs.Series.{u, b, zx, zy, g}
use Rattle.exact.specs.Arithmetic.{rounded}
use Rattle.exact.specs.Steps.{side_letters, M}
use Rattle.exact.proofs.Ranges.{widen, product_range, sum_range, over_range, ratio_range, half_range}
use Rattle.exact.proofs.Growth.{Keeps, all_fractions, letters_in, bound_in}

-- ranges are kept
pub in_range : (up : Bool) → Keeps (rounded up 32) (InRange 32)
unfolding rounded
in_range up = record {
  more = λ l h. widen l h;
  fraction = λ n d nl dl dp. ratio_range up 32 (lit< tt) 48 n d nl dl dp;
  sum = λ h k. sum_range up 32 (lit< tt) h k;
  product = λ h k. product_range up 32 (lit< tt) h k;
  quotient = λ k p l h. over_range up 32 (lit< tt) k p l h;
  half = λ h. half_range h;
}

pub one_in : InRange 32 400 one
one_in = record { is_scaled = inr (record { low = lit≤ tt; high = lit< tt }); above = lit≤ tt; below = lit≤ tt }

-- the fractions of which an accepted encounter's letters are formed
pub fractions_in : (up : Bool) {E : Encounter} → Bounds E → (InRange 32 177 (round up 32 (u E))) × (InRange 32 177 (round up 32 (b E))) × (InRange 32 177 (round up 32 (zx E))) × (InRange 32 177 (round up 32 (zy E))) × (InRange 32 177 (round up 32 (g E)))
unfolding rounded
fractions_in up f = all_fractions (in_range up) f

-- M of an encounter that tests 3 to 6 pass
pub M_in : {E : Encounter} → Bounds E → InRange 32 400 (M E)
unfolding M side_letters
M_in f = bound_in (in_range true) _ (letters_in (in_range true) f)
