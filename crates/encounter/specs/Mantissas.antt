-- The division of a mantissa by a whole number, of which request #107 of document 02 makes the division of a scaled number (crate division).
use Rattle.std.specs.Prelude.{Bool, cond, ◌||◌, ℕ, ◌^◌, ltb, eqb, pos}
use Rattle.exact.specs.declared.Scaled.{Scaled}
use Rattle.exact.specs.Fraction.{◌÷◌}
use Rattle.exact.specs.Scaled.{scaled, nought, value}
use Rattle.exact.specs.Private.Round.{round}

-- D or U of m/k, for a mantissa m of 32 bits and a k that is not 0; zero for every other m and k
unfoldable pub mantissa_over : Bool → (m k : ℕ) → Scaled
mantissa_over up m k = cond (eqb k 0 || ltb m (2 ^ 31)) nought (round up 32 (value (scaled m (pos 0)) ÷ k))
