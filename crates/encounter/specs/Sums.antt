-- The sum of two scaled numbers and the greater of them, of which request #111 of document 02 makes the ends of a week (crate week).
use Rattle.std.specs.Prelude.{Bool, not, cond, ◌&&◌, ◌^◌, ltb, nat_abs}
use Rattle.exact.specs.declared.Scaled.{Scaled}
use Rattle.exact.specs.Fraction.{◌⊕◌, at_most}
use Rattle.exact.specs.Scaled.{nought, value}
use Rattle.exact.specs.Private.Round.{round}
use Rattle.exact.specs.Refusals.{scaled_form}

-- a scaled number with e from −2^28 to 2^28
unfoldable pub in_limits : Scaled → Bool
in_limits x = not (ltb (2 ^ 28) (nat_abs x.e)) && scaled_form x

-- D or U of x + y, for two such numbers; zero for all others
unfoldable pub sum_in_limits : Bool → (x y : Scaled) → Scaled
sum_in_limits up x y = cond (in_limits x && in_limits y) (round up 32 (value x ⊕ value y)) nought

-- the greater of x and y
unfoldable pub greater : (x y : Scaled) → Scaled
greater x y = cond (at_most (value x) (value y)) y x

-- the same, for two such numbers; zero for all others
unfoldable pub greater_in_limits : (x y : Scaled) → Scaled
greater_in_limits x y = cond (in_limits x && in_limits y) (greater x y) nought
