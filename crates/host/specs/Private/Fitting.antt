-- Premises of the private functions: exponents that a double has room for. proofs/Fitting.antt proves them of every answer of a read.
use Rattle.std.specs.Prelude.{◌≡◌, false, ℕ}
use Rattle.exact.specs.declared.Scaled.{Scaled}
use Rattle.exact.specs.Fraction.{whole, at_most}
use Rattle.exact.specs.Scaled.{value, IsScaled}
use Rattle.exact.specs.Private.Ranges.{InRange}

-- a scaled number of 32 bits with e from −960 to 960 is a double (so is each with e from −1074 to 992; put together as in src/double.rt, from −1053 on)
abbrev pub double_range : ℕ
double_range = 960

-- the ends of a read: the upper end's exponent matters only below 1
pub record EndsFit (lower upper : Scaled) : Type 0 where
  pub lower_fits : InRange 32 double_range lower
  pub upper_form : IsScaled 32 upper
  pub upper_fits : at_most (whole 1) (value upper) ≡ false → InRange 32 double_range upper
