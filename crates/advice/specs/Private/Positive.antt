-- The premise of the private functions: a scaled number above 0 whose exponent is far from the ends of its type. The M of every accepted encounter is one.
use Rattle.std.specs.Prelude.{◌<◌}
use Rattle.exact.specs.declared.Scaled.{Scaled}
use Rattle.exact.specs.Private.Ranges.{InRange}

pub record Positive (x : Scaled) : Type 0 where
  pub range : InRange 32 400 x
  pub above_0 : 0 < x.m
