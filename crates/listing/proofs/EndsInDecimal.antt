-- Request #103: the text of a decimal.
use mathlib.Core.Bool.{Bool}
use mathlib.Core.Path.{◌≡◌, refl}
use lib.ListN.{length}
use Rattle.exact.specs.declared.Scaled.{Scaled}
use Rattle.exact.specs.Decimals.{decimal_of}
use Rattle.listing.specs.Line.{decimal_text}

-- its length, whatever the decimal
pub nine : (up : Bool) (x : Scaled) → length (decimal_text (decimal_of up x)) ≡ 9
unfolding decimal_text
nine up x = refl
