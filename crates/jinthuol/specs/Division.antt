-- A quotient as programs in other languages get it: request #107 of document 02.
use Rattle.std.specs.Prelude.{cond, eqb, Result, Ok, Err}
use Rattle.exact.specs.declared.refusals.Refusal.{Refusal}
use Rattle.exact.specs.declared.Scaled.{Scaled}
use Rattle.exact.specs.Kinds.{refusal_in}
use Rattle.division.specs.Division.{quotient_in}
use Rattle.exact.specs.Kinds.{refusal_of}
use Rattle.jinthuol.specs.declared.Divided.{Divided}

-- the refusal's number, or 0; the quotient, which is zero where it is refused
unfoldable pub divided_numbers : Result Scaled Refusal → Divided
divided_numbers d = record { refusal = refusal_in d; quotient = quotient_in d }

-- the case that they tell: no refusal has the number 0
unfoldable pub divided_told : Divided → Result Scaled Refusal
divided_told d = cond (eqb d.refusal 0) (Ok d.quotient) (Err (refusal_of d.refusal))
