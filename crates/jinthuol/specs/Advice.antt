-- An advised order as programs in other languages get it: request #106 of document 02.
use Rattle.std.specs.Prelude.{cond, ℕ, eqb, Option, Some, None, Result, Ok, Err}
use Rattle.exact.specs.declared.refusals.Refusal.{Refusal}
use Rattle.exact.specs.Kinds.{number_of}
use Rattle.exact.specs.Kinds.{refusal_of}
use Rattle.jinthuol.specs.declared.Advice.{Advice}

-- the refusal's number, or 0; the order, or 0 where there is none
unfoldable pub advice_numbers : Result (Option ℕ) Refusal → Advice
advice_numbers (Ok (Some N)) = record { refusal = 0; order = N }
advice_numbers (Ok None) = record { refusal = 0; order = 0 }
advice_numbers (Err e) = record { refusal = number_of e; order = 0 }

-- the case that two such numbers tell: no advised order is 0, and no refusal has the number 0
unfoldable pub told : Advice → Result (Option ℕ) Refusal
told r = cond (eqb r.refusal 0) (Ok (cond (eqb r.order 0) None (Some r.order))) (Err (refusal_of r.refusal))
