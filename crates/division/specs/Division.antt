-- Request #107 of document 02, 'Division for everyone': what the call answers.
use Rattle.std.specs.Prelude.{◌≡◌, Bool, true, false, cond, ℕ, Result, Ok, Err, IsOkAnd}
use Rattle.exact.specs.declared.refusals.Refusal.{Refusal}
use Rattle.exact.specs.declared.refusals.Refusal.TheVariants.{Quotient}
use Rattle.exact.specs.declared.Scaled.{Scaled}
use Rattle.exact.specs.Fraction.{◌÷◌}
use Rattle.exact.specs.Scaled.{nought, value, IsRound}
use Rattle.exact.specs.Private.Round.{round}
use Rattle.exact.specs.Refusals.{refuses_10}

-- "With an unsigned 32-bit divisor it answers D or U of the exact quotient, as asked. It refuses, as 10 [..], .." (test 10 is in exact/specs/Refusals.antt; `Quotient` is
-- refusal 10)
unfoldable pub divided : Bool → Scaled → ℕ → Result Scaled Refusal
divided up x divisor = cond (refuses_10 x divisor) (Err Quotient) (Ok (round up 32 (value x ÷ divisor)))

-- ".. and with zero as the result": the quotient that is in such an answer
abbrev pub quotient_in : Result Scaled Refusal → Scaled
quotient_in (Ok q) = q
quotient_in (Err e) = nought

-- the same of an answer r, by the predicate of document 01: "D(q) is the greatest scaled number not above [..] q. U(q) is the least one not below it."
pub record Says (up : Bool) (x : Scaled) (divisor : ℕ) (r : Result Scaled Refusal) : Type 0 where
  pub refused : refuses_10 x divisor ≡ true → r ≡ Err Quotient
  pub answered : refuses_10 x divisor ≡ false → IsOkAnd r (IsRound up 32 (value x ÷ divisor))
