-- What the call answers, in its three cases, and what is promised of it.
use mathlib.Core.Path.{◌≡◌, sym, ◌∙◌, ap}
use mathlib.Core.Bool.{Bool, true, false}
use mathlib.Core.Logic.{⊎_elim}
use Prim.Native.Nat.{ℕ, ◌^◌, ◌<◌}
use native.Mathlib.Omega.{arith}
use lib.Dec.{lit<}
use lib.IntN.{ℤ, pos, ◌+ℤ◌}
use lib.Signed.{mag}
use mir.Syntax.{w32}
use mir.Facts.{to_z-of_z}
use mir.Val.{SFits, to_z, of_z}
use borrow.Author.Tests.{ne_eqb, le-ltb}
use Rattle.std.specs.Prelude.{Result, Ok, Err}
use Rattle.exact.specs.declared.refusals.Refusal.{Refusal}
use Rattle.exact.specs.declared.refusals.Refusal.TheVariants.{Quotient}
use Rattle.exact.specs.declared.Scaled.{Scaled}
use Rattle.exact.specs.Fraction.{◌÷◌}
use Rattle.exact.specs.Scaled.{scaled, nought, value, Normal}
use Rattle.exact.specs.Private.Round.{round}
use Rattle.exact.specs.Refusals.{refuses_10}
use Rattle.exact.proofs.Signed.{back}
use Rattle.exact.proofs.Rounding.{round_is}
use Rattle.exact.proofs.Operations.{over_none}
use Rattle.exact.proofs.Form.{form_is, form_of}
use Rattle.encounter.specs.Mantissas.{mantissa_over}
use Rattle.division.specs.Division.{divided, Says}
use Rattle.division.specs.Claims.{Claims}
use Rattle.division.proofs.Refusing.{passed_is}
use Rattle.division.proofs.Moving.{moved, moves, still_fits}
use Rattle.division.proofs.Never.{never_met}
use Rattle.division.proofs.Ends.{divides_ends}

pub claims : Claims
claims = record { form = λ x. (form_is x, form_of x); never_met = never_met; ends = λ r k p. divides_ends r k p }

module _ (up : Bool) (x : Scaled) (k : ℕ) where
  pub refusing : refuses_10 x k ≡ true → Err Quotient ≡ divided up x k
  unfolding divided
  refusing h = rw h

  answering : (q : Scaled) → refuses_10 x k ≡ false → q ≡ round up 32 (value x ÷ k) → Ok q ≡ divided up x k
  unfolding divided
  answering q h e = rw (h, e)

  pub answer_zero : refuses_10 x k ≡ false → x.m ≡ 0 → Ok nought ≡ divided up x k
  answer_zero h z = answering nought h (sym (over_none up 32 x k z))

  pub says : (r : Result Scaled Refusal) → r ≡ divided up x k → Says up x k r
  unfolding divided
  says r e = record {
    refused = λ t. e ∙ rw t;
    answered = λ f. rw (e, f) (round_is up 32 (value x ÷ k) (lit< tt));
  }

  -- of a number that is not zero, by the quotient q of its mantissa, with exponents as the code has them
  module _ (h : refuses_10 x k ≡ false) (some : x.m ≡ 0 → ⊥) (kl : k < 2 ^ 32) (q : Scaled) (e : q ≡ mantissa_over up x.m k) (f : mag x.e < 2 ^ 31) (g : mag q.e < 2 ^ 31) where
    normal : Normal 32 x
    normal = ⊎_elim (λ z. absurd (some (ap (λ (y : Scaled). y.m) z))) (λ n. n) (passed_is x k h).form

    positive : 0 < k
    positive = let p = (passed_is x k h).some in omega (arith, p)

    mantissa_is : q ≡ round up 32 (value (scaled x.m (pos 0)) ÷ k)
    unfolding mantissa_over
    mantissa_is = e ∙ rw (ne_eqb k 0 (passed_is x k h).some, le-ltb x.m (2 ^ 31) (omega (arith, normal.low)))

    pub quotient_fits : SFits w32 x.e → SFits w32 (x.e +ℤ q.e)
    quotient_fits t = rw mantissa_is (still_fits up x k normal positive (omega (arith, kl)) t (passed_is x k h).high)

    fits : SFits w32 (x.e +ℤ q.e)
    fits = quotient_fits (record { sfits = f })

    coded : ℤ
    coded = to_z w32 (of_z w32 x.e) +ℤ to_z w32 (of_z w32 q.e)

    coded_is : coded ≡ x.e +ℤ q.e
    unfolding coded
    coded_is = rw (back x.e f, back q.e g)

    pub sum_fits : SFits w32 (to_z w32 (of_z w32 x.e) +ℤ to_z w32 (of_z w32 q.e))
    unfolding coded
    sum_fits = rw coded_is fits

    pub answer_normal : Ok (scaled q.m (to_z w32 (of_z w32 (to_z w32 (of_z w32 x.e) +ℤ to_z w32 (of_z w32 q.e))))) ≡ divided up x k
    unfolding coded
    answer_normal =
        rw (coded_is, to_z-of_z {w = w32} fits)
        (answering (moved x.e q) h (ap (moved x.e) mantissa_is ∙ sym (moves up x k normal positive (omega (arith, kl)))))
