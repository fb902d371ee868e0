-- The numbers of an advised order, a quotient, ends in doubles and a record tell their case; and what the constant 0.0 is.
use mathlib.Core.Path.{◌≡◌, refl, sym, ◌∙◌, ap, subst}
use native.Mathlib.Omega.{arith}
use borrow.Author.Tests.{ne_eqb}
use lib.Ieee.{binary64, of_bits}
use Rattle.std.specs.Prelude.{ℕ, Option, Some, None, Result, Ok, Err}
use Rattle.exact.specs.declared.refusals.Refusal.{Refusal}
use Rattle.exact.specs.declared.Scaled.{Scaled}
use Rattle.exact.specs.Kinds.{number_of}
use Rattle.encounter.specs.declared.state.Session.{Session}
use Rattle.advice.specs.Orders.{Enough}
use Rattle.advice.specs.Advice.{Says as AdviceSays}
use Rattle.advice.proofs.Enough.{not_0}
use Rattle.host.specs.declared.Doubles.{Doubles as WithCases}
use Rattle.host.specs.declared.Doubles.TheVariants.{Both, Unbounded}
use Rattle.host.specs.declared.PlotRecord.{PlotRecord}
use Rattle.host.proofs.Numbers.{refusal_is, number_pos}
use Rattle.jinthuol.specs.Advice.{advice_numbers, told}
use Rattle.jinthuol.specs.Division.{divided_numbers, divided_told}
use Rattle.jinthuol.specs.Doubles.{no_double, doubles_numbers, doubles_told, plotted_numbers, plotted_told}

pub zero_is : of_bits binary64 0 ≡ no_double
unfolding of_bits
zero_is = refl

some : (e : Refusal) → number_of e ≡ 0 → ⊥
some e z = omega (arith, number_pos e, z)

-- ---- each case is told

pub advice_back : (s : Session) (a : Result (Option ℕ) Refusal) → AdviceSays s a → told (advice_numbers a) ≡ a
unfolding advice_numbers told
advice_back s (Ok (Some n)) (i, l, h) = rw (ne_eqb n 0 (λ z. not_0 _ (subst (Enough _) z h.enough)))
advice_back s (Ok None) h = refl
advice_back s (Err e) h = rw (ne_eqb (number_of e) 0 (some e), refusal_is e)

pub divided_back : (d : Result Scaled Refusal) → divided_told (divided_numbers d) ≡ d
unfolding divided_numbers divided_told
divided_back (Ok q) = refl
divided_back (Err e) = rw (ne_eqb (number_of e) 0 (some e), refusal_is e)

pub doubles_back : (d : Result WithCases Refusal) → doubles_told (doubles_numbers d) ≡ d
unfolding doubles_numbers doubles_told
doubles_back (Ok (Both lower upper)) = refl
doubles_back (Ok (Unbounded lower)) = refl
doubles_back (Err e) = rw (refusal_is e)

pub plotted_back : (p : Result (Option PlotRecord) Refusal) → plotted_told (plotted_numbers p) ≡ p
unfolding plotted_numbers plotted_told
plotted_back (Ok (Some p)) = refl
plotted_back (Ok None) = refl
plotted_back (Err e) = rw (refusal_is e)

-- ---- what a call promises of numbers r that are formed of its answer d

module _ {D R : Type 0} (numbers : D → R) (tell : R → D) (Q : D → Type 0) where
  pub tells : {d w : D} {r : R} → tell (numbers d) ≡ d → r ≡ numbers d → (d ≡ w) × Q d → (r ≡ numbers w) × (tell r ≡ w) × Q (tell r)
  tells back e (f, h) = (e ∙ ap numbers f, ap tell e ∙ back ∙ f, subst Q (sym (ap tell e ∙ back)) h)
