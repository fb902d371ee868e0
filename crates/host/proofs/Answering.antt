-- What the host is answered, by cases, and what each case says of the read's answer.
use mathlib.Core.Path.{◌≡◌, refl, sym, ◌∙◌, subst}
use mathlib.Core.Bool.{Bool, true, false, cond}
use mathlib.Core.Logic.{inl, inr}
use Prim.Native.Nat.{◌+◌, ◌-◌}
use native.Mathlib.Nat.{sub-add_cancel, le_trans}
use native.Mathlib.Omega.{arith}
use borrow.Author.Tests.{eq-eqb, ne_eqb}
use lib.Ieee.{Float}
use Rattle.std.specs.Prelude.{Ok, Err}
use Rattle.exact.specs.declared.refusals.Refusal.{Refusal}
use Rattle.exact.specs.Kinds.{number_of}
use Rattle.exact.specs.declared.Scaled.{Scaled}
use Rattle.exact.specs.Integer.{pos_part, neg_part}
use Rattle.exact.specs.Fraction.{whole, at_most, above}
use Rattle.exact.specs.Scaled.{value, IsScaled}
use Rattle.exact.specs.Private.Ranges.{InRange}
use Rattle.exact.proofs.Order.{at_most_holds}
use Rattle.encounter.specs.declared.state.Answer.{Answer}
use Rattle.encounter.specs.declared.state.Reading.{Reading}
use Rattle.encounter.specs.Session.{answer_of, refused}
use Rattle.host.specs.declared.Doubles.{Doubles}
use Rattle.host.specs.declared.Doubles.TheVariants.{Both, Unbounded}
use Rattle.host.specs.Doubles.{Worth, as_double, in_doubles, Says}
use Rattle.host.specs.Private.Fitting.{double_range, EndsFit}
use Rattle.host.proofs.Numbers.{refusal_is, number_pos}
use Rattle.host.proofs.Exactly.{zero_worth, worth}

-- ---- the cases, as code takes them

module _ (r : Reading) {lower : Float} (l : lower ≡ as_double r.lower) {t : Bool} (is : t ≡ at_most (whole 1) (value r.upper)) where
  pub unbounded : t ≡ true → Ok (Unbounded lower) ≡ in_doubles (answer_of (Ok r))
  unfolding in_doubles
  unbounded h = rw (sym is ∙ h, l)

  pub both : {upper : Float} → upper ≡ as_double r.upper → t ≡ false → Ok (Both lower upper) ≡ in_doubles (answer_of (Ok r))
  unfolding in_doubles
  both u h = rw (sym is ∙ h, l, u)

pub refused_ends : (e : Refusal) → Err e ≡ in_doubles (refused (number_of e))
unfolding in_doubles
refused_ends e = rw (ne_eqb (number_of e) 0 (λ z. omega (arith, number_pos e, z)), refusal_is e)

-- ---- what they say

-- "Each double equals its scaled number exactly."
pub exactly : (x : Scaled) → InRange 32 double_range x → Worth (as_double x) (value x)
exactly x h = go h.is_scaled
  where
    go : IsScaled 32 x → Worth (as_double x) (value x)
    go (inl z) = zero_worth z
    go (inr n) = worth x (pos_part x.e + 1053 - neg_part x.e) n h.above (sub-add_cancel (le_trans h.below (omega arith)))

pub says_refused : (e : Refusal) → Says (refused (number_of e)) (in_doubles (refused (number_of e)))
says_refused e = rw (← refused_ends e) (record { number = refl; some = number_pos e })

pub says_accepted : (a : Answer) → a.refusal ≡ 0 → EndsFit a.lower a.upper → Says a (in_doubles a)
says_accepted a z f = subst (Says a) (sym by_ends) (go (at_most (whole 1) (value a.upper)) refl)
  where
    ends : Bool → Doubles
    ends t = cond t (Unbounded (as_double a.lower)) (Both (as_double a.lower) (as_double a.upper))

    by_ends : in_doubles a ≡ Ok (ends (at_most (whole 1) (value a.upper)))
    by_ends = unfold in_doubles in rw (eq-eqb a.refusal 0 z)

    go : (t : Bool) → at_most (whole 1) (value a.upper) ≡ t → Says a (Ok (ends t))
    go true e = record { accepted = z; one_or_more = at_most_holds _ _ e; lower_is = exactly _ f.lower_fits }
    go false e = record { accepted = z; below_1 = unfold above in rw e; lower_is = exactly _ f.lower_fits; upper_is = exactly _ (f.upper_fits e) }

pub upper_in : (lower upper : Scaled) (t : Bool) → EndsFit lower upper → t ≡ at_most (whole 1) (value upper) → t ≡ false → InRange 32 double_range upper
upper_in l u t f is h = f.upper_fits (sym is ∙ h)
