-- Request #108 of document 02, 'Doubles for the host': what the host is answered of a session.
use Rattle.std.specs.Prelude.{◌≡◌, true, false, cond, ℕ, ◌<◌, eqb, Float, Result, Ok, Err}
use Rattle.exact.specs.declared.refusals.Refusal.{Refusal}
use Rattle.exact.specs.Kinds.{number_of}
use Rattle.std.specs.Float.{binary64}
use Rattle.std.specs.Float.Ieee.{round}
use Rattle.std.specs.Float.Ieee.Exact.{HasValue}
use Rattle.exact.specs.declared.Scaled.{Scaled}
use Rattle.exact.specs.Fraction.{Frac, whole, ◌≼◌, at_most, above}
use Rattle.exact.specs.Scaled.{value}
use Rattle.encounter.specs.declared.state.Session.{Session}
use Rattle.encounter.specs.declared.state.Answer.{Answer}
use Rattle.encounter.specs.Calls.{reads, call}
use Rattle.host.specs.declared.Doubles.{Doubles}
use Rattle.host.specs.declared.Doubles.TheVariants.{Both, Unbounded}
use Rattle.exact.specs.Kinds.{refusal_of}

-- the double d is finite, not negative, and exactly q
abbrev pub Worth : Float → Frac → Type 0
Worth d q = HasValue d false q.num q.den

-- the double nearest to x. "Each double equals its scaled number exactly": `Says` has this of every end that is answered
unfoldable pub as_double : Scaled → Float
as_double x = round binary64 false (value x).num (value x).den

-- "Answer either both ends or, where the upper end is 1 or more, `unbounded` with the lower end alone." "[It] refuses as a read does, with no double in the answer."
unfoldable pub in_doubles : Answer → Result Doubles Refusal
in_doubles a =
    cond (eqb a.refusal 0)
    (Ok (cond (at_most (whole 1) (value a.upper)) (Unbounded (as_double a.lower)) (Both (as_double a.lower) (as_double a.upper))))
    (Err (refusal_of a.refusal))

-- "The host call works on a session"
unfoldable pub doubles : Session → Result Doubles Refusal
doubles s = in_doubles (call reads s).answer

-- ---- what each case says of the read's answer

pub record BothEnds (a : Answer) (lower upper : Float) : Type 0 where
  pub accepted : a.refusal ≡ 0
  pub below_1 : above (whole 1) (value a.upper) ≡ true
  pub lower_is : Worth lower (value a.lower)
  pub upper_is : Worth upper (value a.upper)

pub record LowerEnd (a : Answer) (lower : Float) : Type 0 where
  pub accepted : a.refusal ≡ 0
  pub one_or_more : whole 1 ≼ value a.upper
  pub lower_is : Worth lower (value a.lower)

pub record NoEnd (a : Answer) (r : ℕ) : Type 0 where
  pub number : a.refusal ≡ r
  pub some : 0 < r

abbrev pub Says : Answer → Result Doubles Refusal → Type 0
Says a (Ok (Both lower upper)) = BothEnds a lower upper
Says a (Ok (Unbounded lower)) = LowerEnd a lower
Says a (Err e) = NoEnd a (number_of e)
