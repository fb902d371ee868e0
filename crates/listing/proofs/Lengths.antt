-- How long a line can be, with any numbers that their types can hold.
use Prim.Native.Nat.{ℕ, suc, ◌^◌, ◌≤◌, ◌<◌}
use mathlib.Core.Bool.{Bool, true, false, cond}
use mathlib.Core.List.{List, ◌++◌}
use native.Mathlib.Omega.{arith}
use lib.Dec.{eqb}
use lib.IntN.{ℤ, pos, negsuc}
use lib.ListN.{length, length-append}
use lib.Signed.{mag}
use mir.Val.{Val}
use denote.Laws.{Is}
use denote.Struct.Declared.{row}
use denote.Struct.Laws as laws
use Rattle.exact.specs.declared.Scaled.{Scaled}
use Rattle.exact.specs.contracts.Scaled as S
use Rattle.exact.proofs.Scaled.TheLaws as S'
use Rattle.encounter.specs.declared.state.Class.{Class}
use Rattle.encounter.specs.declared.state.Class.TheVariants.{Clear, Alert, Open}
use Rattle.encounter.specs.declared.state.Answer.{Answer}
use Rattle.encounter.specs.Session.{lower_decimal, upper_decimal}
use Rattle.encounter.specs.contracts.state.Answer as A
use Rattle.encounter.proofs.state.Answer.TheLaws as A'
use Rattle.listing.specs.Line.{ascii, number_text, integer, scaled_text, class_text, ends_and_class, ends_in_decimal, object_and_time, added_fields, read_text, is_begin, taken_text, outcome_text, line, room}
use Rattle.listing.proofs.NumberTexts.{decimal_10, decimal_20}
use Rattle.listing.proofs.EndsInDecimal.{nine}

-- ---- what the types of the numbers say

pub record ScaledRange (x : Scaled) : Type 0 where
  pub m : x.m < 2 ^ 32
  pub e : mag x.e < 2 ^ 31

pub record AnswerRange (a : Answer) : Type 0 where
  pub refusal : a.refusal < 2 ^ 32
  pub N : a.N < 2 ^ 32
  pub lower : ScaledRange a.lower
  pub upper : ScaledRange a.upper
  pub object : a.object < 2 ^ 32
  pub time : a.time < 2 ^ 32
  pub exact : a.exact < 2 ^ 32

scaled_range : (x : Scaled) (vs : List Val) → Is (row S.the_type) x vs → ScaledRange x
scaled_range x vs h = let f = laws.owed S.the_type S'.the_laws x vs h in record { m = f.0.1; e = f.1.0.1 }

pub answer_range : (a : Answer) (vs : List Val) → Is (row A.the_type) a vs → AnswerRange a
answer_range a vs h =
    let f = laws.owed A.the_type A'.the_laws a vs h in
    record {
      refusal = f.0.1;
      N = f.1.0.1;
      lower = scaled_range _ _ f.1.1.0;
      upper = scaled_range _ _ f.1.1.1.0;
      object = f.1.1.1.1.1.0.1;
      time = f.1.1.1.1.1.1.0.1;
      exact = f.1.1.1.1.1.1.1.0.1;
    }

-- ---- the longest texts of the parts, and of a line

integer_11 : (z : ℤ) → mag z < 2 ^ 31 → length (integer z) ≤ 11
unfolding integer
integer_11 (pos n) h = omega (arith, decimal_10 n (omega arith))
integer_11 (negsuc n) h = omega (arith, decimal_10 (suc n) (omega arith))

class_5 : (k : Class) → length (class_text k) ≤ 5
unfolding class_text
class_5 Clear = omega arith
class_5 Alert = omega arith
class_5 Open = omega arith

pub either : {A : Type 0} (P : A → Type 0) (b : Bool) {x y : A} → P x → P y → P (cond b x y)
either P true f g = f
either P false f g = g

module _ (offset kind : ℕ) (a : Answer) (o : offset < 2 ^ 64) (r : AnswerRange a) where
  abbrev Short : List ℕ → Type 0
  Short t = length (number_text offset ++ ascii " " ++ t ++ ascii "\n") ≤ room

  short_read : Short (read_text a)
  unfolding read_text ends_and_class scaled_text added_fields ends_in_decimal lower_decimal upper_decimal object_and_time
  short_read = simp length-append (omega (
    arith,
    decimal_20 offset o,
    decimal_10 a.N r.N,
    decimal_10 a.lower.m r.lower.m,
    integer_11 a.lower.e r.lower.e,
    decimal_10 a.upper.m r.upper.m,
    integer_11 a.upper.e r.upper.e,
    class_5 a.class,
    nine false a.lower,
    nine true a.upper,
    decimal_10 a.object r.object,
    decimal_10 a.time r.time,
    decimal_10 a.exact r.exact,
  ))

  -- the sum of the longest parts is at most the room
  pub line_short : length (line offset kind a) ≤ room
  unfolding line outcome_text taken_text
  line_short =
      either Short (eqb a.refusal 0)
      (either Short (is_begin kind)
      (simp length-append (omega (arith, decimal_20 offset o)))
      (either Short (eqb kind 2)
      (simp length-append (omega (arith, decimal_20 offset o, decimal_10 a.N r.N)))
      short_read))
      (simp length-append (omega (arith, decimal_20 offset o, decimal_10 a.refusal r.refusal)))
