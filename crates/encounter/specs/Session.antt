-- Document 01, 'Script records': the session, empty and after a begin, and what is answered; the class by request #101 of document 02, the decimals by #103, object and
-- time by #104, the count of exact terms by #105.
use Rattle.std.specs.Prelude.{Bool, true, false, cond, not, ◌&&◌, ℕ, pred, pos, Result, Ok, Err}
use Rattle.exact.specs.declared.refusals.Refusal.{Refusal}
use Rattle.exact.specs.declared.Encounter.{Encounter}
use Rattle.exact.specs.declared.Conjunction.{Conjunction}
use Rattle.exact.specs.declared.Scaled.{Scaled}
use Rattle.exact.specs.declared.Decimal.{Decimal}
use Rattle.exact.specs.Scaled.{nought, value}
use Rattle.exact.specs.Decimals.{decimal_of}
use Rattle.exact.specs.Kinds.{number_of}
use Rattle.exact.specs.Losses.{exact_terms, lossless}
use Rattle.exact.specs.Steps.{side_letters, side_terms, exponential_sum, r256, M, d, lower_end, upper_end, alert, clear}
use Rattle.encounter.specs.declared.state.Side.{Side}
use Rattle.encounter.specs.declared.state.Session.{Session}
use Rattle.encounter.specs.declared.state.Class.{Class}
use Rattle.encounter.specs.declared.state.Class.TheVariants.{Clear, Alert, Open}
use Rattle.encounter.specs.declared.state.Answer.{Answer}
use Rattle.encounter.specs.declared.state.Reading.{Reading}

-- ---- the session

-- "It starts empty, with zero in every field."
abbrev no_side : Side
no_side = record {
  letters = record { u = nought; h = nought; X = nought; Y = nought; t = nought };
  exponential = nought;
  terms = record { c = nought; p = nought; v = nought; y = nought; sum = nought };
}

abbrev pub empty : Session
empty = record {
  encounter = record { R = 0; sx = 0; sy = 0; xm = pos 0; ym = pos 0 };
  object = 0;
  time = 0;
  N = 0;
  lower = no_side;
  upper = no_side;
  r256 = nought;
  M = nought;
  d = nought;
  exact = 0;
  lossless = 0;
}

-- "each side's rounded u, h, X, Y and t, both exponential sums", and "each side's sum of c(0) to c(N−1), with c, p, v and y at N−1"
unfoldable pub side : Bool → Encounter → ℕ → Side
side up E N =
    let l = side_letters up E in
    let s = side_terms up E (pred N) in
    record {
      letters = record { u = l.u; h = l.h; X = l.X; Y = l.Y; t = l.t };
      exponential = exponential_sum up E;
      terms = record { c = s.c; p = s.p; v = s.v; y = s.y; sum = s.sum };
    }

-- the session of a conjunction at order N: "After each accepted record all of these are the steps' numbers for the new N."; request #104: "The session keeps both"; and
-- what the count of request #105 needs: the count at N, and 1 where nothing was lost on the way to what the next term is formed of, else 0
unfoldable pub state : Conjunction → ℕ → Session
state C N =
    let E = C.encounter in
    record {
      encounter = E;
      object = C.object;
      time = C.time;
      N = N;
      lower = side false E N;
      upper = side true E N;
      r256 = r256 E;
      M = M E;
      d = d E N;
      exact = exact_terms E N;
      lossless = cond (lossless E N) 1 0;
    }

-- request #104: "After a kind 1 begin both are 0."
abbrev pub no_object : Encounter → Conjunction
no_object E = record { encounter = E; object = 0; time = 0 }

-- the conjunction that a session's fields tell
abbrev pub conjunction_of : Session → Conjunction
conjunction_of s = record { encounter = s.encounter; object = s.object; time = s.time }

-- ---- the answers

-- "A refusal answers its number, with zero in every other field of the answer (class `clear`)"
abbrev pub refused : ℕ → Answer
refused r = record { refusal = r; N = 0; lower = nought; upper = nought; class = Clear; object = 0; time = 0; exact = 0 }

-- An accepted begin or add answers the order after it. The paper leaves its other fields free: they are those of a refusal.
abbrev pub counted : ℕ → Answer
counted N = record { refusal = 0; N = N; lower = nought; upper = nought; class = Clear; object = 0; time = 0; exact = 0 }

-- the answer of a read, where code has what it reads or why it is refused
abbrev pub answer_of : Result Reading Refusal → Answer
answer_of (Ok x) =
    record {
      refusal = 0;
      N = x.N;
      lower = x.lower;
      upper = x.upper;
      class = x.class;
      object = x.object;
      time = x.time;
      exact = x.exact;
    }
answer_of (Err e) = refused (number_of e)

-- Request #101, for each class whether two ends fall under it: "Alert remains where the lower end × 10,000 ≥ 1. Clear now needs the upper end × 10,000 below 1.
-- Anything between is `open`"
unfoldable pub falls_under : (lower upper : Scaled) → Class → Bool
falls_under lower upper Alert = alert (value lower)
falls_under lower upper Clear = clear (value upper)
falls_under lower upper Open = not (alert (value lower)) && not (clear (value upper))

-- the class of two ends: the first of these that they fall under. The ends of an accepted read fall under no other (claim `classes`)
unfoldable pub class_of : (lower upper : Scaled) → Class
class_of lower upper = cond (falls_under lower upper Alert) Alert (cond (falls_under lower upper Clear) Clear Open)

-- request #103: both ends of an answer in decimal
unfoldable pub lower_decimal : Answer → Decimal
lower_decimal a = decimal_of false a.lower

unfoldable pub upper_decimal : Answer → Decimal
upper_decimal a = decimal_of true a.upper

-- an accepted read: both ends at order N and their class; request #104: "a read answers both", object and time; request #105: "A read then answers the count of
-- leading terms, of the N summed, on whose way, on either side, nothing was lost."
unfoldable pub bracket : Conjunction → ℕ → Answer
bracket C N =
    let lower = lower_end C.encounter N in
    let upper = upper_end C.encounter N in
    record {
      refusal = 0;
      N = N;
      lower = lower;
      upper = upper;
      class = class_of lower upper;
      object = C.object;
      time = C.time;
      exact = exact_terms C.encounter N;
    }
