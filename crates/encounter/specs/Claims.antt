-- What a reader relies on beyond the contracts: one record of statements, each proved. `Session::empty` promises it, so the crate is taken only where all of it is
-- proved.
use Rattle.std.specs.Prelude.{◌≡◌, Bool, true, false, ℕ, suc, ◌+◌, ◌-◌, ◌*◌, ◌≤◌, ◌<◌, pos, ◌-ℤ◌}
use Rattle.exact.specs.declared.Encounter.{Encounter}
use Rattle.exact.specs.declared.Conjunction.{Conjunction}
use Rattle.exact.specs.declared.Scaled.{Scaled}
use Rattle.exact.specs.declared.Traced.{Traced}
use Rattle.exact.specs.Fraction.{Frac, ◌≼◌, ◌≈◌, ◌⊗◌, ◌÷◌, whole, sum}
use Rattle.exact.specs.Numbers.{exponential_cut, largest_order}
use Rattle.exact.specs.Private.Round.{round}
use Rattle.exact.specs.Scaled.{IsRound, value, half, double, lost}
use Rattle.exact.specs.Losses.{traced_letters, traced_terms, letter_numbers, term_numbers, term_lost, either_lost}
use Rattle.exact.specs.Series.{mirrored, u, g, h, X, Y, t, F, a₀, a, c, series, exponential, quotient}
use Rattle.exact.specs.Arithmetic.{unrounded, traced}
use Rattle.exact.specs.Steps.{letters, terms, powers, bound, side_letters, side_terms, alert, clear}
use Rattle.exact.specs.declared.Decimal.{Decimal}
use Rattle.exact.specs.Decimals.{Printed, Found, Near}
use Rattle.encounter.specs.declared.state.Session.{Session}
use Rattle.encounter.specs.declared.state.Answer.{Answer}
use Rattle.encounter.specs.declared.state.Class.{Class}
use Rattle.encounter.specs.declared.state.Class.TheVariants.{Clear, Alert}
use Rattle.encounter.specs.Session.{state, conjunction_of, falls_under, lower_decimal, upper_decimal}
use Rattle.encounter.specs.Calls.{begins, begins_conjunction, adds, reads, call, Reached}
use Rattle.encounter.specs.Stars.{stars, All}

-- "Document 001, section III, in these scaled letters": the rounded steps, with no rounding, are the exact series
pub record Unrounded (E : Encounter) : Type 0 where
  pub letters_are : letters unrounded E ≡ record { u = u E; h = h E; X = X E; Y = Y E; t = t E }
  pub terms_are : (n : ℕ) → (terms unrounded (letters unrounded E) (a₀ E) n).c ≈ c E n
  pub sums_are : (n : ℕ) → (terms unrounded (letters unrounded E) (a₀ E) n).sum ≈ series E (suc n)
  pub exponentials_are : (k : ℕ) → (powers unrounded (whole 1) (t E) k).sum ≈ exponential E (suc k)
  -- M is F(0)
  pub bound_is : bound unrounded (letters unrounded E) ≈ F E 0

-- a conjunction with the miss xm on the other side
abbrev pub mirrored_conjunction : Conjunction → Conjunction
mirrored_conjunction C = record { encounter = mirrored C.encounter; object = C.object; time = C.time }

-- a session from these calls, on which a read is accepted
pub record Readable (s : Session) : Type 0 where
  pub reached : Reached s
  pub accepted : (call reads s).answer.refusal ≡ 0

-- request #109: on from the session s, `count` terms lead to an order up to the largest at which a read is accepted, of the same encounter, object number and time. At
-- the largest order the count is 0: the add is refused as 12, and the session stays
pub record ReadLater (s : Session) : Type 0 where
  pub count : ℕ
  pub in_limit : s.N + count ≤ largest_order
  pub order : (call (adds count) s).session.N ≡ s.N + count
  pub same : conjunction_of (call (adds count) s).session ≡ conjunction_of s
  pub readable : Readable (call (adds count) s).session

-- request #109: at each order up to the largest a read of the encounter is refused as 23, whatever its object number and its time
abbrev pub NeverRead : Encounter → Type 0
NeverRead E = (C : Conjunction) → C.encounter ≡ E → (N : ℕ) → 1 ≤ N → N ≤ largest_order → (call reads (state C N)).answer.refusal ≡ 23

-- two such sessions, of one encounter
pub record OneEncounter (s s' : Session) : Type 0 where
  pub first : Readable s
  pub second : Readable s'
  pub same : s.encounter ≡ s'.encounter

-- request #101, of the answer a of an accepted read, where the encounter and the order are E and N
pub record Classed (E : Encounter) (N : ℕ) (a : Answer) : Type 0 where
  -- the ends fall under the answered class, and under no other
  pub its_own : falls_under a.lower a.upper a.class ≡ true
  pub no_other : (k : Class) → falls_under a.lower a.upper k ≡ true → k ≡ a.class
  -- alert and clear never both hold
  pub never_both : alert (value a.lower) ≡ true → clear (value a.upper) ≡ false
  -- "clear only if it is clear at its worst": at whatever later point the two exact sums are cut, their quotient is what the class says
  pub quotient_alert : a.class ≡ Alert → (N' K : ℕ) → N ≤ N' → exponential_cut ≤ K → alert (quotient E N' K) ≡ true
  pub quotient_clear : a.class ≡ Clear → (N' K : ℕ) → N ≤ N' → exponential_cut ≤ K → clear (quotient E N' K) ≡ true

-- request #103, of an end x of an accepted read and its decimal d
pub record PrintedEnd (up : Bool) (x : Scaled) (d : Decimal) : Type 0 where
  -- where x is below 1, a k up to 46 exists
  pub found : Found up x
  -- d is not above x (lower), or not below it while x is below 1 (upper)
  pub printed : Printed up x d
  -- d has four significant digits and, where x is below 1, is off by at most two in the last
  pub near : Near x d

-- request #105, of the count k that a read at order N answers
pub record CountedTerms (E : Encounter) (N k : ℕ) : Type 0 where
  pub at_most : k ≤ N
  -- on the way of each term counted nothing was lost, so on both sides it is the exact series' own
  pub nothing_lost : (n : ℕ) → n < k → either_lost E n ≡ false
  pub exact : (n : ℕ) → n < k → (up : Bool) → value (side_terms up E n).c ≈ c E n
  -- on the way of each other term something was lost
  pub others_lost : (n : ℕ) → k ≤ n → n < N → either_lost E n ≡ true

-- request #105, on one side: "everything built on rounding must pass that on", so what was lost on the way to an operand was lost on the result's, whatever the other
-- operand: "also one that a zero factor hides"
pub record PassesOn (up : Bool) : Type 0 where
  pub sum : (x y : Traced) → ((traced up 32).sum x y).lost ≡ false → (x.lost ≡ false) × (y.lost ≡ false)
  pub product : (x y : Traced) → ((traced up 32).product x y).lost ≡ false → (x.lost ≡ false) × (y.lost ≡ false)
  pub quotient : (x : Traced) (k : ℕ) → ((traced up 32).quotient x k).lost ≡ false → x.lost ≡ false
  pub half : (x : Traced) → ((traced up 32).half x).lost ≡ false → x.lost ≡ false

pub record Claims : Type 0 where
  -- "D(q) is the greatest scaled number not above [..] q. U(q) is the least one not below it": round computes them, and there is no other
  pub rounding : (up : Bool) (bits : ℕ) (q : Frac) → 0 < bits → IsRound up bits q (round up bits q) × ((x : Scaled) → IsRound up bits q x → x ≡ round up bits q)
  -- "Halving and doubling are exact."
  pub halving : (x : Scaled) → value (half x) ≈ value x ÷ 2
  pub doubling : (x : Scaled) → value (double x) ≈ whole 2 ⊗ value x
  -- "a(n+1) = (F(0)a(n) + .. + F(n)a(0))/(n+1)"
  pub recurrence : (E : Encounter) (n : ℕ) → a E (suc n) ≈ sum (λ k. F E k ⊗ a E (n - k)) (suc n) ÷ suc n
  -- "signed where something is subtracted": g's numerator is the integer sx² − sy²
  pub g_sign : (E : Encounter) → E.sy ≤ E.sx → pos (g E).num ≡ pos (E.sx * E.sx) -ℤ pos (E.sy * E.sy)
  pub unrounded : (E : Encounter) → Unrounded E
  -- the cases marked ★
  pub star_cases : All stars
  -- "xm = −8 in place of 8: the same answers", for every encounter, object, time, session, order and count
  pub mirror_begin : (E : Encounter) (s : Session) → (call (begins (mirrored E)) s).answer ≡ (call (begins E) s).answer
  pub mirror_begin_conjunction :
      (C : Conjunction) (s : Session) → (call (begins_conjunction (mirrored_conjunction C)) s).answer ≡ (call (begins_conjunction C) s).answer
  pub mirror_add : (C : Conjunction) (N count : ℕ) → (call (adds count) (state (mirrored_conjunction C) N)).answer ≡ (call (adds count) (state C N)).answer
  pub mirror_read : (C : Conjunction) (N : ℕ) → (call reads (state (mirrored_conjunction C) N)).answer ≡ (call reads (state C N)).answer
  -- request #101: the class of every accepted read
  pub classes : {s : Session} → Readable s → Classed s.encounter s.N (call reads s).answer
  -- of two accepted reads of one encounter, at whatever orders, never one is an alert and the other clear
  pub no_reversal : {s s' : Session} → OneEncounter s s' → (call reads s).answer.class ≡ Alert → (call reads s').answer.class ≡ Clear → ⊥
  -- more terms do not lower the lower end, and an alert stays an alert
  pub lower_end_never_falls : {s s' : Session} → OneEncounter s s' → s.N ≤ s'.N → value (call reads s).answer.lower ≼ value (call reads s').answer.lower
  pub alert_remains : {s s' : Session} → OneEncounter s s' → s.N ≤ s'.N → (call reads s).answer.class ≡ Alert → (call reads s').answer.class ≡ Alert
  -- request #103: both ends of every accepted read in decimal
  pub decimals :
      {s : Session} →
      Readable s →
      PrintedEnd false (call reads s).answer.lower (lower_decimal (call reads s).answer) × PrintedEnd true (call reads s).answer.upper (upper_decimal (call reads s).answer)
  -- request #104: a read that answers no object number, 0, answers no time, 0
  pub no_object_no_time : {s : Session} → Readable s → (call reads s).answer.object ≡ 0 → (call reads s).answer.time ≡ 0
  -- request #105: a rounding says that it lost nothing just where its value is the fraction's
  pub losses : (up : Bool) (bits : ℕ) (q : Frac) → (lost up bits q ≡ false → value (round up bits q) ≈ q) × (value (round up bits q) ≈ q → lost up bits q ≡ false)
  pub passed_on : (up : Bool) → PassesOn up
  -- the numbers with losses beside them are the side's
  pub traced_numbers : (up : Bool) (E : Encounter) → (letter_numbers (traced_letters up E) ≡ side_letters up E) × ((n : ℕ) → term_numbers (traced_terms up E n) ≡ side_terms up E n)
  -- something is lost on a term's way on one side just where it is on the other
  pub same_ways : (E : Encounter) (n : ℕ) → term_lost false E n ≡ term_lost true E n
  -- the count of every accepted read
  pub exact_counts : {s : Session} → Readable s → CountedTerms s.encounter s.N (call reads s).answer.exact
  -- request #109: "Encounters that could then never be read should be stopped at the start": one that is begun, whatever calls led to the session, can be read at some
  -- order up to the largest
  pub begun_can_be_read : (s : Session) → Reached s → 0 < s.N → ReadLater s
  -- and no others: one that a begin refuses as 11 could never be read
  pub stopped_never_read : (E : Encounter) (s : Session) → (call (begins E) s).answer.refusal ≡ 11 → NeverRead E
  pub stopped_conjunction_never_read : (C : Conjunction) (s : Session) → (call (begins_conjunction C) s).answer.refusal ≡ 11 → NeverRead C.encounter
