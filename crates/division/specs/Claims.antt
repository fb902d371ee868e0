-- What a reader relies on beyond the contract of `divide`, request #107 of document 02: one record of statements, each proved. `divide` promises it.
use Rattle.std.specs.Prelude.{◌≡◌, Bool, true, false, ℕ, ◌≤◌, ◌<◌}
use Rattle.exact.specs.declared.Encounter.{Encounter}
use Rattle.exact.specs.declared.Scaled.{Scaled}
use Rattle.exact.specs.Fraction.{◌≼◌, ◌÷◌}
use Rattle.exact.specs.Numbers.{exponential_cut, largest_order}
use Rattle.exact.specs.Scaled.{value, IsScaled}
use Rattle.exact.specs.Series.{quotient}
use Rattle.exact.specs.Steps.{side_terms, side_powers, d}
use Rattle.exact.specs.Refusals.{Accepted, scaled_form, refuses_10}
use Rattle.encounter.specs.declared.state.Session.{Session}
use Rattle.encounter.specs.Calls.{reads, call}
use Rattle.encounter.specs.Claims.{Readable}
use Rattle.division.specs.Division.{divided, quotient_in}
use Rattle.division.specs.Tested.{passed, passed_terms, passed_powers, tested_terms, tested_powers, tested_d}

-- "Our own steps are to be shown never to meet it": put to test 10, they are the steps' own numbers, and no division on the way of any is refused
pub record NeverMet (E : Encounter) : Type 0 where
  -- c, p, v and y on both sides, at every order to the largest
  pub terms : (up : Bool) (n : ℕ) → n ≤ largest_order → tested_terms up E n ≡ passed_terms (side_terms up E n)
  -- d
  pub tail : (n : ℕ) → n ≤ largest_order → tested_d E n ≡ passed (d E n)
  -- r on both sides, to the upper r(256)
  pub exponential : (up : Bool) (k : ℕ) → k ≤ exponential_cut → tested_powers up E k ≡ passed_powers (side_powers up E k)

-- both ends of an accepted read, divided by a whole number: the lower end down, the upper end up
pub record DividesEnds (s : Session) (divisor : ℕ) : Type 0 where
  pub lower_passes : refuses_10 (call reads s).answer.lower divisor ≡ false
  pub upper_passes : refuses_10 (call reads s).answer.upper divisor ≡ false
  -- at whatever later point the two exact sums are cut, their quotient, divided, lies between
  pub between :
      (N' K : ℕ) →
      s.N ≤ N' →
      exponential_cut ≤ K →
      (value (quotient_in (divided false (call reads s).answer.lower divisor)) ≼ quotient s.encounter N' K ÷ divisor) × (quotient s.encounter N' K ÷ divisor ≼ value (quotient_in (divided true (call reads s).answer.upper divisor)))

pub record Claims : Type 0 where
  -- the test of the form is document 01's form
  pub form : (x : Scaled) → (scaled_form x ≡ true → IsScaled 32 x) × (IsScaled 32 x → scaled_form x ≡ true)
  pub never_met : (E : Encounter) → Accepted E → NeverMet E
  pub ends : {s : Session} → Readable s → (divisor : ℕ) → 0 < divisor → DividesEnds s divisor
