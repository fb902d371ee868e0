-- What a read forms of a session with an encounter: the fields, their ranges, and the two ends.
use mathlib.Core.Path.{◌≡◌, sym, ◌∙◌, ap}
use mathlib.Core.Bool
use mathlib.Core.Bool.{Bool, true, false, not}
use Prim.Native.Nat.{ℕ, pred, ◌+◌, ◌^◌, ◌≤◌, ◌<◌}
use native.Mathlib.Omega.{arith}
use lib.Dec.{lit<, lit≤}
use Rattle.exact.specs.declared.Scaled.{Scaled}
use Rattle.exact.specs.Fraction.{◌≼◌, whole, ◌⊕◌, ◌⊗◌, ◌⊘◌, at_most, above}
use Rattle.exact.specs.Scaled.{U, value, double, Normal, IsScaled}
use Rattle.exact.specs.Private.Ranges.{largest_exponent, InRange}
use Rattle.exact.specs.Private.Round.{round}
use Rattle.exact.specs.Numbers.{exponential_cut, largest_order}
use Rattle.exact.specs.declared.Encounter.{Encounter}
use Rattle.exact.specs.Steps.{sum_to, d, tail_bound, exponential_with_tail, exponential_sum, r256, lower_end, upper_end}
use Rattle.exact.specs.Refusals.{refuses_23}
use Rattle.exact.proofs.Fractions.{≼_trans, num_pos, drop_last}
use Rattle.exact.proofs.Rounding.{round_is}
use Rattle.exact.proofs.Operations.{normal}
use Rattle.exact.proofs.Order.{sum_double}
use Rattle.exact.proofs.Ranges.{widen, sum_range, double_range, per_range}
use Rattle.exact.proofs.Enclosure.{up, lower_powers_pos, lower_powers_le, le_upper_powers}
use Rattle.encounter.specs.declared.state.Session.{Session}
use Rattle.encounter.specs.Session.{side, state}
use Rattle.encounter.specs.Private.Held.{Begun}
use Rattle.encounter.proofs.steps.Rounds.{powers_fine}
use Rattle.encounter.proofs.steps.Progressing.{M_is, terms_fine, d_range}

pub not_not : (b : Bool) → b ≡ not (not b)
not_not b = sym (Bool.not-not b)

-- a scaled number above 0 has its bits
pub above_zero : {x : Scaled} → IsScaled 32 x → 0 < (value x).num → Normal 32 x
unfolding value
above_zero {x} n p = normal n (λ z. omega (arith, rw z at p))

module _ (s : Session) (b : Begun s) where
  abbrev pub E : Encounter
  E = s.encounter

  -- ---- the fields

  lower_sum_is : s.lower.terms.sum ≡ sum_to false E s.N
  unfolding state side sum_to
  lower_sum_is = ap (λ (x : Session). x.lower.terms.sum) b.is

  upper_sum_is : s.upper.terms.sum ≡ sum_to true E s.N
  unfolding state side sum_to
  upper_sum_is = ap (λ (x : Session). x.upper.terms.sum) b.is

  lower_exponential_is : s.lower.exponential ≡ exponential_sum false E
  unfolding state side
  lower_exponential_is = ap (λ (x : Session). x.lower.exponential) b.is

  upper_exponential_is : s.upper.exponential ≡ exponential_sum true E
  unfolding state side
  upper_exponential_is = ap (λ (x : Session). x.upper.exponential) b.is

  r256_is : s.r256 ≡ r256 E
  unfolding state
  r256_is = ap (λ (x : Session). x.r256) b.is

  d_is : s.d ≡ d E s.N
  unfolding state
  d_is = ap (λ (x : Session). x.d) b.is

  -- ---- their ranges

  sum_fine : (up : Bool) → InRange 32 largest_exponent (exponential_sum up E)
  unfolding exponential_sum
  sum_fine up = (powers_fine up b.fine (pred exponential_cut) (lit≤ tt)).sum

  series_fine : (up : Bool) → InRange 32 largest_exponent (sum_to up E s.N)
  unfolding sum_to
  series_fine up = (terms_fine s b (pred s.N) (pred_high s.N b.high) up).sum
    where
      pred_high : (n : ℕ) → n ≤ largest_order → pred n ≤ largest_order
      pred_high n l = omega arith

  pub lower_sum_fine : InRange 32 largest_exponent s.lower.terms.sum
  lower_sum_fine = rw lower_sum_is (series_fine false)

  pub upper_sum_fine : InRange 32 largest_exponent s.upper.terms.sum
  upper_sum_fine = rw upper_sum_is (series_fine true)

  pub lower_exponential_fine : InRange 32 largest_exponent s.lower.exponential
  lower_exponential_fine = rw lower_exponential_is (sum_fine false)

  pub upper_exponential_fine : InRange 32 largest_exponent s.upper.exponential
  upper_exponential_fine = rw upper_exponential_is (sum_fine true)

  pub r256_fine : InRange 32 largest_exponent s.r256
  r256_fine = rw r256_is (unfold r256 in (powers_fine true b.fine exponential_cut (lit≤ tt)).r)

  pub d_fine : InRange 32 largest_exponent s.d
  d_fine = rw d_is (d_range s b s.N b.high)

  -- ---- the divisors are above 0

  pub lower_exponential_normal : Normal 32 s.lower.exponential
  lower_exponential_normal = above_zero lower_exponential_fine.is_scaled (rw lower_exponential_is (unfold exponential_sum in lower_powers_pos E (pred exponential_cut)))

  pub divisor_normal : (y : Scaled) {x : Scaled} → x ≡ round true 32 (value s.upper.exponential ⊕ value y) → Normal 32 x
  divisor_normal y e =
      let p : 0 < (value s.upper.exponential).num = rw upper_exponential_is (unfold exponential_sum in num_pos (≼_trans (lower_powers_le E (pred exponential_cut)) (le_upper_powers E (pred exponential_cut))) (lower_powers_pos E (pred exponential_cut))) in
      let q : value s.upper.exponential ≼ value (round true 32 (value s.upper.exponential ⊕ value y)) = ≼_trans (drop_last _ (value y)) (up _) in
      rw e (above_zero (round_is true 32 _ (lit< tt)).is_scaled (num_pos q p))

  -- ---- the ends

  pub lower_end_is : {x y r : Scaled} → y ≡ double s.r256 → x ≡ round true 32 (value s.upper.exponential ⊕ value y) → r ≡ round false 32 (value s.lower.terms.sum ⊘ value x) → r ≡ lower_end E s.N
  unfolding lower_end exponential_with_tail
  lower_end_is ey ex er = er ∙ rw (ex, ey, ← sum_double true 32 s.upper.exponential s.r256 (lit< tt), lower_sum_is, upper_exponential_is, r256_is)

  pub upper_end_is : {x y r : Scaled} → y ≡ double s.d → x ≡ round true 32 (value s.upper.terms.sum ⊕ value y) → r ≡ round true 32 (value x ⊘ value s.lower.exponential) → r ≡ upper_end E s.N
  unfolding upper_end tail_bound
  upper_end_is ey ex er = er ∙ rw (ex, ey, ← sum_double true 32 s.upper.terms.sum s.d (lit< tt), upper_sum_is, lower_exponential_is, d_is)

  pub lower_end_fine : {x : Scaled} → x ≡ lower_end E s.N → InRange 32 (2 ^ 27) x
  unfolding lower_end
  lower_end_fine e =
      rw (e, ← lower_sum_is)
      (widen (lit≤ tt) (per_range false 32 (lit< tt) lower_sum_fine (whole_range (exponential_with_tail E) formed) (divisor_normal (double s.r256) formed)))
    where
      formed : exponential_with_tail E ≡ round true 32 (value s.upper.exponential ⊕ value (double s.r256))
      formed = unfold exponential_with_tail in rw (← upper_exponential_is, ← r256_is) (sum_double true 32 s.upper.exponential s.r256 (lit< tt))

      whole_range : (x : Scaled) → x ≡ round true 32 (value s.upper.exponential ⊕ value (double s.r256)) → InRange 32 (largest_exponent + 3) x
      whole_range x e = rw e (sum_range true 32 (lit< tt) (widen (lit≤ tt) upper_exponential_fine) (double_range r256_fine))

  pub upper_end_fine : {x : Scaled} → x ≡ upper_end E s.N → InRange 32 (2 ^ 27) x
  unfolding upper_end
  upper_end_fine e = rw (e, ← lower_exponential_is) (widen (lit≤ tt) (per_range true 32 (lit< tt) (total formed) lower_exponential_fine lower_exponential_normal))
    where
      formed : U (value (sum_to true E s.N) ⊕ tail_bound E s.N) ≡ round true 32 (value s.upper.terms.sum ⊕ value (double s.d))
      formed = unfold tail_bound in rw (← upper_sum_is, ← d_is) (sum_double true 32 s.upper.terms.sum s.d (lit< tt))

      total : {x : Scaled} → x ≡ round true 32 (value s.upper.terms.sum ⊕ value (double s.d)) → InRange 32 (largest_exponent + 3) x
      total e = rw e (sum_range true 32 (lit< tt) (widen (lit≤ tt) upper_sum_fine) (double_range d_fine))

  -- ---- test 23

  pub may_read_is : {r : Bool} → r ≡ at_most (whole 2 ⊗ value s.M) (whole (s.N + 2)) → r ≡ not (refuses_23 E s.N)
  unfolding refuses_23 above
  may_read_is e = e ∙ rw (M_is s b) (not_not _)
