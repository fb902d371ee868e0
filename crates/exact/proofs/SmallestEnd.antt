-- No end that an accepted encounter reads is less than 8 × 10^-43: R is at least 1, sx and sy are at most 10,000,000, and t is at most 64.
use mathlib.Core.Path.{◌≡◌, refl}
use mathlib.Core.Bool.{true, false}
use Prim.Native.Nat.{ℕ, pred, ◌*◌, ◌^◌, ◌≤◌, ◌<◌}
use native.Mathlib.Bridge.{le_by_compare, IsLe}
use native.Mathlib.Nat.{mul-le-mul, mul-pos, mul-le-mul_right}
use native.Mathlib.Omega.{arith}
use lib.Dec.{lit<}
use lib.IntN.{pos}
use lib.Ieee.{size, span, climb}
use Rattle.exact.specs.declared.Encounter.{Encounter}
use Rattle.exact.specs.declared.Scaled.{Scaled}
use Rattle.exact.specs.Fraction.{Frac, ◌≼◌, ◌⊕◌, ◌⊗◌, ◌÷◌, ◌⊘◌, ◌over◌, whole}
use Rattle.exact.specs.Numbers.{largest_length, largest_t, exponential_cut}
use Rattle.exact.specs.Scaled.{scaled, one, value, D, U}
use Rattle.exact.specs.Private.Round.{round, pack, finish, spare, inexact}
use Rattle.exact.specs.Private.Ranges.{Bounds}
use Rattle.exact.specs.Series.{a₀}
use Rattle.exact.specs.Arithmetic.{rounded}
use Rattle.exact.specs.Steps.{start, first, terms, powers, next_power, side_letters, side_start, side_terms, side_powers, sum_to, exponential_with_tail, exponential_sum, r256, lower_end, upper_end}
use Rattle.exact.specs.Refusals.{refuses_23, Accepted}
use Rattle.exact.proofs.Fractions.{≼_refl, ≼_trans, add_mono, mul_mono, num_pos, quot_mono, drop_last}
use Rattle.exact.proofs.Rounding.{round_mono}
use Rattle.exact.proofs.Parallel.{Within, side, of_values, in_order, ClosePowers, powers_close}
use Rattle.exact.proofs.Accepted.{facts}
use Rattle.exact.proofs.LowerEnds.{lower_end_never_falls}
use Rattle.exact.proofs.Enclosure.{up, exponential_pos, le_upper_powers, enclosed}

-- "U(upper exponential sum + 2 × upper r(256))" of a rounded t
abbrev with_tail : Scaled → Scaled
with_tail t = U (value (powers (rounded true 32) one t (pred exponential_cut)).sum ⊕ whole 2 ⊗ value (powers (rounded true 32) one t exponential_cut).r)

-- the same at t = 64, which is computed below: about 6.2351 × 10^27
abbrev largest_exponential : Scaled
largest_exponential = scaled 2704065058 (pos 61)

-- a(0) at R = 1 and the largest sx and sy
abbrev smallest_start : Frac
smallest_start = 1 over (2 * (largest_length * largest_length))

-- about 8.019 × 10^-43
abbrev smallest_end : Scaled
smallest_end = D (value (D smallest_start) ⊘ value largest_exponential)

-- ---- what is computed

largest_is : with_tail (U (whole largest_t)) ≡ largest_exponential
unfolding powers next_power rounded round pack finish spare inexact size span climb value ◌⊕◌ ◌⊗◌ ◌÷◌ whole
largest_is = refl

smallest_is : whole 8 ≼ value smallest_end ⊗ whole (10 ^ 43)
unfolding round pack finish spare inexact size span climb value ◌⊗◌ ◌⊘◌ ◌over◌ whole IsLe
smallest_is = record { le = le_by_compare _ _ tt }

-- ---- the upper exponential is at most the one at t = 64

-- the upper side at two values of t
monotone : Within (rounded true 32) (rounded true 32) (λ w x y. value x ≼ value y)
monotone = of_values (side true 32) (side true 32) (in_order (λ p q h. round_mono true 32 (lit< tt) h))

with_tail_mono : (t t' : Scaled) → value t ≼ value t' → value (with_tail t) ≼ value (with_tail t')
with_tail_mono t t' h = round_mono true 32 (lit< tt) (add_mono (both (pred exponential_cut)).sum (mul_mono (≼_refl (whole 2)) (both exponential_cut).r))
  where
    both : (k : ℕ) → ClosePowers monotone one t one t' (≼_refl _) h k (powers (rounded true 32) one t k) (powers (rounded true 32) one t' k)
    both k = powers_close monotone one t one t' (≼_refl _) h k

exponential_most : (E : Encounter) → value (side_letters true E).t ≼ whole largest_t → value (exponential_with_tail E) ≼ value largest_exponential
unfolding exponential_with_tail exponential_sum r256 side_powers
exponential_most E t≤ = rw largest_is at (with_tail_mono (side_letters true E).t (U (whole largest_t)) (≼_trans t≤ (up _)))

with_tail_pos : (E : Encounter) → 0 < (value (exponential_with_tail E)).num
unfolding exponential_with_tail exponential_sum
with_tail_pos E =
    num_pos (≼_trans (le_upper_powers E (pred exponential_cut)) (≼_trans (drop_last _ _) (up _))) (exponential_pos E exponential_cut (lit< tt))

-- ---- the ends

start_least : (E : Encounter) → Bounds E → smallest_start ≼ a₀ E
unfolding a₀ ◌over◌
start_least E b =
    let s : E.sx * E.sy ≤ largest_length * largest_length = mul-le-mul b.sx_max b.sy_max in
    let r : 1 ≤ E.R * E.R = mul-pos b.R_pos b.R_pos in
    record { le = omega (arith, mul-le-mul_right (2 * (largest_length * largest_length)) r) }

-- the lower end of c(0) alone, which is the one at order 0 as at order 1
first_end_least : {E : Encounter} → Accepted E → value smallest_end ≼ value (lower_end E 0)
unfolding lower_end sum_to side_terms terms first side_start start rounded
first_end_least {E} h =
    round_mono false 32 (lit< tt)
    (quot_mono (round_mono false 32 (lit< tt) (start_least E (facts h).bounds)) (exponential_most E (facts h).t_max) (with_tail_pos E))

-- every lower end of an accepted encounter is at least 8 × 10^-43
pub lower_end_least : {E : Encounter} → Accepted E → (N : ℕ) → whole 8 ≼ value (lower_end E N) ⊗ whole (10 ^ 43)
lower_end_least {E} h N = ≼_trans smallest_is (mul_mono (≼_trans (first_end_least h) (lower_end_never_falls E 0 N (omega arith))) (≼_refl _))

-- and so every upper end that test 23 lets read
pub upper_end_least : {E : Encounter} → Accepted E → (N : ℕ) → 1 ≤ N → refuses_23 E N ≡ false → whole 8 ≼ value (upper_end E N) ⊗ whole (10 ^ 43)
upper_end_least h N N₁ r =
    let (l, k) = enclosed h N N₁ r N exponential_cut (omega arith) (omega arith) in
    ≼_trans (lower_end_least h N) (mul_mono (≼_trans l k) (≼_refl _))
