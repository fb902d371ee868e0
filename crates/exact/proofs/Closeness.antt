-- How close the two ends are: the upper side is at most the lower side × (1 + 2^-31)^w, with w counted step by step.
use mathlib.Core.Bool.{true, false}
use Prim.Native.Nat.{ℕ, zero, suc, pred, ◌+◌, ◌*◌, ◌^◌, ◌≤◌, ◌<◌}
use native.Mathlib.Bridge.{le_by_compare, IsLe}
use native.Mathlib.Nat.{suc-pred-eq_of_pos}
use native.Mathlib.Omega.{arith}
use Rattle.exact.specs.Numbers.{largest_t, exponential_cut}
use Rattle.exact.specs.Fraction.{Frac, ◌≼◌, ◌⊕◌, ◌⊗◌, ◌÷◌, ◌⊘◌, ◌↑◌, ◌over◌, whole}
use Rattle.exact.specs.Scaled.{one, value, D, U}
use Rattle.exact.proofs.Rounding.{slack}
use Rattle.exact.specs.declared.Encounter.{Encounter}
use Rattle.exact.specs.Arithmetic.{unrounded, rounded}
use Rattle.exact.specs.Steps.{powers, next_power, side_letters, side_start, side_terms, side_powers, sum_to, tail_bound, exponential_with_tail, exponential_sum, r256, lower_end, upper_end}
use Rattle.exact.specs.Refusals.{Accepted}
use Rattle.exact.proofs.Fractions.{≼_refl, ≼_trans, ≼_of, ≽_of, add_mono, mul_mono, num_pos, quot_mono, quot_mul, drop_last}
use Rattle.exact.proofs.Rounding.{round_close}
use Rattle.exact.proofs.Powers.{Near, near_of, near_more, near_plus, near_times, near_share, pow_add, pow_square, pow_more, one_le_pow, grow}
use Rattle.exact.proofs.Parallel.{Kept, Within, side, exact, of_values, CloseLetters, letters_close, start_close, terms_close, powers_close}
use Rattle.exact.proofs.Enclosure.{up, one_is, lower_powers_pos, lower_powers_le, le_upper_powers}
use Rattle.exact.proofs.Accepted.{facts}

-- 1 + 2^-31
abbrev pub ρ : Frac
ρ = slack 31

pub one≼ρ : whole 1 ≼ ρ
unfolding slack whole ◌over◌ IsLe
one≼ρ = record { le = le_by_compare _ _ tt }

one≼ρρ : whole 1 ≼ ρ ⊗ ρ
one≼ρρ = ≼_trans one≼ρ (grow ρ ρ one≼ρ)

near_up : (q : Frac) → value (U q) ≼ q ⊗ ρ
near_up q = (round_close true 31 q).above

near_down : (q : Frac) → q ≼ value (D q) ⊗ ρ
near_down q = (round_close false 31 q).below

-- "is at most, but for w factors r", where a rounding on each side takes one factor
near_kept : {r : Frac} {f f' : Frac → Frac} → whole 1 ≼ r → ((p q x : Frac) → p ≼ q ⊗ x → f p ≼ f' q ⊗ (r ⊗ x)) → Kept f f' (Near r)
near_kept one rounds = record {
  same = λ q. near_of (≼_refl q);
  more = λ l h. near_more one l h;
  wider = λ l k h. record { near = ≼_trans l (≼_trans h.near (mul_mono k (≼_refl _))) };
  plus = λ h k. near_plus h k;
  times = λ h k. near_times h k;
  share = λ n h. near_share n h;
  rounds = λ h. record { near = unfold ◌↑◌ in rounds _ _ _ h.near };
}

-- ---- the upper side against the lower: two factors for each rounding

rounds_form : (q ρ x : Frac) → q ⊗ ρ ⊗ x ⊗ ρ ≼ q ⊗ (ρ ⊗ ρ ⊗ x)
unfolding ◌⊗◌
rounds_form q ρ x = record { le = omega arith }

close : Within (rounded true 32) (rounded false 32) (λ w x x'. Near (ρ ⊗ ρ) w (value x) (value x'))
close =
    of_values (side true 32) (side false 32)
    (near_kept one≼ρρ (λ p q r h. ≼_trans (near_up p) (≼_trans (mul_mono (≼_trans h (mul_mono (near_down q) (≼_refl r))) (≼_refl ρ)) (rounds_form _ ρ r))))

-- ---- the upper r(k) against the exact one at t = 64: one factor for each rounding

lift : (q ρ x : Frac) → q ⊗ x ⊗ ρ ≼ q ⊗ (ρ ⊗ x)
unfolding ◌⊗◌
lift q ρ x = record { le = omega arith }

pub over_exact : Within (rounded true 32) unrounded (λ w x q. Near ρ w (value x) q)
over_exact = of_values (side true 32) exact (near_kept one≼ρ (λ p q r h. ≼_trans (near_up p) (≼_trans (mul_mono h (≼_refl ρ)) (lift q ρ r))))

-- 2 × 64^256/256!, with 1,280 roundings upwards, is at most 2^-31
tiny : whole 2 ⊗ ((powers unrounded (whole 1) (whole largest_t) exponential_cut).r ⊗ ρ ↑ 1280) ≼ 1 over (2 ^ 31)
unfolding powers next_power unrounded slack whole ◌over◌ ◌⊗◌ ◌÷◌ ◌↑◌ IsLe
tiny = record { le = le_by_compare _ _ tt }

split : (q : Frac) → q ⊕ q ⊗ (1 over (2 ^ 31)) ≼ q ⊗ ρ
unfolding slack ◌over◌ ◌⊕◌ ◌⊗◌
split q = record { le = omega arith }

swap : (p q : Frac) → p ⊗ q ≼ q ⊗ p
unfolding ◌⊗◌
swap p q = record { le = omega arith }

one_form : (q : Frac) → q ≼ whole 1 ⊗ q
unfolding ◌⊗◌ whole
one_form q = record { le = omega arith }

one≼powers : (E : Encounter) (k : ℕ) → whole 1 ≼ value (side_powers true E k).sum
unfolding side_powers powers next_power rounded
one≼powers E zero = ≽_of one_is
one≼powers E (suc k) = ≼_trans (one≼powers E k) (≼_trans (drop_last _ _) (up _))

module _ (E : Encounter) (t≤ : value (side_letters true E).t ≼ whole largest_t) where
  r_near : Near ρ 1280 (value (side_powers true E exponential_cut).r) (powers unrounded (whole 1) (whole largest_t) exponential_cut).r
  unfolding side_powers
  r_near =
      (powers_close over_exact one _ (whole 1) (whole largest_t) (near_of (≼_of one_is)) (near_more one≼ρ (omega arith) (near_of t≤)) exponential_cut).r

  -- 2r(256) is within one rounding of the exponential's sum
  small : value (side_powers true E (pred exponential_cut)).sum ⊕ whole 2 ⊗ value (side_powers true E exponential_cut).r ≼ value (side_powers true E (pred exponential_cut)).sum ⊗ ρ
  small =
      ≼_trans (add_mono (≼_refl _)
      (≼_trans (mul_mono (≼_refl (whole 2)) r_near.near)
      (≼_trans tiny (≼_trans (one_form _) (mul_mono (one≼powers E (pred exponential_cut)) (≼_refl _))))))
      (split _)

-- ---- the two ends

module _ (E : Encounter) where
  letters_near : CloseLetters close (side_letters true E) (side_letters false E)
  unfolding side_letters
  letters_near = letters_close close E

  pub start_near : Near (ρ ⊗ ρ) 1 (value (side_start true E)) (value (side_start false E))
  unfolding side_start
  start_near = start_close close E

  sum_near : (n : ℕ) → value (side_terms true E n).sum ≼ value (side_terms false E n).sum ⊗ (ρ ⊗ ρ) ↑ (9 * n + 1)
  unfolding side_terms
  sum_near n = (terms_close close _ _ letters_near start_near n).sum.near

  powers_near : value (side_powers true E (pred exponential_cut)).sum ≼ value (side_powers false E (pred exponential_cut)).sum ⊗ (ρ ⊗ ρ) ↑ 1276
  unfolding side_powers
  powers_near = (powers_close close one _ one _ (near_of (≼_refl (value one))) letters_near.t (pred exponential_cut)).sum.near

-- (p × q) / q
mul_quot : (p q : Frac) → 0 < q.num → (p ⊗ q) ⊘ q ≼ p
unfolding ◌⊗◌ ◌⊘◌
mul_quot p q l = record { le = rw (suc-pred-eq_of_pos l) (omega arith) }

cube : Frac → Frac
cube r = r ⊗ r ⊗ r

gather : (L r B z : Frac) → L ⊗ r ⊗ (B ⊗ z ⊗ r ⊗ r) ≼ L ⊗ (z ⊗ cube r) ⊗ B
unfolding ◌⊗◌ cube
gather L r B z = record { le = omega arith }

gather_more : (L q B w r : Frac) → L ⊗ q ⊗ B ⊗ w ⊗ r ⊗ r ≼ L ⊗ (w ⊗ q ⊗ (r ⊗ r)) ⊗ B
unfolding ◌⊗◌
gather_more L q B w r = record { le = omega arith }

last : (L w z s r : Frac) → L ⊗ (w ⊗ (z ⊗ s) ⊗ (r ⊗ r)) ⊗ r ≼ L ⊗ (w ⊗ z ⊗ (s ⊗ cube r))
unfolding ◌⊗◌ cube
last L w z s r = record { le = omega arith }

six : (r : Frac) → cube r ⊗ cube r ≼ (r ⊗ r) ↑ 3
unfolding ◌⊗◌ ◌↑◌ cube whole
six r = record { le = omega arith }

module _ (E : Encounter) (t≤ : value (side_letters true E).t ≼ whole largest_t) (n : ℕ) (T≤ : tail_bound E (suc n) ≼ (1 over (2 ^ 31)) ⊗ value (sum_to false E (suc n))) where
  A : Frac
  A = value (sum_to false E (suc n))

  B : Frac
  B = value (exponential_sum false E)

  w : Frac
  w = (ρ ⊗ ρ) ↑ (9 * n + 1)

  z : Frac
  z = (ρ ⊗ ρ) ↑ 1276

  B_pos : 0 < B.num
  unfolding B exponential_sum
  B_pos = lower_powers_pos E (pred exponential_cut)

  -- the upper numerator is at most the lower sum × w × ρ × ρ
  numerator : value (U (value (sum_to true E (suc n)) ⊕ tail_bound E (suc n))) ≼ A ⊗ w ⊗ ρ ⊗ ρ
  unfolding A w sum_to
  numerator =
      let grown : A ≼ A ⊗ w = grow A w (one_le_pow (9 * n + 1) one≼ρρ) in
      let T' : tail_bound E (suc n) ≼ A ⊗ w ⊗ (1 over (2 ^ 31)) = ≼_trans T≤ (≼_trans (swap _ A) (mul_mono grown (≼_refl _))) in
      ≼_trans (near_up _) (mul_mono (≼_trans (add_mono (sum_near E n) T') (split (A ⊗ w))) (≼_refl ρ))

  -- the upper exponential is at most the lower × z × ρ × ρ
  G_le : value (exponential_with_tail E) ≼ B ⊗ z ⊗ ρ ⊗ ρ
  unfolding B z exponential_with_tail exponential_sum r256
  G_le = ≼_trans (near_up _) (mul_mono (≼_trans (small E t≤) (mul_mono (powers_near E) (≼_refl ρ))) (≼_refl ρ))

  G_pos : 0 < (value (exponential_with_tail E)).num
  unfolding B exponential_sum exponential_with_tail r256
  G_pos = num_pos (≼_trans (lower_powers_le E (pred exponential_cut)) (≼_trans (le_upper_powers E (pred exponential_cut)) (≼_trans (drop_last _ _) (up _)))) B_pos

  -- the lower sum is at most the lower end × ρ × the upper exponential
  A_le : A ≼ value (lower_end E (suc n)) ⊗ ρ ⊗ (B ⊗ z ⊗ ρ ⊗ ρ)
  unfolding A lower_end
  A_le = ≼_trans (≽_of (quot_mul _ _ G_pos)) (mul_mono (near_down _) G_le)

  upper_le : value (upper_end E (suc n)) ≼ value (lower_end E (suc n)) ⊗ (w ⊗ z ⊗ (ρ ⊗ ρ) ↑ 3)
  unfolding upper_end B
  upper_le =
      let L = value (lower_end E (suc n)) in
      let A' : A ≼ L ⊗ (z ⊗ cube ρ) ⊗ B = ≼_trans A_le (gather L ρ B z) in
      let n≤ : value (U (value (sum_to true E (suc n)) ⊕ tail_bound E (suc n))) ≼ L ⊗ (w ⊗ (z ⊗ cube ρ) ⊗ (ρ ⊗ ρ)) ⊗ B =
      ≼_trans numerator (≼_trans (mul_mono (mul_mono (mul_mono A' (≼_refl w)) (≼_refl ρ)) (≼_refl ρ)) (gather_more L (z ⊗ cube ρ) B w ρ)) in
      ≼_trans (near_up _)
      (≼_trans (mul_mono (≼_trans (quot_mono n≤ (≼_refl _) B_pos) (mul_quot _ B B_pos)) (≼_refl ρ))
      (≼_trans (last L w z (cube ρ) ρ) (mul_mono (≼_refl L) (mul_mono (≼_refl (w ⊗ z)) (six ρ)))))

  weight : w ⊗ z ⊗ (ρ ⊗ ρ) ↑ 3 ≼ ρ ↑ (18 * suc n + 2600)
  unfolding w z
  weight =
      ≼_trans (mul_mono (≽_of (pow_add (ρ ⊗ ρ) (9 * n + 1) 1276)) (≼_refl _))
      (≼_trans (≽_of (pow_add (ρ ⊗ ρ) (9 * n + 1 + 1276) 3)) (≼_trans (≼_of (pow_square ρ (9 * n + 1 + 1276 + 3))) (pow_more one≼ρ (omega arith))))

-- Closeness, in demand 3's words: where the tail bound is at most 2^-31 of the lower sum, upper end ≤ lower end × (1 + 2^-31)^(18N + 2,600).
pub ends_close : {E : Encounter} → Accepted E → (N : ℕ) → 1 ≤ N → tail_bound E N ≼ (1 over (2 ^ 31)) ⊗ value (sum_to false E N)
    → value (upper_end E N) ≼ value (lower_end E N) ⊗ ((2 ^ 31 + 1) over (2 ^ 31)) ↑ (18 * N + 2600)
unfolding slack
ends_close h zero N₁ T≤ = let f : ⊥ = omega arith in absurd f
ends_close {E} h (suc n) N₁ T≤ = ≼_trans (upper_le E (facts h).t_max n T≤) (mul_mono (≼_refl _) (weight E (facts h).t_max n T≤))
