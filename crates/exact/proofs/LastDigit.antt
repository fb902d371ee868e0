-- Request #103: digits that are right in units of the last one are right as a decimal.
use mathlib.Core.Path.{◌≡◌, sym, ◌∙◌, ap}
use mathlib.Core.Bool.{Bool, true, false, true≢false}
use mathlib.Core.Logic.{⊎_elim}
use Prim.Native.Nat.{ℕ, suc, pred, ◌+◌, ◌-◌, ◌*◌, ◌^◌, ◌≤◌, ◌<◌}
use native.Mathlib.Nat.{mul-le-mul_right, pow-succ', one-le-pow, suc-pred-eq_of_pos}
use native.Mathlib.Omega.{arith}
use lib.Dec.{lit<}
use Rattle.exact.specs.declared.Scaled.{Scaled}
use Rattle.exact.specs.declared.Decimal.{Decimal}
use Rattle.exact.specs.Fraction.{Frac, ◌≼◌, ◌⊕◌, ◌⊗◌, ◌over◌, whole}
use Rattle.exact.specs.Scaled.{value}
use Rattle.exact.specs.Decimals.{table_length, at_power, worth, two_units, Printed, Near}
use Rattle.exact.proofs.Fractions.{≼_trans, lt_or_le, drop_last}
use Rattle.exact.proofs.DecimalProducts.{most}
use Rattle.exact.proofs.DecimalCases.{at_power_few, at_power_carried}

-- ---- in units of the last digit: t of them are 1

module _ (x : Frac) (n t : ℕ) (tp : 0 < t) where
  is_t : suc (pred t) ≡ t
  is_t = suc-pred-eq_of_pos tp

  pub not_above_unit : whole n ≼ x ⊗ whole t → n over t ≼ x
  unfolding ◌⊗◌ whole ◌over◌
  not_above_unit h = record { le = rw is_t (omega (arith, h.le)) }

  pub not_below_unit : x ⊗ whole t ≼ whole n → x ≼ n over t
  unfolding ◌⊗◌ whole ◌over◌
  not_below_unit h = record { le = rw is_t (omega (arith, h.le)) }

  pub two_above : whole n ≼ x ⊗ whole t ⊕ whole 2 → n over t ≼ x ⊕ 2 over t
  unfolding ◌⊕◌ ◌⊗◌ whole ◌over◌
  two_above h = record { le = rw is_t (omega (arith, mul-le-mul_right t h.le)) }

  pub two_below : x ⊗ whole t ≼ whole (n + 2) → x ≼ n over t ⊕ 2 over t
  unfolding ◌⊕◌ ◌⊗◌ whole ◌over◌
  two_below h = record { le = rw is_t (omega (arith, mul-le-mul_right t h.le)) }

-- ---- the promises, from the same in units of the last digit

-- all that is promised of a decimal
abbrev pub DigitsPrint : Bool → Scaled → Decimal → Type 0
DigitsPrint up x d = Printed up x d × Near x d

module _ (x : Scaled) (n p : ℕ) (few : n < 10000) (low : p ≤ 43) (four : 1000 ≤ n) where
  abbrev t : ℕ
  t = 10 ^ (p + 3)

  t_pos : 0 < t
  t_pos = one-le-pow (p + 3) 10 (lit< tt)

  abbrev d : Decimal
  d = record { digits = n; power = p }

  sided : (up : Bool) → (up ≡ false → worth d ≼ value x) → (up ≡ true → value x ≼ worth d) → worth d ≼ value x ⊕ two_units d → value x ≼ worth d ⊕ two_units d → DigitsPrint up x d
  sided up lower upper from_above from_below = (
    record { few_digits = few; small_power = low; lower = lower; upper = λ e s. upper e },
    record { significant = four; close = λ s. (from_above, from_below) },
  )

  lower_prints : whole n ≼ value x ⊗ whole t → value x ⊗ whole t ≼ whole (n + 2) → DigitsPrint false x d
  unfolding worth two_units
  lower_prints a b =
      let side = not_above_unit (value x) n t t_pos a in
      sided false (λ e. side) (λ e. absurd (true≢false (sym e))) (≼_trans side (drop_last _ _)) (two_below (value x) n t t_pos b)

  upper_prints : value x ⊗ whole t ≼ whole n → whole n ≼ value x ⊗ whole t ⊕ whole 2 → DigitsPrint true x d
  unfolding worth two_units
  upper_prints a b =
      let side = not_below_unit (value x) n t t_pos a in
      sided true (λ e. absurd (true≢false e)) (λ e. side) (two_above (value x) n t t_pos b) (≼_trans side (drop_last _ _))

-- 10,000 and 10,001 at one power, 1,000 and 1,001 at the next higher
module _ (q : Frac) (i t : ℕ) (l : i ≤ 1) where
  carry_above : q ⊗ whole (10 * t) ≼ whole (10000 + i) → q ⊗ whole t ≼ whole (1000 + i)
  unfolding ◌⊗◌ whole
  carry_above h = record { le = omega (arith, h.le) }

  carry_two : whole (10000 + i) ≼ q ⊗ whole (10 * t) ⊕ whole 2 → whole (1000 + i) ≼ q ⊗ whole t ⊕ whole 2
  unfolding ◌⊗◌ ◌⊕◌ whole
  carry_two h = record { le = omega (arith, h.le, mul-le-mul_right q.den l) }

back : (k : ℕ) → 3 ≤ k → k - 3 + 3 ≡ k
back k l = omega arith

-- the digits at a power, by the side
module _ (x : Scaled) (k n : ℕ) (l : k < table_length) (low : 3 ≤ k) (four : 1000 ≤ n) where
  pub lower_at : n < 10000 → whole n ≼ value x ⊗ whole (10 ^ k) → value x ⊗ whole (10 ^ k) ≼ whole (n + 2) → DigitsPrint false x (at_power k n)
  lower_at few a b = rw (at_power_few k n few) (lower_prints x n (k - 3) few (omega arith) four (rw (back k low) a) (rw (back k low) b))

  pub upper_at : n ≤ 10001 → (10000 ≤ n → 4 ≤ k) → value x ⊗ whole (10 ^ k) ≼ whole n → whole n ≼ value x ⊗ whole (10 ^ k) ⊕ whole 2 → DigitsPrint true x (at_power k n)
  upper_at most high a b = ⊎_elim few carried (lt_or_le n 10000)
    where
      few : n < 10000 → DigitsPrint true x (at_power k n)
      few f = rw (at_power_few k n f) (upper_prints x n (k - 3) f (omega arith) four (rw (back k low) a) (rw (back k low) b))

      carried : 10000 ≤ n → DigitsPrint true x (at_power k n)
      carried c =
          let i = n - 10000 in
          let h : 4 ≤ k = high c in
          let t = 10 ^ (k - 4 + 3) in
          let kt : 10 ^ k ≡ 10 * 10 ^ (k - 4 + 3) = ap (λ (z : ℕ). 10 ^ z) (omega (arith, h)) ∙ pow-succ' 10 (k - 4 + 3) in
          let e : n ≡ 10000 + (n - 10000) = omega arith in
          let e' : n - 9000 ≡ 1000 + (n - 10000) = omega arith in
          rw (at_power_carried k n c, e')
          (upper_prints x (1000 + i) (k - 4) (omega arith) (omega arith) (omega arith)
          (carry_above (value x) i t (omega arith) (rw (← kt, ← e) a))
          (carry_two (value x) i t (omega arith) (rw (← kt, ← e) b)))
