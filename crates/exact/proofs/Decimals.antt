-- Request #103: a number in decimal is not above it, or not below it, and off by at most two in the last digit.
use mathlib.Core.Path.{◌≡◌, refl, sym, ◌∙◌}
use mathlib.Core.Bool.{Bool, true, false, true≢false}
use mathlib.Core.Logic.{⊎_elim}
use Prim.Native.Nat.{ℕ, zero, suc, ◌+◌, ◌*◌, ◌^◌, ◌≤◌, ◌<◌}
use native.Mathlib.Nat.{le_of_mul-le-mul_right}
use native.Mathlib.Omega.{arith}
use lib.Dec.{lit<, lit≤}
use native.Mathlib.Decide.{ℕ_discrete}
use Rattle.exact.specs.declared.Scaled.{Scaled}
use Rattle.exact.specs.Fraction.{Frac, ◌≼◌, ◌≈◌, ◌⊕◌, ◌⊗◌, ◌over◌, whole}
use Rattle.exact.specs.Scaled.{value}
use Rattle.exact.specs.Decimals.{table_length, times_power, reaches, least_power, floor, digits_of, at_power, one_or_more, zero_decimal, least_decimal, too_small, below_1, decimal_of, worth, Printed, Found, Near}
use Rattle.exact.proofs.Fractions.{◌≺◌, ≼_refl, ≼_trans, ≼_≺, ≼_of_≺, ≺_irrefl, ≼_of, lt_or_le, mul_mono, whole_mono}
use Rattle.exact.proofs.Order.{not_above}
use Rattle.exact.proofs.Rounding.{slack}
use Rattle.exact.proofs.DecimalProducts.{ε, floor_below, floor_above, floor_least, product_below, product_above, reached, unreached, next, before, here, lower_side, upper_side, three_few, most}
use Rattle.exact.proofs.DecimalCases.{digits_cut, digits_same, small_zero, small_lower, small_upper, is_one, is_found, is_small, small, low_power}
use Rattle.exact.proofs.LastDigit.{not_below_unit, DigitsPrint, lower_at, upper_at}

-- ---- the errors, as numbers

top : whole 10 ⊗ (whole 1000 ⊗ ε ⊗ ε) ≼ whole 10001
unfolding ◌⊗◌ whole slack ◌over◌
top = record { le = lit≤ tt }

one_more : (w : ℕ) → w ≤ 10000 → whole (suc w) ⊗ ε ⊗ ε ≼ whole (w + 2)
unfolding ◌⊗◌ whole slack ◌over◌
one_more w h = record { le = omega arith }

spread : (n a b c d : ℕ) → n * c ≤ a * (c + d) → a * d ≤ b * c → n * c ≤ (a + b) * c
spread n a b c d h g = omega arith

little : (a b : ℕ) → a ≤ 10001 * b → a * 4294967297 ≤ b * 2 ^ 62
little a b h = omega arith

within_one : (w a b : ℕ) → a ≤ 10001 * b → w * b * 2 ^ 62 ≤ a * (2 ^ 62 + 4294967297) → w * b ≤ a + b
within_one w a b h g = le_of_mul-le-mul_right {k = 2 ^ 62} (spread (w * b) a b (2 ^ 62) 4294967297 g (little a b h)) (lit< tt)

off : (w : ℕ) (q : Frac) → q ≼ whole 10001 → whole w ≼ q ⊗ ε ⊗ ε → whole (suc w) ≼ q ⊕ whole 2
unfolding ◌⊕◌ ◌⊗◌ whole slack ◌over◌
off w q h g =
    let r = within_one w q.num q.den (omega (arith, h.le)) (omega (arith, g.le)) in
    record { le = omega (arith, r) }

-- ---- the digits of the first product that reaches 1,000

module _ (x : Scaled) (j : ℕ) (l : suc j < table_length) (low : 3 ≤ suc j) where
  lower_found : reaches false x j ≡ false → reaches false x (suc j) ≡ true → DigitsPrint false x (at_power (suc j) (digits_of false (floor (value (times_power false x (suc j))))))
  lower_found u r = go (ℕ_discrete w 10000)
    where
      w : ℕ
      w = floor (value (times_power false x (suc j)))

      four : 1000 ≤ w
      four = floor_least _ 1000 (reached false x (suc j) r)

      not_above_w : whole w ≼ value x ⊗ whole (10 ^ suc j)
      not_above_w = ≼_trans (floor_below (value (times_power false x (suc j)))) (lower_side x (suc j))

      go : Dec (w ≡ 10000) → DigitsPrint false x (at_power (suc j) (digits_of false w))
      go (yes e) =
          rw (← digits_cut false w refl e)
          (lower_at x (suc j) 9999 l low (lit≤ tt) (lit< tt) (≼_trans (whole_mono (omega (arith, e))) not_above_w) (≼_trans (next false x j u) top))
      go (no e) =
          let m = most false x j u in
          rw (← digits_same false w refl e)
          (lower_at x (suc j) w l low four (omega (arith, m, e)) not_above_w
          (≼_trans (product_below false x (suc j))
          (≼_trans (mul_mono (mul_mono (≼_of_≺ (floor_above (value (times_power false x (suc j))))) (≼_refl ε)) (≼_refl ε)) (one_more w m))))

  upper_found : value x ≼ whole 1 → reaches true x j ≡ false → reaches true x (suc j) ≡ true → DigitsPrint true x (at_power (suc j) (digits_of true (floor (value (times_power true x (suc j))))))
  upper_found small u r =
      let m = most true x j u in
      unfold digits_of in
      upper_at x (suc j) (suc w) l low (omega (arith, four)) (omega (arith, m)) (three_few true x small (suc j) low)
      (≼_trans (upper_side x (suc j)) (≼_of_≺ (floor_above P)))
      (off w (value x ⊗ whole (10 ^ suc j)) (≼_trans (next true x j u) top) (≼_trans (floor_below P) (product_above true x (suc j))))
    where
      P : Frac
      P = value (times_power true x (suc j))

      w : ℕ
      w = floor P

      four : 1000 ≤ w
      four = floor_least P 1000 (reached true x (suc j) r)

-- ---- the promises, by cases

found_prints : (up : Bool) (x : Scaled) → value x ≼ whole 1 → (k : ℕ) → k < table_length → 3 ≤ k → ((j : ℕ) → j < k → reaches up x j ≡ false) → reaches up x k ≡ true
    → DigitsPrint up x (at_power k (digits_of up (floor (value (times_power up x k)))))
found_prints up x small zero l low u r = let f : ⊥ = omega arith in absurd f
found_prints false x small (suc j) l low u r = lower_found x j l low (u j (omega arith)) r
found_prints true x small (suc j) l low u r = upper_found x j l low small (u j (omega arith)) r

one_prints : (up : Bool) (x : Scaled) → below_1 x ≡ false → DigitsPrint up x one_or_more
unfolding below_1
one_prints up x b = (
  record { few_digits = lit< tt; small_power = lit≤ tt; lower = λ e. ≼_trans (≼_of unit) (not_above _ _ b); upper = λ e c. absurd (true≢false (sym c ∙ b)) },
  record { significant = lit≤ tt; close = λ c. absurd (true≢false (sym c ∙ b)) },
)
  where
    unit : worth one_or_more ≈ whole 1
    unit = unfold worth whole ◌over◌ in record { eq = refl }

-- where 10^46 does not reach 1,000, x is at most 10^-43
tiny : (x : Scaled) → reaches true x 46 ≡ false → value x ≼ worth least_decimal
unfolding worth
tiny x u = not_below_unit (value x) 1000 (10 ^ 46) (lit< tt) (≼_trans (upper_side x 46) (unreached true x 46 u))

zero_lower : (x : Scaled) → worth zero_decimal ≼ value x
unfolding worth ◌over◌
zero_lower x = record { le = omega arith }

zero_upper : (x : Scaled) → x.m ≡ 0 → value x ≼ worth zero_decimal
unfolding value worth ◌over◌
zero_upper x z = record { le = rw z (omega arith) }

small_prints : (up : Bool) (x : Scaled) → table_length ≤ least_power up x → Printed up x (too_small up x)
small_prints false x n =
    rw (← small_lower false x refl)
    (record { few_digits = lit< tt; small_power = lit≤ tt; lower = λ e. zero_lower x; upper = λ e. absurd (true≢false (sym e)) })
small_prints true x n = go (ℕ_discrete x.m 0)
  where
    go : Dec (x.m ≡ 0) → Printed true x (too_small true x)
    go (yes z) =
        rw (← small_zero true x z)
        (record { few_digits = lit< tt; small_power = lit≤ tt; lower = λ e. absurd (true≢false e); upper = λ e c. zero_upper x z })
    go (no z) =
        rw (← small_upper true x refl (omega (arith, z)))
        (record { few_digits = lit< tt; small_power = lit≤ tt; lower = λ e. absurd (true≢false e); upper = λ e c. tiny x (before true x 46 n) })

all : (up : Bool) (x : Scaled) → Printed up x (decimal_of up x) × (Found up x → Near x (decimal_of up x))
all up x = go (below_1 x) refl
  where
    go : (b : Bool) → below_1 x ≡ b → Printed up x (decimal_of up x) × (Found up x → Near x (decimal_of up x))
    go false e = let (p, n) = one_prints up x e in rw (is_one up x e) (p, λ f. n)
    go true e = ⊎_elim found none (lt_or_le (least_power up x) table_length)
      where
        found : least_power up x < table_length → Printed up x (decimal_of up x) × (Found up x → Near x (decimal_of up x))
        found l =
            let s = ≼_of_≺ (small up x e) in
            let (p, n) = found_prints up x s (least_power up x) l (low_power up x s l) (before up x) (here up x l) in
            rw (is_found up x e l) (p, λ f. n)

        none : table_length ≤ least_power up x → Printed up x (decimal_of up x) × (Found up x → Near x (decimal_of up x))
        none l = rw (is_small up x e l) (small_prints up x l, λ f. let g : ⊥ = omega (arith, f.found e, l) in absurd g)

pub printed : (up : Bool) (x : Scaled) → Printed up x (decimal_of up x)
printed up x = (all up x).0

pub near : (up : Bool) (x : Scaled) → Found up x → Near x (decimal_of up x)
near up x = (all up x).1

-- ---- every number from 8 × 10^-43 on has a power

pub found_from : (up : Bool) (x : Scaled) → whole 8 ≼ value x ⊗ whole (10 ^ 43) → Found up x
found_from up x h = record { found = λ b. ⊎_elim (λ l. l) (λ g. absurd (last_does (before up x 46 g))) (lt_or_le (least_power up x) table_length) }
  where
    shift : (q : Frac) (m n : ℕ) → q ⊗ whole m ⊗ whole n ≈ q ⊗ whole (m * n)
    shift q m n = unfold ◌⊗◌ whole in record { eq = omega arith }

    less : whole 1000 ⊗ ε ⊗ ε ≺ whole 8 ⊗ whole 1000
    less = unfold ◌⊗◌ whole slack ◌over◌ in record { lt = lit< tt }

    -- 10^46 reaches 1,000
    last_does : reaches up x 46 ≡ false → ⊥
    last_does low =
        ≺_irrefl
        (≼_≺
        (≼_trans (mul_mono h (≼_refl (whole 1000)))
        (≼_trans (≼_of (shift (value x) (10 ^ 43) 1000)) (≼_trans (product_below up x 46) (mul_mono (mul_mono (unreached up x 46 low) (≼_refl ε)) (≼_refl ε)))))
        less)
