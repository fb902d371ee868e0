-- Request #103: digits, powers and decimals by cases; and that the value alone counts.
use mathlib.Core.Path.{◌≡◌, refl, sym, ◌∙◌, ap}
use mathlib.Core.Bool.{Bool, true, false, not, true≢false}
use mathlib.Core.Logic.{⊎_elim}
use Prim.Native.Nat.{ℕ, zero, suc, ◌+◌, ◌-◌, ◌≤◌, ◌<◌}
use native.Mathlib.Omega.{arith}
use lib.Dec.{lit<}
use borrow.Author.Tests.{lt-ltb, le-ltb, eq-eqb, ne_eqb}
use native.Mathlib.Decide.{ℕ_discrete}
use Rattle.exact.specs.declared.Scaled.{Scaled}
use Rattle.exact.specs.Fraction.{◌≼◌, ◌≈◌, whole, at_most, above}
use Rattle.exact.specs.Scaled.{value}
use Rattle.exact.specs.Decimals.{table_length, entry, times_power, reaches, least_power, floor, digits_of, at_power, one_or_more, zero_decimal, least_decimal, too_small, below_1, decimal_of}
use Rattle.exact.specs.Least.{least}
use Rattle.exact.proofs.Fractions.{◌≺◌, lt_or_le, ≈_refl, mul_cong}
use Rattle.exact.proofs.Order.{at_most_cong, above_holds}
use Rattle.exact.proofs.Rounding.{round_cong}
use Rattle.exact.proofs.DecimalProducts.{before, here, not_two, three_few, most}

-- ---- the digits of a whole part, by cases
pub digits_up : (up : Bool) (w : ℕ) → up ≡ true → w + 1 ≡ digits_of up w
unfolding digits_of
digits_up up w e = rw e (omega arith)

pub digits_cut : (up : Bool) (w : ℕ) → up ≡ false → w ≡ 10000 → 9999 ≡ digits_of up w
unfolding digits_of
digits_cut up w e h = rw (e, eq-eqb w 10000 h)

pub digits_same : (up : Bool) (w : ℕ) → up ≡ false → (w ≡ 10000 → ⊥) → w ≡ digits_of up w
unfolding digits_of
digits_same up w e h = rw (e, ne_eqb w 10000 h)

-- they are one more at most
digits_next : (up : Bool) (w : ℕ) → digits_of up w ≤ suc w
digits_next true w = omega (arith, digits_up true w refl)
digits_next false w = go (ℕ_discrete w 10000)
  where
    go : Dec (w ≡ 10000) → digits_of false w ≤ suc w
    go (yes e) = omega (arith, e, digits_cut false w refl e)
    go (no e) = omega (arith, digits_same false w refl e)

-- ---- the digits at a power, by cases
pub at_power_few : (k n : ℕ) → n < 10000 → at_power k n ≡ record { digits = n; power = k - 3 }
unfolding at_power
at_power_few k n l = rw (lt-ltb n 10000 l)

pub at_power_carried : (k n : ℕ) → 10000 ≤ n → at_power k n ≡ record { digits = n - 9000; power = k - 4 }
unfolding at_power
at_power_carried k n l = rw (le-ltb n 10000 l)

-- ---- a number that is too small, by cases

pub small_zero : (up : Bool) (x : Scaled) → x.m ≡ 0 → zero_decimal ≡ too_small up x
unfolding too_small
small_zero false x z = refl
small_zero true x z = rw (eq-eqb x.m 0 z)

pub small_lower : (up : Bool) (x : Scaled) → up ≡ false → zero_decimal ≡ too_small up x
unfolding too_small
small_lower up x e = rw e

pub small_upper : (up : Bool) (x : Scaled) → up ≡ true → 0 < x.m → least_decimal ≡ too_small up x
unfolding too_small
small_upper up x e p = rw (e, ne_eqb x.m 0 (λ z. omega (arith, z, p)))

-- ---- the decimal, by cases

module _ (up : Bool) (x : Scaled) where
  pub is_one : below_1 x ≡ false → decimal_of up x ≡ one_or_more
  unfolding decimal_of
  is_one b = rw b

  module _ (b : below_1 x ≡ true) where
    pub is_found : least_power up x < table_length → decimal_of up x ≡ at_power (least_power up x) (digits_of up (floor (value (times_power up x (least_power up x)))))
    unfolding decimal_of
    is_found l = rw (b, lt-ltb (least_power up x) table_length l)

    pub is_small : table_length ≤ least_power up x → decimal_of up x ≡ too_small up x
    unfolding decimal_of
    is_small l = rw (b, le-ltb (least_power up x) table_length l)

    pub small : value x ≺ whole 1
    unfolding below_1
    small = above_holds _ _ b

-- the least power that reaches 1,000, for a number below 1
module _ (up : Bool) (x : Scaled) (small : value x ≼ whole 1) where
  pub low_power : least_power up x < table_length → 3 ≤ least_power up x
  low_power l = ⊎_elim (λ c. absurd (true≢false (sym (here up x l) ∙ not_two up x small (least_power up x) (omega arith)))) (λ c. c) (lt_or_le (least_power up x) 3)

  -- the whole part there, and how far its digits go
  module _ (l : least_power up x < table_length) where
    pub whole_most : floor (value (times_power up x (least_power up x))) ≤ 10000
    whole_most = go (least_power up x) (low_power l) (before up x)
      where
        go : (k : ℕ) → 3 ≤ k → ((j : ℕ) → j < k → reaches up x j ≡ false) → floor (value (times_power up x k)) ≤ 10000
        go zero l u = let f : ⊥ = omega arith in absurd f
        go (suc j) l u = most up x j (u j (omega arith))

    pub digits_most : digits_of up (floor (value (times_power up x (least_power up x)))) ≤ 10001
    digits_most = omega (arith, whole_most, digits_next up (floor (value (times_power up x (least_power up x)))))

    pub digits_high : 10000 ≤ digits_of up (floor (value (times_power up x (least_power up x)))) → 4 ≤ least_power up x
    digits_high h = three_few up x small (least_power up x) (low_power l) (omega (arith, h, digits_next up (floor (value (times_power up x (least_power up x))))))

-- ---- the value alone counts, not m and e

module _ (up : Bool) (x y : Scaled) (h : value x ≈ value y) where
  times_same : (k : ℕ) → times_power up x k ≡ times_power up y k
  unfolding times_power
  times_same k = round_cong up 32 (lit< tt) (mul_cong h (≈_refl (value (entry up k))))

  power_same : least_power up x ≡ least_power up y
  unfolding least_power reaches
  power_same = λ i. least (λ k. at_most (whole 1000) (value (times_same k i))) table_length

  below_same : below_1 x ≡ below_1 y
  unfolding below_1 above
  below_same = ap not (at_most_cong _ _ _ _ (≈_refl (whole 1)) h)

  small_same : 0 < x.m → 0 < y.m → too_small up x ≡ too_small up y
  small_same p q = go up
    where
      go : (up : Bool) → too_small up x ≡ too_small up y
      go false = sym (small_lower false x refl) ∙ small_lower false y refl
      go true = sym (small_upper true x refl p) ∙ small_upper true y refl q

  pub decimal_same : 0 < x.m → 0 < y.m → decimal_of up x ≡ decimal_of up y
  unfolding decimal_of
  decimal_same p q = rw (below_same, power_same, times_same (least_power up y), small_same p q)
