-- The search for the least power: where it begins, and one place after the other.
use mathlib.Core.Path.{◌≡◌, refl, sym, subst}
use mathlib.Core.Bool.{Bool, true, false}
use mathlib.Core.Logic.{inr}
use Prim.Native.Nat.{ℕ, zero, suc, pred, ◌+◌, ◌*◌, ◌/◌, ◌^◌, ◌≤◌, ◌<◌}
use native.Mathlib.Nat.{le_trans, lt_of_le_of_lt, mul-le-mul_right, mul-lt-mul_of_pos_right, pow-le-pow_right}
use native.Mathlib.Omega.{arith}
use lib.Dec.{T, leb, leb→le, lit<, lit≤}
use lib.IntN.{pos}
use lib.Pow.{pow-add, pow_mono, pow_pos}
use Rattle.exact.specs.declared.Scaled.{Scaled}
use Rattle.exact.specs.Integer.{pos_part, neg_part}
use Rattle.exact.specs.Fraction.{Frac, ◌⊗◌, whole}
use Rattle.exact.specs.Scaled.{value}
use Rattle.exact.specs.Decimals.{table_length, entry, times_power, reaches, least_power, floor}
use Rattle.exact.specs.Private.Ranges.{InRange}
use Rattle.encounter.specs.Private.Loops.{InBinade}
use Rattle.exact.specs.Private.Round.{round}
use Rattle.exact.proofs.Fractions.{◌≺◌, ≼_trans, whole_mono}
use Rattle.exact.proofs.Order.{at_most_yes}
use Rattle.exact.proofs.Integers.{pos_diff, neg_diff}
use Rattle.exact.proofs.Ranges.{widen, product_range, fraction_range}
use Rattle.exact.proofs.Rounding.{round_is}
use Rattle.exact.proofs.Tables.{table, agree}
use Rattle.exact.proofs.Least.{least_is}
use Rattle.exact.proofs.DecimalProducts.{ε_square, too_low, under, floor_least, floor_below, reached}
use Rattle.encounter.proofs.decimals.Wholes.{flat}

-- ---- where it begins

-- a mantissa of 32 bits at most, and a fraction of 32 bits and s more
pub below_power : (x : Scaled) (s : ℕ) → x.m < 2 ^ 32 → pos_part x.e ≡ 0 → s + 32 ≤ neg_part x.e → value x ⊗ whole (2 ^ s) ≺ whole 1
unfolding value whole ◌⊗◌
below_power x s h z l =
    let w : 2 ^ s * 2 ^ 32 ≤ 2 ^ neg_part x.e = rw (← pow-add 2 s 32) (pow_mono l) in
    record { lt = rw z (omega (arith, w, mul-lt-mul_of_pos_right h (pow_pos s))) }

pub unit : {q : Frac} → q ⊗ whole (2 ^ 0) ≺ whole 1 → q ≺ whole 1
unfolding ◌⊗◌ whole
unit h = record { lt = omega (arith, h.lt) }

-- the first power that is tried, and the one before it
abbrev pub first : ℕ → ℕ
first s = 3 + (s * 1233 + 4095) / 4096

abbrev before : ℕ → ℕ
before s = 2 + (s * 1233 + 4095) / 4096

-- the power before is too low, for each s: one computation
abbrev low : ℕ → Bool
low s = leb (10 ^ before s * ε_square) (1000 * 2 ^ s * 2 ^ 62)

enough : table low 143 ≡ table (λ s. true) 143
enough = refl

-- a power that is not above one that is too low
lower : {j k n : ℕ} → j ≤ k → 10 ^ k * ε_square ≤ n → 10 ^ j * ε_square ≤ n
lower l h = le_trans (mul-le-mul_right ε_square (pow-le-pow_right {n = 10} (lit< tt) l)) h

first_low : (s k : ℕ) → s < 143 → k < first s → 10 ^ k * ε_square ≤ 1000 * 2 ^ s * 2 ^ 62
first_low s k l h =
    let w : k ≤ before s = omega arith in
    lower w (leb→le _ _ (subst T (sym (agree low (λ s. true) 143 enough s l)) tt))

-- none of the table's powers is high enough below 2^-143
last_low : (k : ℕ) → k < table_length → 10 ^ k * ε_square ≤ 1000 * 2 ^ 143 * 2 ^ 62
last_low k l = let w : k ≤ 46 = omega arith in lower w (lit≤ tt)

module _ (up : Bool) (x : Scaled) where
  module _ (s : ℕ) (b : InBinade s x) where
    flat_x : pos_part x.e ≡ 0
    flat_x = rw b.exponent (omega (arith, pos_diff (pos 0) (pos (s + 32))))

    depth : neg_part x.e ≡ s + 32
    depth = rw b.exponent (omega (arith, neg_diff (pos 0) (pos (s + 32))))

    pub in_range : InRange 32 174 x
    in_range = record { is_scaled = inr b.bits; above = omega (arith, flat_x); below = omega (arith, depth, b.deepest) }

    pub below_one : value x ≺ whole 1
    below_one = unit (below_power x 0 b.bits.high flat_x (omega (arith, depth)))

    pub before_first : (k : ℕ) → k < first s → reaches up x k ≡ false
    before_first k h = too_low up x s k (below_power x s b.bits.high flat_x (omega (arith, depth))) (first_low s k (omega (arith, b.deepest)) h)

  pub none_reaches : value x ⊗ whole (2 ^ 143) ≺ whole 1 → least_power up x ≡ table_length
  unfolding least_power
  none_reaches h = sym (least_is (reaches up x) table_length table_length (lit≤ tt) (λ k l. too_low up x 143 k h (last_low k l)) (λ l. let f : ⊥ = omega arith in absurd f))

pub first_within : (s : ℕ) → s ≤ 142 → first s ≤ 46
first_within s l = omega arith

-- ---- one place

pub entry_range : (up : Bool) (k : ℕ) → k < table_length → InRange 32 492 (entry up k)
unfolding entry
entry_range up k l =
    let w : k ≤ 46 = omega arith in
    let h : 10 ^ k < 2 ^ 153 = lt_of_le_of_lt (pow-le-pow_right {n = 10} (lit< tt) w) (lit< tt) in
    fraction_range up 32 (lit< tt) 153 (whole (10 ^ k)) (unfold whole in h) (unfold whole in lit< tt)

module _ (up : Bool) (x : Scaled) (k : ℕ) where
  pub times_is : {p t : Scaled} → t ≡ entry up k → p ≡ round up 32 (value x ⊗ value t) → p ≡ times_power up x k
  unfolding times_power
  times_is h e = rw (← h) e

  module _ {p : Scaled} (e : p ≡ times_power up x k) where
    pub times_range : k < table_length → InRange 32 174 x → InRange 32 (2 ^ 28) p
    unfolding times_power
    times_range l r = rw e (widen (lit≤ tt) (product_range up 32 (lit< tt) r (entry_range up k l)))

  module _ {w : ℕ} (f : w ≡ floor (value (times_power up x k))) where
    pub reaches_yes : 1000 ≤ w → reaches up x k ≡ true
    unfolding reaches
    reaches_yes l = at_most_yes _ _ (≼_trans (whole_mono (rw f at l)) (floor_below _))

    pub reaches_no : (1000 ≤ w → ⊥) → reaches up x k ≡ false
    reaches_no l = go (reaches up x k) refl
      where
        go : (b : Bool) → reaches up x k ≡ b → b ≡ false
        go true h = absurd (l (rw f (floor_least _ 1000 (reached up x k h))))
        go false h = refl

-- where the power before does not reach 1,000
pub times_flat : (up : Bool) (x : Scaled) (k : ℕ) {p : Scaled} → 0 < k → p ≡ times_power up x k → reaches up x (pred k) ≡ false → pos_part p.e ≡ 0
times_flat up x zero l e u = let f : ⊥ = omega arith in absurd f
times_flat up x (suc k) l e u = rw e (flat (times_power up x (suc k)) (unfold times_power in (round_is up 32 _ (lit< tt)).is_scaled) (under up x k u))

-- k is the least power
pub least_at : (up : Bool) (x : Scaled) (k : ℕ) → k ≤ table_length → ((j : ℕ) → j < k → reaches up x j ≡ false) → (k < table_length → reaches up x k ≡ true) → k ≡ least_power up x
unfolding least_power
least_at up x k l u h = least_is (reaches up x) table_length k l u h
