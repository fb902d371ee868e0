-- The two conditions on whole numbers, and that they pass from an order to every later one and from an M to every smaller one.
use Prim.Native.Nat.{ℕ, zero, suc, ◌+◌, ◌*◌, ◌^◌, ◌≤◌}
use native.Mathlib.Nat.{add-zero, add-suc, le_dest, mul-le-mul_left, mul-le-mul_right, pow-zero, pow-succ', pow-le-pow_left, le_trans, suc-pred-eq_of_pos}
use native.Mathlib.Omega.{arith}
use Rattle.exact.specs.Fraction.{◌over◌}
use Rattle.exact.specs.Series.{factorial}
use Rattle.exact.proofs.ExactTerms.{factorial_pos}
use Rattle.advice.specs.Orders.{tail_odds, Enough}

-- the second condition, multiplied out
pub small_of : (M N : ℕ) → Enough M N → 2 * M ^ N * tail_odds ≤ factorial (suc N)
unfolding ◌over◌
small_of M N e =
    let h = rw (suc-pred-eq_of_pos (factorial_pos (suc N))) at e.small.le in
    omega (arith, h)

pub of_small : (M N : ℕ) → 2 * M ≤ N + 2 → 2 * M ^ N * tail_odds ≤ factorial (suc N) → Enough M N
unfolding ◌over◌
of_small M N h l =
    record { passes = omega (arith, h); small = record { le = rw (suc-pred-eq_of_pos (factorial_pos (suc N))) (omega (arith, l)) } }

-- to a smaller M
pub smaller : {M' M : ℕ} (N : ℕ) → M' ≤ M → Enough M N → Enough M' N
smaller {M'} {M} N l e =
    of_small M' N (omega (arith, e.passes)) (le_trans (mul-le-mul_right tail_odds (mul-le-mul_left 2 (pow-le-pow_left l N))) (small_of M N e))

-- to the next order
step : (M N p L f : ℕ) → M ≤ suc (suc N) → 2 * p * L ≤ f → 2 * (M * p) * L ≤ suc (suc N) * f
step M N p L f l h = omega (arith, mul-le-mul_left M h, mul-le-mul_right f l)

next : (M N : ℕ) → Enough M N → Enough M (suc N)
unfolding factorial
next M N e =
    of_small M (suc N) (omega (arith, e.passes))
    (rw (pow-succ' M N) (step M N (M ^ N) tail_odds (factorial (suc N)) (omega (arith, e.passes)) (small_of M N e)))

so_many : (M N d : ℕ) → Enough M N → Enough M (N + d)
so_many M N zero e = rw (add-zero N) e
so_many M N (suc d) e = rw (add-suc N d) (next M (N + d) (so_many M N d e))

pub later : (M N N' : ℕ) → N ≤ N' → Enough M N → Enough M N'
later M N N' l e = let (d, q) = le_dest l in rw (← q) (so_many M N d e)

-- order 0 is never enough
pub not_0 : (M : ℕ) → Enough M 0 → ⊥
unfolding factorial
not_0 M e = omega (arith, rw (pow-zero M) at (small_of M 0 e))
