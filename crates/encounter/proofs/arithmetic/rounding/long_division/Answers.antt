use mathlib.Core.Path.{◌≡◌, refl, sym, ap}
use mathlib.Core.Bool.{Bool, true, false, cond, ◌&&◌}
use Prim.Native.Nat.{ℕ, ◌+◌, ◌*◌, ◌/◌, ◌%◌, ◌^◌, ◌≤◌, ◌<◌}
use native.Mathlib.Nat.{div-lt_iff_lt-mul, mul-add-div_right, mul-add-mod_self_right, div-add-mod'}
use native.Mathlib.Omega.{arith}
use lib.Dec.{ltb}
use Rattle.std.specs.Int.{from_bool}
use Rattle.encounter.specs.Private.Loops.{whole_part}
use Rattle.encounter.proofs.arithmetic.rounding.long_division.Goals as goal

-- the number of a truth
bit_is : (b : Bool) → from_bool b ≡ cond b 1 0
bit_is true = refl
bit_is false = refl

bit_le : (b : Bool) → from_bool b ≤ 1
bit_le true = omega arith
bit_le false = omega arith

-- x / k, and 16 bits more
module _ (x y k : ℕ) (kl : k < 2 ^ 48) (l : y < 2 ^ 16 * k) (is : x ≡ y) where
  some : 0 < k
  some = omega arith

  split : y * 65536 ≡ x / k * 65536 * k + x % k * 65536
  split = rw (← is) (omega (arith, ap (λ (z : ℕ). z * 65536) (div-add-mod' x k)))

  quotient : x / k * 65536 + x % k * 65536 / k ≡ y * 65536 / k
  quotient = sym (rw split (mul-add-div_right some (x / k * 65536) (x % k * 65536)))

  rest : x % k * 65536 % k ≡ y * 65536 % k
  rest = sym (rw split (mul-add-mod_self_right (x / k * 65536) k (x % k * 65536)))

  fits : x / k * 65536 + x % k * 65536 / k < 2 ^ 32
  fits = rw quotient ((div-lt_iff_lt-mul some).1 (omega arith))

pub overflow_add-result-2 : goal.overflow_add-result-2
overflow_add-result-2 c = record { fits = omega (arith, fits _ _ _ c.requires.0 c.requires.2 c.followed-x.ensures, c.from.ensures, bit_le (c.args.up && ltb 0 (c.followed-x.result % c.args.k * 65536 % c.args.k))) }

pub returns : goal.returns
unfolding whole_part
returns c =
    let f = c.followed-x.ensures in
    rw (c.from.ensures, bit_is, quotient _ _ _ c.requires.0 c.requires.2 f, rest _ _ _ c.requires.0 c.requires.2 f) (refl, refl)
