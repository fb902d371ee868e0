-- Test 10, case by case.
use mathlib.Core.Path.{◌≡◌, refl}
use mathlib.Core.Bool.{Bool, true, false, not, ◌||◌}
use mathlib.Core.Logic.{⊎_elim}
use Prim.Native.Nat.{ℕ, suc, pred, ◌^◌, ◌≤◌, ◌<◌}
use native.Mathlib.Omega.{arith}
use lib.Dec.{ltb, eqb}
use lib.IntN.{ℤ, pos, negsuc, nat_abs}
use lib.Signed.{mag, lt_z}
use mir.Syntax.{w32}
use mir.Val.{to_z, of_z}
use borrow.Author.Tests.{eq-eqb, ne_eqb, eqb-true, eqb-false, lt-ltb, le-ltb, lt-leb, ltb-false, not-false}
use Rattle.exact.specs.declared.Scaled.{Scaled}
use Rattle.exact.specs.Integer.{neg_part}
use Rattle.exact.specs.Numbers.{lowest_exponent}
use Rattle.exact.specs.Scaled.{IsScaled}
use Rattle.exact.specs.Private.Ranges.{InRange}
use Rattle.exact.specs.Refusals.{scaled_form, refuses_10}
use Rattle.exact.proofs.Signed.{back, zero_bits}
use Rattle.exact.proofs.Fractions.{lt_or_le}
use Rattle.exact.proofs.Accepted.{neither}
use Rattle.exact.proofs.Form.{no_size, normal_form, form_of, form_is}

-- ---- exponents

low_is : (e : ℤ) → lt_z e (negsuc (pred lowest_exponent)) ≡ ltb lowest_exponent (neg_part e)
low_is (pos n) = refl
low_is (negsuc n) =
    ⊎_elim
    (λ l. rw (lt-ltb (pred lowest_exponent) n l, lt-ltb lowest_exponent (suc n) (omega (arith, l))))
    (λ l. rw (le-ltb (pred lowest_exponent) n l, le-ltb lowest_exponent (suc n) (omega (arith, l))))
    (lt_or_le (pred lowest_exponent) n)

-- ---- the test

module _ (x : Scaled) (k : ℕ) where
  pub by_zero : k ≡ 0 → true ≡ refuses_10 x k
  unfolding refuses_10
  by_zero z = rw (eq-eqb k 0 z)

  module _ (some : k ≡ 0 → ⊥) where
    pub of_zero : x.m ≡ 0 → mag x.e < 2 ^ 31 → not (eqb (of_z w32 x.e) 0) ≡ refuses_10 x k
    unfolding refuses_10 scaled_form
    of_zero z f = rw (zero_bits x.e (record { sfits = f }), ne_eqb k 0 some, eq-eqb x.m 0 z) (go (eqb (nat_abs x.e) 0) refl)
      where
        go : (t : Bool) → eqb (nat_abs x.e) 0 ≡ t → not t ≡ (not t || ltb lowest_exponent (neg_part x.e))
        go true e = rw (no_size x.e (eqb-true (nat_abs x.e) 0 e))
        go false e = refl

    pub of_small : (x.m ≡ 0 → ⊥) → x.m < 2 ^ 31 → ltb x.m (2 ^ 31) ≡ refuses_10 x k
    unfolding refuses_10 scaled_form
    of_small n l = rw (lt-ltb x.m (2 ^ 31) l, ne_eqb k 0 some, ne_eqb x.m 0 n, lt-leb (2 ^ 31) x.m l)

    pub of_normal : 2 ^ 31 ≤ x.m → x.m < 2 ^ 32 → mag x.e < 2 ^ 31 → lt_z (to_z w32 (of_z w32 x.e)) (negsuc (pred lowest_exponent)) ≡ refuses_10 x k
    unfolding refuses_10
    of_normal low high f = rw (back x.e f, low_is x.e, ne_eqb k 0 some, normal_form x (record { low = omega (arith, low); high = high }))

-- what passes
pub record Passed (x : Scaled) (k : ℕ) : Type 0 where
  pub some : k ≡ 0 → ⊥
  pub form : IsScaled 32 x
  pub high : neg_part x.e ≤ lowest_exponent

pub passes : (x : Scaled) (k : ℕ) → Passed x k → refuses_10 x k ≡ false
unfolding refuses_10
passes x k p = rw (ne_eqb k 0 p.some, form_of x p.form, le-ltb lowest_exponent (neg_part x.e) p.high)

pub passed_is : (x : Scaled) (k : ℕ) → refuses_10 x k ≡ false → Passed x k
unfolding refuses_10
passed_is x k h =
    let (first, low) = neither (eqb k 0 || not (scaled_form x)) (ltb lowest_exponent (neg_part x.e)) h in
    let (zero, form) = neither (eqb k 0) (not (scaled_form x)) first in
    record { some = eqb-false k 0 zero; form = form_is x (not-false (scaled_form x) form); high = ltb-false lowest_exponent (neg_part x.e) low }

-- every number of the private arithmetic does
pub in_range_passes : {x : Scaled} (k : ℕ) → 0 < k → InRange 32 (2 ^ 28) x → refuses_10 x k ≡ false
in_range_passes {x} k kp h = passes x k (record { some = λ z. omega (arith, kp, z); form = h.is_scaled; high = omega (arith, h.below) })
