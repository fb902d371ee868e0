-- The numbers that are summed and compared: what the test for them says.
use mathlib.Core.Path.{◌≡◌}
use mathlib.Core.Bool.{Bool, true, not}
use Prim.Native.Nat.{ℕ, ◌^◌, ◌≤◌, zero-le}
use lib.Dec.{ltb}
use lib.IntN.{ℤ, pos, negsuc, nat_abs}
use borrow.Author.Tests.{le-ltb, ltb-false, not-true}
use Rattle.exact.specs.declared.Scaled.{Scaled}
use Rattle.exact.specs.Fraction.{◌⊕◌}
use Rattle.exact.specs.Integer.{pos_part, neg_part}
use Rattle.exact.specs.Scaled.{value}
use Rattle.exact.specs.Refusals.{scaled_form}
use Rattle.exact.specs.Private.Ranges.{InRange}
use Rattle.exact.specs.Private.Round.{round}
use Rattle.exact.proofs.Accepted.{both_true}
use Rattle.exact.proofs.Form.{form_of, form_is}
use Rattle.encounter.specs.Sums.{in_limits, sum_in_limits, greater, greater_in_limits}

-- ---- what it says

above_within : (k : ℕ) (e : ℤ) → nat_abs e ≤ k → pos_part e ≤ k
above_within k (pos n) h = h
above_within k (negsuc n) h = zero-le

below_within : (k : ℕ) (e : ℤ) → nat_abs e ≤ k → neg_part e ≤ k
below_within k (pos n) h = zero-le
below_within k (negsuc n) h = h

within : (k : ℕ) (e : ℤ) → pos_part e ≤ k → neg_part e ≤ k → nat_abs e ≤ k
within k (pos n) p q = p
within k (negsuc n) p q = q

pub range_of : (x : Scaled) → in_limits x ≡ true → InRange 32 (2 ^ 28) x
unfolding in_limits
range_of x h =
    let (near, form) = both_true (not (ltb (2 ^ 28) (nat_abs x.e))) (scaled_form x) h in
    let l = ltb-false (2 ^ 28) (nat_abs x.e) (not-true _ near) in
    record { is_scaled = form_is x form; above = above_within (2 ^ 28) x.e l; below = below_within (2 ^ 28) x.e l }

pub limits_of : {x : Scaled} → InRange 32 (2 ^ 28) x → in_limits x ≡ true
unfolding in_limits
limits_of {x} h = rw (le-ltb (2 ^ 28) (nat_abs x.e) (within (2 ^ 28) x.e h.above h.below), form_of x h.is_scaled)

-- ---- numbers of the private arithmetic are in the limits

pub sum_is : (up : Bool) {x y : Scaled} → InRange 32 (2 ^ 28) x → InRange 32 (2 ^ 28) y → sum_in_limits up x y ≡ round up 32 (value x ⊕ value y)
unfolding sum_in_limits
sum_is up h k = rw (limits_of h, limits_of k)

pub greater_is : {x y : Scaled} → InRange 32 (2 ^ 28) x → InRange 32 (2 ^ 28) y → greater_in_limits x y ≡ greater x y
unfolding greater_in_limits
greater_is h k = rw (limits_of h, limits_of k)
