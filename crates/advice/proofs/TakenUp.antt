-- A fraction taken up to a whole number, and how the code forms it for a scaled number above 0.
use mathlib.Core.Path.{◌≡◌, refl, sym, ap, ◌∙◌, subst}
use mathlib.Core.Bool.{true, false}
use Prim.Native.Nat.{ℕ, zero, suc, pred, ◌+◌, ◌-◌, ◌*◌, ◌/◌, ◌%◌, ◌^◌, ◌≤◌, ◌<◌}
use native.Mathlib.Nat.{le_of_suc-le-suc, div-add-mod', mod-lt, div-lt_iff_lt-mul, div-eq_of_lt-le, mod-eq_of_lt, one-mul, mul-one, div-one, mul-le-mul_left, suc-pred-eq_of_pos, mul-pos, zero-lt-suc}
use native.Mathlib.Omega.{arith}
use lib.Dec.{T, lt→ltb}
use lib.IntN.{ℤ, pos, negsuc, nat_abs}
use lib.Ieee.Positive.{first_pos}
use lib.Pow.{pow_pos, pow_mono, pow-lt, high}
use lib.Signed.{lt_z}
use mir.Facts.{to_z-of_z}
use mir.Syntax.{w32}
use mir.Val.{to_z, of_z}
use borrow.Author.Tests.{lt-ltb, le-ltb}
use Rattle.std.specs.Prelude.{None, Some}
use Rattle.std.specs.Int.{div_ceil}
use Rattle.std.proofs.lemmas.Grind.{div_ceil_times}
use Rattle.exact.specs.declared.Scaled.{Scaled}
use Rattle.exact.specs.Integer.{pos_part, neg_part}
use Rattle.exact.specs.Fraction.{Frac, ◌≼◌, whole}
use Rattle.exact.specs.Scaled.{scaled, value, Normal}
use Rattle.exact.proofs.Operations.{normal}
use Rattle.exact.proofs.Signed.{fits}
use Rattle.advice.specs.Orders.{largest_M}
use Rattle.advice.specs.Private.Order.{order_for}
use Rattle.advice.specs.Advice.{taken_up, entry_for}
use Rattle.advice.specs.Private.Positive.{Positive}

-- ---- the least whole number not below q

covers : (n d c r : ℕ) → c * d + r ≡ n + pred d → r < d → suc (pred d) ≡ d → n * 1 ≤ c * d
covers n d c r e l s = omega arith

fewer : (n d v : ℕ) → n * 1 ≤ v * d → suc (pred d) ≡ d → n + pred d < suc v * d
fewer n d v h s = omega arith

pub not_below : (q : Frac) → q ≼ whole (taken_up q)
unfolding taken_up whole
not_below q =
    let a = q.num + pred q.den in
    record { le = covers q.num q.den (a / q.den) (a % q.den) (div-add-mod' a q.den) (mod-lt a q.pos) (suc-pred-eq_of_pos q.pos) }

pub least : (q : Frac) (v : ℕ) → q ≼ whole v → taken_up q ≤ v
unfolding taken_up whole
least q v h = le_of_suc-le-suc ((div-lt_iff_lt-mul q.pos).1 (fewer q.num q.den v h.le (suc-pred-eq_of_pos q.pos)))

one_or_more : (q : Frac) → 0 < q.num → 1 ≤ taken_up q
unfolding whole
one_or_more q p = first_pos (taken_up q) q.den (omega (arith, (not_below q).le))

-- ---- an exponent that is not above 0

not_positive : (e : ℤ) → lt_z (pos 0) e ≡ false → pos_part e ≡ 0
not_positive (pos zero) h = refl
not_positive (pos (suc n)) h = absurd (subst T h (lt→ltb 0 (suc n) (zero-lt-suc n)))
not_positive (negsuc n) h = refl

size_is : (e : ℤ) → pos_part e ≡ 0 → nat_abs e ≡ neg_part e
size_is (pos n) h = h
size_is (negsuc n) h = refl

-- ---- of a scaled number

taken_up_is : (x : Scaled) → pos_part x.e ≡ 0 → taken_up (value x) ≡ (x.m + pred (2 ^ neg_part x.e)) / 2 ^ neg_part x.e
unfolding taken_up value
taken_up_is x z = rw (z, mul-one x.m)

split : (m d : ℕ) → 0 < m → suc (pred d) ≡ d → m + pred d ≡ 1 * d + (m - 1)
split m d p s = omega arith

below_one : (x : Scaled) → 0 < x.m → x.m < 2 ^ 32 → pos_part x.e ≡ 0 → 31 < neg_part x.e → 1 ≡ taken_up (value x)
below_one x p h z l =
    let n = neg_part x.e in
    let big : 2 ^ 32 ≤ 2 ^ n = pow_mono l in
    sym (taken_up_is x z ∙ ap (λ (y : ℕ). y / 2 ^ n) (split x.m (2 ^ n) p (suc-pred-eq_of_pos (pow_pos n))) ∙ high 1 n (omega (arith, big)))

quotient : (n d c : ℕ) → 0 < d → (n ≤ c * d) × (c * d < n + d) → (n + pred d) / d ≡ c
quotient n d c p b = let s = suc-pred-eq_of_pos p in div-eq_of_lt-le d (omega (arith, b, s)) (omega (arith, b, s))

formed : (x : Scaled) → pos_part x.e ≡ 0 → div_ceil x.m (2 ^ neg_part x.e) ≡ taken_up (value x)
formed x z =
    let p = pow_pos (neg_part x.e) in
    sym (taken_up_is x z ∙ quotient x.m (2 ^ neg_part x.e) _ p (div_ceil_times x.m (2 ^ neg_part x.e) p))

-- the code's 1 << n
shifted : (n : ℕ) → n ≤ 31 → 1 * 2 ^ n % 2 ^ 64 ≡ 2 ^ n
shifted n l = rw (one-mul (2 ^ n)) (mod-eq_of_lt (pow-lt {j = 64} (omega (arith, l))))

large_at : (m : ℕ) (e : ℤ) → 2 ^ 32 ≤ 2 * m → lt_z (pos 0) e ≡ true → largest_M < taken_up (value (scaled m e))
unfolding taken_up value
large_at m (pos n) l h = rw (div-one (m * 2 ^ n + 0)) (omega (arith, mul-le-mul_left m (pow_pos n)))
large_at m (negsuc n) l h = absurd (subst T (sym h) tt)

module _ {x : Scaled} (h : Positive x) where
  bits : Normal 32 x
  bits = normal h.range.is_scaled (λ (e : x.m ≡ 0). let f : ⊥ = omega (arith, h.above_0, e) in f)

  -- a call that is handed the exponent sees it through its bits
  kept : to_z w32 (of_z w32 x.e) ≡ x.e
  kept = to_z-of_z {w = w32} (fits x.e (omega (arith, h.range.above)) (omega (arith, h.range.below)))

  size : pos_part x.e ≡ 0 → nat_abs (to_z w32 (of_z w32 x.e)) ≡ neg_part x.e
  size z = rw kept (size_is x.e z)

  large : lt_z (pos 0) x.e ≡ true → largest_M < taken_up (value x)
  large t = large_at x.m x.e bits.low t

  pub one_at_least : 1 ≤ taken_up (value x)
  unfolding value
  one_at_least = one_or_more (value x) (mul-pos h.above_0 (pow_pos (pos_part x.e)))

-- ---- as the code forms it; n is the size of the exponent

pub by_size : (x : Scaled) (n : ℕ) → Positive x → pos_part x.e ≡ 0 → n ≡ nat_abs (to_z w32 (of_z w32 x.e)) → 31 < n → 1 ≡ taken_up (value x)
by_size x n h z e l = below_one x h.above_0 (bits h).high z (rw (e, size h z) at l)

pub by_ceiling : (x : Scaled) (n m r : ℕ) → Positive x → pos_part x.e ≡ 0 → n ≡ nat_abs (to_z w32 (of_z w32 x.e)) → n ≤ 31 → m ≡ x.m → r ≡ div_ceil m (1 * 2 ^ n % 2 ^ 64) → r ≡ taken_up (value x)
by_ceiling x n m r h z e l m_is is = (rw (shifted n l, e, size h z, m_is) at is) ∙ formed x z

-- ---- the entry for it

pub above_0 : (x : Scaled) → Positive x → lt_z (pos 0) (to_z w32 (of_z w32 x.e)) ≡ true → largest_M < taken_up (value x)
above_0 x h t = large h (rw (kept h) at t)

pub not_above_0 : (x : Scaled) → Positive x → lt_z (pos 0) (to_z w32 (of_z w32 x.e)) ≡ false → pos_part x.e ≡ 0
not_above_0 x h f = not_positive x.e (rw (kept h) at f)

pub entry_none : (M : ℕ) → largest_M < M → None ≡ entry_for M
unfolding entry_for
entry_none M l = rw (lt-ltb largest_M M l)

pub entry_some : (M n : ℕ) → M ≤ largest_M → n ≡ order_for M → Some n ≡ entry_for M
unfolding entry_for
entry_some M n l e = rw (le-ltb largest_M M l, e)
