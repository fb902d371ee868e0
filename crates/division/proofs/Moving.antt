-- A quotient's mantissa does not depend on the number's exponent, and its exponent moves with it.
use mathlib.Core.Path.{◌≡◌, refl, sym, ◌∙◌, ap}
use mathlib.Core.Bool.{Bool, true, false, cond, ◌&&◌}
use mathlib.Core.Logic.{inl, inr}
use Prim.Native.Nat.{ℕ, zero, suc, ◌*◌, ◌/◌, ◌%◌, ◌^◌, ◌≤◌, ◌<◌}
use native.Mathlib.Nat.{pow-succ', mul-le-mul_left}
use native.Mathlib.Omega.{arith}
use lib.Dec.{ltb, eqb, lit<, lit≤}
use lib.IntN.{ℤ, pos, negsuc, ◌+ℤ◌, ◌-ℤ◌}
use lib.Pow.{pow_pos}
use mir.Syntax.{w32}
use mir.Val.{SFits}
use Rattle.exact.specs.declared.Scaled.{Scaled}
use Rattle.exact.specs.Integer.{pos_part, neg_part}
use Rattle.exact.specs.Fraction.{◌≼◌, ◌÷◌}
use Rattle.exact.specs.Numbers.{lowest_exponent}
use Rattle.exact.specs.Scaled.{scaled, value, Normal, IsScaled, IsRound}
use Rattle.exact.specs.Private.Ranges.{InRange}
use Rattle.exact.specs.Private.Round.{finish, spare, inexact, pack, round}
use Rattle.exact.proofs.Fractions.{≼_trans}
use Rattle.exact.proofs.Integers.{balanced, bal_add, bal_diff}
use Rattle.exact.proofs.Signed.{pos_fits, sum_fits_in}
use Rattle.exact.proofs.Rounding.{round_is}
use Rattle.exact.proofs.Operations.{over_packs, wide}
use Rattle.exact.proofs.Ranges.{over_range}

-- x × 2^e
abbrev pub moved : ℤ → Scaled → Scaled
moved e x = scaled x.m (e +ℤ x.e)

add_last : (e d : ℤ) (t : ℕ) → e +ℤ d +ℤ pos t ≡ e +ℤ (d +ℤ pos t)
add_last e d t = balanced _ _ (omega (arith, bal_add (e +ℤ d) (pos t), bal_add e d, bal_add e (d +ℤ pos t), bal_add d (pos t)))

from_zero : (e : ℤ) (w : ℕ) → e -ℤ pos w ≡ e +ℤ (pos 0 -ℤ pos w)
from_zero e w = balanced _ _ (omega (arith, bal_diff e (pos w), bal_add e (pos 0 -ℤ pos w), bal_diff (pos 0) (pos w)))

-- ---- `pack` with another exponent

finish_moves : (b m : ℕ) (e d : ℤ) (on : Bool) → finish b m (e +ℤ d) on ≡ moved e (finish b m d on)
unfolding finish
finish_moves b m e d false = refl
finish_moves b m e d true = go (eqb (suc m) (2 ^ b))
  where
    go : (t : Bool) → cond t (scaled (2 ^ b / 2) (e +ℤ d +ℤ pos 1)) (scaled (suc m) (e +ℤ d)) ≡ moved e (cond t (scaled (2 ^ b / 2) (d +ℤ pos 1)) (scaled (suc m) d))
    go true = ap (λ (z : ℤ). scaled (2 ^ b / 2) z) (add_last e d 1)
    go false = refl

pack_moves : (up : Bool) (b h : ℕ) (e d : ℤ) (s : Bool) → 0 < h → pack up b h (e +ℤ d) s ≡ moved e (pack up b h d s)
unfolding pack
pack_moves up b zero e d s p = let f : ⊥ = omega (arith, p) in absurd f
pack_moves up b (suc h) e d s p =
    rw (add_last e d (spare b (suc h))) (finish_moves b (suc h / 2 ^ spare b (suc h)) e (d +ℤ pos (spare b (suc h))) (up && inexact b (suc h) s))

-- ---- the quotient of the mantissa

module _ (up : Bool) (x : Scaled) (k : ℕ) (n : Normal 32 x) (kp : 0 < k) (kl : k ≤ 2 ^ 32) where
  abbrev base : Scaled
  base = scaled x.m (pos 0)

  base_normal : Normal 32 base
  base_normal = record { low = n.low; high = n.high }

  pub moves : round up 32 (value x ÷ k) ≡ moved x.e (round up 32 (value base ÷ k))
  moves =
      let h = x.m * 2 ^ 32 / k in
      let s = ltb 0 (x.m * 2 ^ 32 % k) in
      let there : pack up 32 h (x.e -ℤ pos 32) s ≡ round up 32 (value x ÷ k) = (over_packs up 32 32 x k (lit< tt) n kp kl).is in
      let here : pack up 32 h (pos 0 -ℤ pos 32) s ≡ round up 32 (value base ÷ k) = (over_packs up 32 32 base k (lit< tt) base_normal kp kl).is in
      let hp : 0 < h = omega (arith, wide 32 32 x.m k kp kl n.low) in
      sym there ∙ ap (λ (z : ℤ). pack up 32 h z s) (from_zero x.e 32) ∙ pack_moves up 32 h x.e (pos 0 -ℤ pos 32) s hp ∙ ap (moved x.e) here

  quotient_low : value base ÷ k ≼ value base
  quotient_low = unfold ◌÷◌ in record { le = omega arith }

  -- the quotient is not above the mantissa
  not_above : (u : Bool) {q : Scaled} → IsRound u 32 (value base ÷ k) q → value q ≼ value base
  not_above false r = ≼_trans r.side quotient_low
  not_above true r = r.best base (inr base_normal) quotient_low

  no_higher : (m : ℕ) (e : ℤ) → 2 ^ 32 ≤ 2 * m → value (scaled m e) ≼ value base → pos_part e ≡ 0
  unfolding value
  no_higher m (pos zero) l h = refl
  no_higher m (pos (suc p)) l h =
      let f : ⊥ = omega (arith, rw (pow-succ' 2 p) at h.le, l, n.high, mul-le-mul_left m (pow_pos p)) in
      absurd f
  no_higher m (negsuc p) l h = refl

  exponent_high : (q : Scaled) → IsScaled 32 q → value q ≼ value base → pos_part q.e ≡ 0
  exponent_high q (inl z) h = rw z
  exponent_high q (inr m) h = no_higher q.m q.e m.low h

  exponent_low : InRange 32 33 (round up 32 (value base ÷ k))
  exponent_low = over_range up 32 (lit< tt) {A = 0} k kp kl (record { is_scaled = inr base_normal; above = lit≤ tt; below = lit≤ tt })

  -- where the number's exponent fits and is not below the lowest, so does the quotient's
  pub still_fits : SFits w32 x.e → neg_part x.e ≤ lowest_exponent → SFits w32 (x.e +ℤ (round up 32 (value base ÷ k)).e)
  still_fits f l =
      let r = round_is up 32 (value base ÷ k) (lit< tt) in
      sum_fits_in w32 x.e (round up 32 (value base ÷ k)).e
      (omega (arith, pos_fits f, exponent_high _ r.is_scaled (not_above up r)))
      (omega (arith, l, exponent_low.below))
