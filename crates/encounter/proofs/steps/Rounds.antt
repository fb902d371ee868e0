-- One round of the exponential on both sides: ranges at every k to 256, and from the numbers at k to those at k + 1.
use mathlib.Core.Path.{◌≡◌, ◌∙◌}
use mathlib.Core.Bool.{Bool, true, false}
use Prim.Native.Nat.{ℕ, suc, ◌^◌, ◌≤◌, ◌<◌}
use native.Mathlib.Omega.{arith}
use lib.Dec.{lit≤}
use Rattle.exact.specs.declared.Encounter.{Encounter}
use Rattle.exact.specs.declared.Scaled.{Scaled}
use Rattle.exact.specs.Numbers.{exponential_cut}
use Rattle.exact.specs.Refusals.{Accepted}
use Rattle.exact.specs.Scaled.{one}
use Rattle.exact.specs.Private.Ranges.{largest_exponent, InRange, PowersIn}
use Rattle.exact.specs.Arithmetic.{rounded}
use Rattle.exact.specs.Steps.{PowersOf, next_power, powers, side_letters, side_powers}
use Rattle.exact.proofs.Accepted.{facts}
use Rattle.exact.proofs.Growth.{letters_in, powers_in}
use Rattle.exact.proofs.Exponents.{in_range, one_in}
use Rattle.exact.proofs.Ranges.{widen}
use Rattle.encounter.specs.declared.steps.sides.PowerPairs.{PowerPairs}
use Rattle.encounter.specs.declared.steps.sides.Pair.{Pair}
use Rattle.encounter.specs.Private.Held.{HasT}
use Rattle.encounter.specs.Private.Loops.{side_of, powers_of, next_r, PowersAt}
use Rattle.encounter.specs.Private.Operations.{by_side}

-- ---- ranges

module _ (up : Bool) {E : Encounter} (a : Accepted E) where
  t_in : InRange 32 387 (side_letters up E).t
  unfolding side_letters
  t_in = (letters_in (in_range up) (facts a).bounds).t

  pub powers_fine : (k : ℕ) → k ≤ exponential_cut → PowersIn largest_exponent (side_powers up E k)
  unfolding side_powers
  powers_fine k l =
      let q = powers_in (in_range up) one _ one_in t_in k (omega arith) in
      record { r = widen (omega arith) q.r; sum = widen (omega arith) q.sum }

-- from k to k + 1
module _ (up : Bool) (E : Encounter) (k : ℕ) {t r : Scaled} {w : PowersOf Scaled} (et : t ≡ (side_letters up E).t) (ew : w ≡ side_powers up E k) (er : r ≡ next_r up k w.r t) where
  next_r_is : r ≡ (side_powers up E (suc k)).r
  unfolding side_powers powers next_power
  next_r_is = rw (er, ew, et)

  next_powers : {s : Scaled} → s ≡ (rounded up 32).sum w.sum r → record { r = r; sum = s } ≡ side_powers up E (suc k)
  unfolding side_powers powers next_power
  next_powers es = rw (es, er, ew, et)

-- ---- both sides at k

module _ {E : Encounter} {k : ℕ} {t : Pair} {w : PowerPairs} (h : PowersAt E k t w) where
  pub powers_held : k ≤ exponential_cut → (up : Bool) → PowersIn largest_exponent (powers_of up w)
  powers_held l up = rw (h.powers_are up) (powers_fine up h.fine k l)

  -- the ranges that a round needs
  module _ (l : k < exponential_cut) (up : Bool) where
    -- of t and r(k), which are multiplied
    pub factors : (InRange 32 387 (side_of up t)) × (InRange 32 largest_exponent (side_of up w.r))
    factors = (rw (h.t_is up) (t_in up h.fine), (powers_held (omega arith) up).r)

    -- of r(k) and the sum
    pub held : (InRange 32 (2 ^ 28) (side_of up w.r)) × (InRange 32 (2 ^ 28) (side_of up w.sum))
    held = let i = powers_held (omega arith) up in (widen (lit≤ tt) i.r, widen (lit≤ tt) i.sum)

    -- of r(k+1)
    pub next_held : {r : Scaled} → r ≡ next_r up k (side_of up w.r) (side_of up t) → InRange 32 (2 ^ 28) r
    next_held er = rw (next_r_is up E k (h.t_is up) (h.powers_are up) er) (widen (lit≤ tt) (powers_fine up h.fine (suc k) l).r)

  -- one round
  pub next_at : {r s : Pair} → ((up : Bool) → side_of up r ≡ next_r up k (side_of up w.r) (side_of up t))
      → ((up : Bool) → side_of up s ≡ (rounded up 32).sum (side_of up w.sum) (side_of up r))
      → PowersAt E (suc k) t (record { r = r; sum = s })
  next_at er es = record { fine = h.fine; t_is = h.t_is; powers_are = λ up. next_powers up E k (h.t_is up) (h.powers_are up) (er up) (es up) }

-- r(0) and its sum
pub first_at : {E : Encounter} {a b : Scaled} {t first : Pair} → HasT E a b → (side_of false t ≡ a) × (side_of true t ≡ b) → (side_of false first ≡ one) × (side_of true first ≡ one)
    → PowersAt E 0 t (record { r = first; sum = first })
unfolding side_powers powers
first_at h et ef = record {
  fine = h.0;
  t_is = by_side _ (et.0 ∙ h.1) (et.1 ∙ h.2);
  powers_are = by_side _ (rw ef.0) (rw ef.1);
}
