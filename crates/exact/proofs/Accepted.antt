-- What acceptance says of an encounter, and what g means then.
use mathlib.Core.Path.{◌≡◌, refl, sym}
use mathlib.Core.Bool.{Bool, true, false, cond, ◌&&◌, ◌||◌, true≢false}
use Prim.Native.Nat.{ℕ, suc, ◌*◌, ◌≤◌, ◌<◌}
use native.Mathlib.Nat.{mul-le-mul}
use native.Mathlib.Omega.{arith}
use borrow.Author.Tests.{ltb-false, eqb-true, eqb-false}
use lib.Dec.{ltb, eqb}
use lib.IntN.{pos, nat_abs, ◌-ℤ◌}
use Rattle.exact.specs.Fraction.{◌≼◌, ◌over◌, whole}
use Rattle.exact.specs.Scaled.{value}
use Rattle.exact.specs.declared.Encounter.{Encounter}
use Rattle.exact.specs.Series.{g}
use Rattle.exact.specs.Steps.{side_letters}
use Rattle.exact.specs.Numbers.{largest_length, largest_t}
use Rattle.exact.specs.Refusals.{outside, miss_outside, refuses_3, refuses_4, refuses_5, refuses_6, refuses_7, refuses_11, begin_refusal, refuses_9, test_9, Accepted}
use Rattle.exact.specs.Private.Ranges.{tests_3_to_6, Bounds}
use Rattle.exact.proofs.Integers.{balanced, bal_diff}
use Rattle.exact.proofs.Order.{not_above}

-- a test that did not refuse
pub passed : (k : ℕ) (b : Bool) (r : ℕ) → cond b (suc k) r ≡ 0 → (b ≡ false) × (r ≡ 0)
passed k b r h = go b refl h
  where
    go : (c : Bool) → b ≡ c → cond c (suc k) r ≡ 0 → (b ≡ false) × (r ≡ 0)
    go true e z = let f : ⊥ = omega arith in absurd f
    go false e z = (e, z)

-- of two tests neither is true
pub neither : (a b : Bool) → (a || b) ≡ false → (a ≡ false) × (b ≡ false)
neither true b h = (h, both b h)
  where
    both : (b : Bool) → true ≡ false → b ≡ false
    both true h = h
    both false h = refl
neither false b h = (refl, h)

-- of two tests both are true
pub both_true : (a b : Bool) → (a && b) ≡ true → (a ≡ true) × (b ≡ true)
both_true true b h = (refl, h)
both_true false b h = absurd (true≢false (sym h))

inside : (n : ℕ) → outside n ≡ false → (0 < n) × (n ≤ largest_length)
unfolding outside
inside n h =
    let (z, l) = neither (eqb n 0) (ltb largest_length n) h in
    let nz = eqb-false n 0 z in
    (omega arith, ltb-false largest_length n l)

-- the tests 3 to 6 passed, and what follows them says 0
pub bounds : (E : Encounter) (rest : ℕ) → tests_3_to_6 E rest ≡ 0 → Bounds E × (rest ≡ 0)
unfolding tests_3_to_6 refuses_3 refuses_4 refuses_5 refuses_6 miss_outside
bounds E rest h =
    let (t3, r3) = passed 2 (outside E.R) _ h in
    let (t4, r4) = passed 3 (outside E.sx || outside E.sy) _ r3 in
    let (t5, r5) = passed 4 (ltb E.sx E.sy) _ r4 in
    let (t6, r6) = passed 5 (miss_outside E.xm || miss_outside E.ym) _ r5 in
    let R = inside E.R t3 in
    let (sx, sy) = neither (outside E.sx) (outside E.sy) t4 in
    let (xm, ym) = neither (miss_outside E.xm) (miss_outside E.ym) t6 in (
      record {
        R_pos = R.0;
        R_max = R.1;
        sx_pos = (inside E.sx sx).0;
        sx_max = (inside E.sx sx).1;
        sy_pos = (inside E.sy sy).0;
        sy_max = (inside E.sy sy).1;
        ordered = ltb-false E.sx E.sy t5;
        xm_max = ltb-false largest_length (nat_abs E.xm) xm;
        ym_max = ltb-false largest_length (nat_abs E.ym) ym;
      },
      r6,
    )

pub record Facts (E : Encounter) : Type 0 where
  pub bounds : Bounds E
  pub t_max : value (side_letters true E).t ≼ whole largest_t
  -- test 11
  pub readable : refuses_11 E ≡ false

pub facts : {E : Encounter} → Accepted E → Facts E
unfolding begin_refusal tests_3_to_6 refuses_7
facts {E} h =
    let (b, r) = bounds E (cond (refuses_7 E) 7 (cond (refuses_11 E) 11 0)) h.passes in
    let (t7, r7) = passed 6 (refuses_7 E) _ r in
    record { bounds = b; t_max = not_above _ _ t7; readable = (passed 10 (refuses_11 E) 0 r7).0 }

-- where test 9 passes, so did those before
pub test_9_passed : (earlier object : ℕ) → test_9 earlier object ≡ 0 → (earlier ≡ 0) × (object ≡ 0 → ⊥)
unfolding test_9 refuses_9
test_9_passed earlier object h = go (eqb earlier 0) refl h
  where
    go : (b : Bool) → eqb earlier 0 ≡ b → cond b (cond (eqb object 0) 9 0) earlier ≡ 0 → (earlier ≡ 0) × (object ≡ 0 → ⊥)
    go true e z = (eqb-true earlier 0 e, eqb-false object 0 (passed 8 (eqb object 0) 0 z).0)
    go false e z = absurd (eqb-false earlier 0 e z)

-- "signed where something is subtracted": where sy is at most sx, g's numerator is the integer sx² − sy²
pub g_is : (E : Encounter) → E.sy ≤ E.sx → pos (g E).num ≡ pos (E.sx * E.sx) -ℤ pos (E.sy * E.sy)
unfolding g ◌over◌
g_is E h =
    let l = mul-le-mul h h in
    balanced _ _ (omega (arith, bal_diff (pos (E.sx * E.sx)) (pos (E.sy * E.sy))))
