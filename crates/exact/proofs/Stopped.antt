-- An encounter that a begin refuses as 11 is refused as 23 by a read at every order up to the largest.
use mathlib.Core.Path.{◌≡◌, refl}
use mathlib.Core.Bool.{Bool, true, false, cond}
use Prim.Native.Nat.{ℕ, suc, ◌≤◌}
use native.Mathlib.Omega.{arith}
use lib.Dec.{eqb}
use Rattle.exact.specs.declared.Encounter.{Encounter}
use Rattle.exact.specs.Numbers.{largest_order}
use Rattle.exact.specs.Refusals.{refuses_3, refuses_4, refuses_5, refuses_6, refuses_7, refuses_11, begin_refusal, refuses_9, test_9, refuses_23}
use Rattle.exact.proofs.Fractions.{≼_≺, whole_mono}
use Rattle.exact.proofs.Order.{above_yes, above_holds}

-- past a test of another number
past : (n k : ℕ) → (k ≡ n → ⊥) → (b : Bool) (r : ℕ) → cond b k r ≡ n → r ≡ n
past n k other true r h = absurd (other h)
past n k other false r h = h

pub refused_as_11 : (E : Encounter) → begin_refusal E ≡ 11 → refuses_11 E ≡ true
unfolding begin_refusal
refused_as_11 E h =
    let r3 = past 11 3 (λ z. omega arith) (refuses_3 E) _ h in
    let r4 = past 11 4 (λ z. omega arith) (refuses_4 E) _ r3 in
    let r5 = past 11 5 (λ z. omega arith) (refuses_5 E) _ r4 in
    let r6 = past 11 6 (λ z. omega arith) (refuses_6 E) _ r5 in
    go (refuses_11 E) 10 (past 11 7 (λ z. omega arith) (refuses_7 E) _ r6)
  where
    go : (b : Bool) (k : ℕ) → cond b (suc k) 0 ≡ suc k → b ≡ true
    go true k e = refl
    go false k e = let f : ⊥ = omega arith in absurd f

-- with test 9 after it
pub before_9 : (earlier object : ℕ) → test_9 earlier object ≡ 11 → earlier ≡ 11
unfolding test_9 refuses_9
before_9 earlier object h = go (eqb earlier 0) h
  where
    go : (b : Bool) → cond b (cond (eqb object 0) 9 0) earlier ≡ 11 → earlier ≡ 11
    go true e = let z = past 11 9 (λ z. omega arith) (eqb object 0) 0 e in let f : ⊥ = omega arith in absurd f
    go false e = e

pub never_read : (E : Encounter) → refuses_11 E ≡ true → (N : ℕ) → N ≤ largest_order → refuses_23 E N ≡ true
unfolding refuses_11 refuses_23
never_read E h N l = above_yes _ _ (≼_≺ (whole_mono (omega arith)) (above_holds _ _ h))
