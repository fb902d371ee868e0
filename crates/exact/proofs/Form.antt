-- The form of a scaled number, as a test and as the predicate.
use mathlib.Core.Path.{◌≡◌, refl}
use mathlib.Core.Bool.{Bool, true, false, cond, ◌&&◌}
use mathlib.Core.Logic.{inl, inr}
use Prim.Native.Nat.{◌^◌}
use native.Mathlib.Omega.{arith}
use lib.Dec.{ltb, leb, eqb}
use lib.IntN.{ℤ, pos, negsuc, nat_abs}
use borrow.Author.Tests.{ne_eqb, eqb-true, lt-ltb, le-leb, leb-true, ltb-true}
use Rattle.exact.specs.declared.Scaled.{Scaled}
use Rattle.exact.specs.Scaled.{Normal, IsScaled}
use Rattle.exact.specs.Refusals.{scaled_form}
use Rattle.exact.proofs.Accepted.{both_true}

pub no_size : (e : ℤ) → nat_abs e ≡ 0 → e ≡ pos 0
no_size (pos n) h = rw h
no_size (negsuc n) h = let f : ⊥ = omega (arith, h) in absurd f

pub normal_form : (x : Scaled) → Normal 32 x → scaled_form x ≡ true
unfolding scaled_form
normal_form x n = rw (ne_eqb x.m 0 (λ z. omega (arith, n.low)), le-leb (2 ^ 31) x.m (omega (arith, n.low)), lt-ltb x.m (2 ^ 32) n.high)

pub form_of : (x : Scaled) → IsScaled 32 x → scaled_form x ≡ true
form_of x (inl z) = rw z (unfold scaled_form in refl)
form_of x (inr n) = normal_form x n

pub form_is : (x : Scaled) → scaled_form x ≡ true → IsScaled 32 x
unfolding scaled_form
form_is x h = go (eqb x.m 0) refl h
  where
    go : (t : Bool) → eqb x.m 0 ≡ t → cond t (eqb (nat_abs x.e) 0) (leb (2 ^ 31) x.m && ltb x.m (2 ^ 32)) ≡ true → IsScaled 32 x
    go true e k =
        let m : x.m ≡ 0 = eqb-true x.m 0 e in
        let z : x.e ≡ pos 0 = no_size x.e (eqb-true (nat_abs x.e) 0 k) in
        inl (λ i. record { m = m i; e = z i })
    go false e k =
        let (l, u) = both_true (leb (2 ^ 31) x.m) (ltb x.m (2 ^ 32)) k in
        inr (record { low = omega (arith, leb-true (2 ^ 31) x.m l); high = ltb-true x.m (2 ^ 32) u })
