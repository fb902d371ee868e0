-- A number below 2^63 is shifted down by g bits, or by 63 where g is more: both leave the same.
use mathlib.Core.Path.{◌≡◌, sym, ◌∙◌}
use mathlib.Core.Logic.{⊎_elim}
use Prim.Native.Nat.{ℕ, ◌*◌, ◌/◌, ◌%◌, ◌^◌, ◌≤◌, ◌<◌, min}
use native.Mathlib.Nat.{div-eq_of_lt, mod-eq_of_lt, lt_of_lt_of_le, div-add-mod', eq-zero-or-pos}
use native.Mathlib.Omega.{arith}
use borrow.Author.Tests.{lt-ltb, le-ltb}
use lib.Dec.{ltb}
use lib.Pow.{pow_mono}
use Rattle.exact.proofs.Fractions.{lt_or_le}

-- the bits of y from s on, put back, are below y just where a rest is left
pub left_over : (y s : ℕ) → ltb (y / 2 ^ s * 2 ^ s) y ≡ ltb 0 (y % 2 ^ s)
left_over y s =
    let e = div-add-mod' y (2 ^ s) in
    let b = y / 2 ^ s * 2 ^ s in
    let r = y % 2 ^ s in
    ⊎_elim (λ z. le-ltb b y (omega (arith, e)) ∙ sym (le-ltb 0 r (omega arith))) (λ p. lt-ltb b y (omega (arith, e)) ∙ sym (lt-ltb 0 r p)) (eq-zero-or-pos r)

module _ (y g : ℕ) (small : y < 2 ^ 63) where
  under : g < 63 → min g 63 ≡ g
  under h = omega arith

  over : 63 ≤ g → min g 63 ≡ 63
  over h = omega arith

  below : 63 ≤ g → y < 2 ^ g
  below h = lt_of_lt_of_le small (pow_mono h)

  pub same_quotient : y / 2 ^ min g 63 ≡ y / 2 ^ g
  same_quotient = ⊎_elim (λ h. rw (under h)) (λ h. rw (over h) (div-eq_of_lt small ∙ sym (div-eq_of_lt (below h)))) (lt_or_le g 63)

  pub same_rest : y % 2 ^ min g 63 ≡ y % 2 ^ g
  same_rest = ⊎_elim (λ h. rw (under h)) (λ h. rw (over h) (mod-eq_of_lt small ∙ sym (mod-eq_of_lt (below h)))) (lt_or_le g 63)
