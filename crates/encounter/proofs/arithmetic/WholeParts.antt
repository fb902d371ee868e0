-- Whole parts: how the code forms them, and that `fit` rounds what they stand for.
use mathlib.Core.Path.{◌≡◌, refl, sym, ◌∙◌, ap}
use mathlib.Core.Bool.{Bool, true, false, cond, ◌&&◌, ◌||◌}
use mathlib.Core.Logic.{⊎_elim}
use Prim.Native.Nat.{ℕ, zero, suc, ◌+◌, ◌-◌, ◌*◌, ◌/◌, ◌%◌, ◌^◌, ◌≤◌, ◌<◌}
use native.Mathlib.Nat.{zero-mul, div-eq_of_lt, div-lt_iff_lt-mul, mul-add-div_right, div-add-mod', mod-lt, eq-zero-or-pos}
use native.Mathlib.Omega.{arith}
use borrow.Author.Tests.{lt-ltb, le-ltb}
use lib.Dec.{ltb}
use lib.IntN.{ℤ, pos, ◌+ℤ◌}
use lib.Ieee.{size}
use Rattle.exact.specs.declared.Scaled.{Scaled}
use Rattle.exact.specs.Scaled.{scaled}
use Rattle.exact.specs.Private.Round.{inexact, finish, pack}
use Rattle.exact.proofs.Integers.{balanced, bal_add}
use Rattle.exact.proofs.Fractions.{lt_or_le}
use Rattle.exact.proofs.Bits.{size_is}
use Rattle.exact.proofs.Packing.{pack_is, inexact_is, finish_off, finish_carry, finish_next}
use Rattle.encounter.specs.Private.Loops.{whole_part}

-- whether a rest r is left
pub rest_none : (r : ℕ) → r ≡ 0 → false ≡ ltb 0 r
rest_none r z = sym (le-ltb 0 r (omega arith))

pub rest_some : (r : ℕ) → (r ≡ 0 → ⊥) → true ≡ ltb 0 r
rest_some r p = sym (lt-ltb 0 r (omega (arith, p)))

pub whole_down : (h : ℕ) (s : Bool) → whole_part false h s ≡ h
unfolding whole_part
whole_down h s = omega arith

-- with a rest
pub whole_else : (up : Bool) (h r : ℕ) → (r ≡ 0 → ⊥) → whole_part up h (ltb 0 r) ≡ h + cond up 1 0
unfolding whole_part
whole_else true h r p = rw (lt-ltb 0 r (omega (arith, p)))
whole_else false h r p = refl

whole_cut : (h r : ℕ) → 0 < r → whole_part true h (ltb 0 r) ≡ h + 1
whole_cut h r p = whole_else true h r (λ z. omega arith)

pub whole_none : (up : Bool) (h r : ℕ) → r ≡ 0 → whole_part up h (ltb 0 r) ≡ h
unfolding whole_part
whole_none false h r p = omega arith
whole_none true h r p = rw (le-ltb 0 r (omega arith)) (omega arith)

module _ (n d : ℕ) (dp : 0 < d) where
  shape : n ≡ n / d * d + n % d
  shape = sym (div-add-mod' n d)

  -- (q × d + r) / d for r below d
  exactly : (q r : ℕ) → r < d → (q * d + r) / d ≡ q
  exactly q r l = mul-add-div_right dp q r ∙ rw (div-eq_of_lt l) (omega arith)

  -- the quotient of n + (d - 1)
  pub raised_quotient : (up : Bool) → (n + cond up (d - 1) 0) / d ≡ whole_part up (n / d) (ltb 0 (n % d))
  raised_quotient false = let e : n + 0 ≡ n = omega arith in rw e (sym (whole_down (n / d) (ltb 0 (n % d))))
  raised_quotient true =
      ⊎_elim
      (λ z.
      let e : n + (d - 1) ≡ n / d * d + (d - 1) = omega (arith, shape) in
      rw e (exactly (n / d) (d - 1) (omega arith)) ∙ sym (whole_none true (n / d) (n % d) z))
      (λ p.
      let m = mod-lt n dp in
      let e : n + (d - 1) ≡ (n / d + 1) * d + (n % d - 1) = omega (arith, shape) in
      rw e (exactly (n / d + 1) (n % d - 1) (omega arith)) ∙ sym (whole_cut (n / d) (n % d) p))
      (eq-zero-or-pos (n % d))

  -- the quotient of n - 1, and 1
  pub quotient_after : 0 < n → (n - 1) / d + 1 ≡ whole_part true (n / d) (ltb 0 (n % d))
  quotient_after np =
      ⊎_elim
      (λ z.
      let some : 0 < n / d = ⊎_elim (λ (q : n / d ≡ 0). let f : ⊥ = omega (arith, ap (λ (x : ℕ). x * d) q, shape) in absurd f) (λ q. q) (eq-zero-or-pos (n / d)) in
      let e : n - 1 ≡ (n / d - 1) * d + (d - 1) = below (n / d) some (omega (arith, shape)) in
      rw (e, exactly (n / d - 1) (d - 1) (omega arith)) (omega (arith, whole_none true (n / d) (n % d) z)))
      (λ p.
      let m = mod-lt n dp in
      let e : n - 1 ≡ n / d * d + (n % d - 1) = omega (arith, shape) in
      rw (e, exactly (n / d) (n % d - 1) (omega arith)) (sym (whole_cut (n / d) (n % d) p)))
      (eq-zero-or-pos (n % d))
    where
      below : (q : ℕ) → 0 < q → n ≡ q * d → n - 1 ≡ (q - 1) * d + (d - 1)
      below zero p e = let f : ⊥ = omega arith in absurd f
      below (suc q) p e = let k : suc q - 1 ≡ q = omega arith in rw k (omega arith)

-- of a quotient that is at most b
pub whole_le : (up : Bool) (n d b r : ℕ) → 0 < d → n ≤ b * d → r ≡ whole_part up (n / d) (ltb 0 (n % d)) → r ≤ b
whole_le up n d b r dp l e = let h : r < b + 1 = rw (e, ← raised_quotient n d dp up) ((div-lt_iff_lt-mul dp).1 (less up)) in omega arith
  where
    less : (up : Bool) → n + cond up (d - 1) 0 < (b + 1) * d
    less true = omega arith
    less false = omega arith

-- with m more
pub whole_more : (up : Bool) (m h r : ℕ) (s : Bool) → r ≡ whole_part up h s → m + r ≡ whole_part up (m + h) s
unfolding whole_part
whole_more up m h r s e = rw e (omega arith)

-- ---- `fit`

no_more : (e : ℤ) → e +ℤ pos 0 ≡ e
no_more e = balanced _ _ (omega (arith, bal_add e (pos 0)))

or_false : (s : Bool) → (s || false) ≡ s
or_false true = refl
or_false false = refl

module _ (up : Bool) (h : ℕ) (e : ℤ) (s : Bool) (low : 2 ^ 31 ≤ h) where
  -- h of 32 bits
  short_is : h < 2 ^ 32 → pack up 32 h e s ≡ finish 32 h e (up && s)
  short_is l =
      let q : h / 2 ^ 0 ≡ h = omega arith in
      let r : h % 2 ^ 0 ≡ 0 = omega arith in
      pack_is up 32 h 0 e s (omega arith) (size_is h 32 l (omega arith)) ∙ rw (q, r, no_more e, or_false s)

  -- h of 33 bits
  long_is : 2 ^ 32 ≤ h → h < 2 ^ 33 → pack up 32 h e s ≡ finish 32 (h / 2) (e +ℤ pos 1) (up && (s || ltb 0 (h % 2)))
  long_is l k = pack_is up 32 h 1 e s (omega arith) (size_is h 33 k (omega arith))

-- what `fit` forms of a
abbrev pub fitted : Bool → ℕ → ℤ → Scaled
fitted up a e = scaled ((a + cond up (a / 4294967296) 0) / 2 ^ (a / 4294967296)) (e +ℤ pos (a / 4294967296))

-- a of 32 bits stays
stays : (up : Bool) (a : ℕ) (e : ℤ) → a < 2 ^ 32 → fitted up a e ≡ scaled a e
stays up a e l = let z : a / 4294967296 ≡ 0 = omega arith in rw (z, no_more e) (go up)
  where
    go : (up : Bool) → scaled ((a + cond up 0 0) / 2 ^ 0) e ≡ scaled a e
    go true = let q : (a + 0) / 2 ^ 0 ≡ a = omega arith in rw q
    go false = let q : (a + 0) / 2 ^ 0 ≡ a = omega arith in rw q

-- a of 33 bits is halved
halves : (up : Bool) (a : ℕ) (e : ℤ) → 2 ^ 32 ≤ a → a < 2 ^ 33 → fitted up a e ≡ scaled ((a + cond up 1 0) / 2) (e +ℤ pos 1)
halves up a e l k = let z : a / 4294967296 ≡ 1 = omega arith in rw z

whole_some : (h : ℕ) → whole_part true h true ≡ h + 1
unfolding whole_part
whole_some h = refl

whole_all : (h : ℕ) → whole_part true h false ≡ h
unfolding whole_part
whole_all h = omega arith

module _ (h : ℕ) (e : ℤ) (low : 2 ^ 31 ≤ h) where
  down_packs : (s : Bool) → h + 1 < 2 ^ 33 → pack false 32 h e s ≡ fitted false h e
  down_packs s k =
      ⊎_elim
      (λ l. short_is false h e s low l ∙ finish_off 32 h e ∙ sym (stays false h e l))
      (λ l.
      let q : (h + 0) / 2 ≡ h / 2 = omega arith in
      long_is false h e s low l (omega arith) ∙ finish_off 32 (h / 2) (e +ℤ pos 1) ∙ sym (halves false h e l (omega arith) ∙ rw q))
      (lt_or_le h (2 ^ 32))

  -- with a rest
  up_packs : h + 1 + 1 < 2 ^ 33 → pack true 32 h e true ≡ fitted true (h + 1) e
  up_packs k =
      ⊎_elim
      (λ l.
      short_is true h e true low l ∙
      ⊎_elim
      (λ m. finish_next 32 h e (λ z. omega arith) ∙ sym (stays true (h + 1) e m))
      (λ m.
      let q : (h + 1 + 1) / 2 ≡ 2 ^ 32 / 2 = omega arith in
      finish_carry 32 h e (omega arith) ∙ sym (halves true (h + 1) e m (omega arith) ∙ rw q))
      (lt_or_le (h + 1) (2 ^ 32)))
      (λ l.
      let q : (h + 1 + 1) / 2 ≡ h / 2 + 1 = omega arith in
      long_is true h e true low l (omega arith) ∙ finish_next 32 (h / 2) (e +ℤ pos 1) (λ z. omega arith) ∙ sym (halves true (h + 1) e (omega arith) (omega arith) ∙ rw q))
      (lt_or_le h (2 ^ 32))

  -- with none
  whole_packs : h + 1 < 2 ^ 33 → pack true 32 h e false ≡ fitted true h e
  whole_packs k =
      ⊎_elim
      (λ l. short_is true h e false low l ∙ finish_off 32 h e ∙ sym (stays true h e l))
      (λ l.
      long_is true h e false low l (omega arith) ∙
      ⊎_elim
      (λ z.
      let q : (h + 1) / 2 ≡ h / 2 = omega arith in
      ap (finish 32 (h / 2) (e +ℤ pos 1)) (le-ltb 0 (h % 2) (omega arith)) ∙ finish_off 32 (h / 2) (e +ℤ pos 1) ∙ sym (halves true h e l (omega arith) ∙ rw q))
      (λ p.
      let q : (h + 1) / 2 ≡ h / 2 + 1 = omega arith in
      ap (finish 32 (h / 2) (e +ℤ pos 1)) (lt-ltb 0 (h % 2) p) ∙ finish_next 32 (h / 2) (e +ℤ pos 1) (λ z. omega arith) ∙ sym (halves true h e l (omega arith) ∙ rw q))
      (eq-zero-or-pos (h % 2)))
      (lt_or_le h (2 ^ 32))

none_whole : (up : Bool) (h : ℕ) → whole_part up h false ≡ h
none_whole false h = whole_down h false
none_whole true h = whole_all h

-- a last bit is dropped where there are 33
module _ (h : ℕ) (low : 2 ^ 31 ≤ h) where
  some : 0 < h
  some = omega arith

  bits_short : h < 2 ^ 32 → size h ≡ 32 + 0
  bits_short l = size_is h 32 l (omega arith)

  bits_long : 2 ^ 32 ≤ h → h < 2 ^ 33 → size h ≡ 32 + 1
  bits_long l k = size_is h 33 k (omega arith)

  short_keeps : h < 2 ^ 32 → inexact 32 h false ≡ false
  short_keeps l = let r : h % 2 ^ 0 ≡ 0 = omega arith in inexact_is false 32 h 0 (pos 0) false some (bits_short l) ∙ rw r

  long_drops : 2 ^ 32 ≤ h → h < 2 ^ 33 → inexact 32 h false ≡ ltb 0 (h % 2)
  long_drops l k = inexact_is false 32 h 1 (pos 0) false some (bits_long l k)

  drops : h < 2 ^ 33 → ltb 0 (h / 4294967296 * h % 2) ≡ inexact 32 h false
  drops k =
      ⊎_elim
      (λ l.
      let q : h / 4294967296 ≡ 0 = omega arith in
      let z : 0 * h % 2 ≡ 0 = rw (zero-mul h) in
      rw (q, z) (sym (short_keeps l)))
      (λ l.
      let q : h / 4294967296 ≡ 1 = omega arith in
      let one : 1 * h ≡ h = omega arith in
      let w : 1 * h % 2 ≡ h % 2 = ap (λ (x : ℕ). x % 2) one in
      rw (q, w) (sym (long_drops l k)))
      (lt_or_le h (2 ^ 32))

-- what `fit` says of losses
pub fit_loses : (up : Bool) (h : ℕ) (s : Bool) → 2 ^ 31 ≤ h → whole_part up h s + 1 < 2 ^ 33
    → (s || ltb 0 (whole_part up h s / 4294967296 * whole_part up h s % 2)) ≡ inexact 32 h s
fit_loses up h true low k = unfold inexact in refl
fit_loses up h false low k = rw (none_whole up h) (drops h low (omega (arith, none_whole up h)))

pub fit_packs : (up : Bool) (h : ℕ) (e : ℤ) (s : Bool) → 2 ^ 31 ≤ h → whole_part up h s + 1 < 2 ^ 33 → fitted up (whole_part up h s) e ≡ pack up 32 h e s
fit_packs false h e s low k = rw (whole_down h s) (sym (down_packs h e low s (rw (whole_down h s) at k)))
fit_packs true h e true low k = rw (whole_some h) (sym (up_packs h e low (rw (whole_some h) at k)))
fit_packs true h e false low k = rw (whole_all h) (sym (whole_packs h e low (rw (whole_all h) at k)))
