-- `finish` and `pack` round what lies near a point: h × 2^e with a rest below 2^e or none, cut to its b highest bits.
use mathlib.Core.Path.{◌≡◌, refl, sym, ◌∙◌, ap}
use mathlib.Core.Bool.{Bool, true, false, cond, ◌&&◌, ◌||◌}
use mathlib.Core.Logic.{inl, inr, ⊎_elim}
use Prim.Native.Nat.{ℕ, zero, suc, ◌+◌, ◌-◌, ◌*◌, ◌/◌, ◌%◌, ◌^◌, ◌≤◌, ◌<◌}
use native.Mathlib.Nat.{le_trans, le_of_eq, le-div_iff_mul-le, pow-succ', pow-zero}
use native.Mathlib.Numerals.{add-one}
use native.Mathlib.Omega.{arith}
use lib.Dec.{ltb, eqb, T, eqb→eq}
use borrow.Author.Tests.{eqb-false, eq-eqb, ne_eqb}
use lib.IntN.{ℤ, pos, sub_ℕ, ◌+ℤ◌}
use lib.Pow.{pow_pos, pow-add, shr_lt}
use lib.Ieee.{size}
use lib.Ieee.Digits.{size-lt, size_reaches}
use Rattle.exact.specs.declared.Scaled.{Scaled}
use Rattle.exact.specs.Integer.{pos_part, neg_part}
use Rattle.exact.specs.Fraction.{Frac, ◌≼◌, ◌≈◌}
use Rattle.exact.specs.Scaled.{scaled, value, Normal, IsScaled, IsRound}
use Rattle.exact.specs.Private.Round.{finish, spare, inexact, pack}
use Rattle.exact.proofs.Integers.{sub_add}
use Rattle.exact.proofs.Fractions.{◌≺◌, ≼_trans, ≼_≺, ≺_≼, ≼_of_≺, ≺_irrefl, ≺_or_≼, ≼_of, ≽_of, ≈_refl, ≈_trans}
use Rattle.exact.proofs.Bits.{size_ge}
use Rattle.exact.proofs.Grid.{point, value_point, below_next, Near, coarsen}

-- a scaled number as a point
pub value_is : (x : Scaled) → value x ≈ point x.m (pos_part x.e) (neg_part x.e)
unfolding value point
value_is x = ≈_refl _

pub scaled_high : {b : ℕ} {x : Scaled} → IsScaled b x → x.m < 2 ^ b
scaled_high {b} (inl e) = omega (arith, pow_pos b, ap (λ (x : Scaled). x.m) e)
scaled_high (inr n) = n.high

-- a scaled number below the next point is not above the point
not_above : (b m j k : ℕ) {y : Scaled} → 2 ^ b ≤ 2 * m → IsScaled b y → value y ≺ point (suc m) j k → value y ≼ point m j k
not_above b m j k {y} l n h =
    ≼_trans (≼_of (value_is y)) (below_next b m j k y.m _ _ l (scaled_high n) (≼_≺ (≽_of (value_is y)) h))

-- ---- the next scaled number

even : (b m : ℕ) → 2 ^ b ≤ 2 * m → m < 2 ^ b → 2 * (2 ^ b / 2) ≡ 2 ^ b
even zero m l h = let f : ⊥ = omega (arith, pow-zero 2) in absurd f
even (suc b) m l h = omega (arith, pow-succ' 2 b)

pub record Is (b : ℕ) (x : Scaled) (p : Frac) : Type 0 where
  pub normal : Normal b x
  pub same : value x ≈ p

pub next_is : (b m j k : ℕ) → 2 ^ b ≤ 2 * m → m < 2 ^ b → Is b (finish b m (sub_ℕ j k) true) (point (suc m) j k)
unfolding finish
next_is b m j k l h = go (eqb (suc m) (2 ^ b)) (eqb→eq (suc m) (2 ^ b)) (eqb-false (suc m) (2 ^ b))
  where
    top : suc m ≡ 2 ^ b → point (2 ^ b / 2) (j + 1) k ≈ point (suc m) j k
    top e = unfold point in record { eq = rw (pow-add 2 j 1) (omega (arith, ap (λ (x : ℕ). x * (2 ^ j * 2 ^ k)) (even b m l h ∙ sym e))) }

    go : (t : Bool) → (T t → suc m ≡ 2 ^ b) → (t ≡ false → suc m ≡ 2 ^ b → ⊥) → Is b (cond t (scaled (2 ^ b / 2) (sub_ℕ j k +ℤ pos 1)) (scaled (suc m) (sub_ℕ j k))) (point (suc m) j k)
    go true f g =
        rw (sub_add j k 1) (record {
          normal = record { low = le_of_eq (sym (even b m l h)); high = omega (arith, even b m l h, pow_pos b) };
          same = ≈_trans (value_point _ (j + 1) k) (top (f tt));
        })
    go false f g = record { normal = record { low = omega arith; high = omega (arith, g refl) }; same = value_point _ j k }

-- ---- `finish` rounds

pub finish_is : (up : Bool) (b : ℕ) (q : Frac) (m j k : ℕ) (s : Bool) → Near q m j k s → 2 ^ b ≤ 2 * m → m < 2 ^ b → IsRound up b q (finish b m (sub_ℕ j k) (up && s))
unfolding finish
finish_is false b q m j k s r l h = record {
  is_scaled = inr (record { low = l; high = h });
  side = ≼_trans (≼_of (value_point m j k)) r.low;
  best = λ y n p. ≼_trans (not_above b m j k l n (≼_≺ p r.high)) (≽_of (value_point m j k));
}
finish_is true b q m j k false r l h = record {
  is_scaled = inr (record { low = l; high = h });
  side = ≼_trans r.cut (≽_of (value_point m j k));
  best = λ y n p. ≼_trans (≼_of (value_point m j k)) (≼_trans r.low p);
}
finish_is true b q m j k true r l h =
    let v = next_is b m j k l h in
    record {
      is_scaled = inr v.normal;
      side = ≼_trans (≼_of_≺ r.high) (≽_of v.same);
      best = λ y n p.
          ⊎_elim (λ c. absurd (≺_irrefl (≺_≼ r.cut (≼_trans p (not_above b m j k l n c)))))
          (λ c. ≼_trans (≼_of v.same) c)
          (≺_or_≼ (value y) (point (suc m) j k));
    }

-- ---- `pack` rounds

-- the b highest bits of h
module _ (b h : ℕ) (bp : 0 < b) (l : 2 ^ b ≤ 2 * h) where
  bits : b ≤ size h
  bits = size_ge h b l

  pub top_high : h / 2 ^ spare b h < 2 ^ b
  unfolding spare
  top_high = shr_lt b (size h - b) (rw (b_and_spare) (size-lt h))
    where
      b_and_spare : b + (size h - b) ≡ size h
      b_and_spare = omega (arith, bits)

  pub top_low : 2 ^ b ≤ 2 * (h / 2 ^ spare b h)
  unfolding spare
  top_low =
      let g = bits in
      let r : 2 ^ (size h - 1) ≤ h = size_reaches h (size h - 1) (omega arith) in
      let e : 2 ^ (b - 1) * 2 ^ (size h - b) ≡ 2 ^ (size h - 1) = sym (pow-add 2 (b - 1) (size h - b)) ∙ ap (λ (x : ℕ). 2 ^ x) (omega arith) in
      let k : 2 ^ (b - 1) ≤ h / 2 ^ (size h - b) = (le-div_iff_mul-le (pow_pos (size h - b))).1 (le_trans (le_of_eq e) r) in
      let t : 2 ^ b ≡ 2 * 2 ^ (b - 1) = ap (λ (x : ℕ). 2 ^ x) (omega arith) ∙ pow-succ' 2 (b - 1) in
      omega arith

-- x is `finish` of the point of b bits at or below q; s says whether q is above it
pub record Shape (up : Bool) (b : ℕ) (q : Frac) (x : Scaled) (s : Bool) : Type 0 where
  pub m : ℕ
  pub j : ℕ
  pub k : ℕ
  pub near : Near q m j k s
  pub low : 2 ^ b ≤ 2 * m
  pub high : m < 2 ^ b
  pub is : x ≡ finish b m (sub_ℕ j k) (up && s)

pub pack_shape : (up : Bool) (b : ℕ) (q : Frac) (h j k : ℕ) (s : Bool) → 0 < b → 2 ^ b ≤ 2 * h → Near q h j k s → Shape up b q (pack up b h (sub_ℕ j k) s) (inexact b h s)
unfolding pack inexact
pack_shape up b q zero j k s bp l r = let f : ⊥ = omega (arith, pow_pos b) in absurd f
pack_shape up b q (suc h) j k s bp l r = record {
  m = suc h / 2 ^ spare b (suc h);
  j = j + spare b (suc h);
  k = k;
  near = coarsen (suc h) j k (spare b (suc h)) s r;
  low = top_low b (suc h) bp l;
  high = top_high b (suc h) bp l;
  is = rw (sub_add j k (spare b (suc h)));
}

pub shape_is : {up : Bool} {b : ℕ} {q : Frac} {x : Scaled} {s : Bool} → Shape up b q x s → IsRound up b q x
shape_is {up} {b} {q} r = rw r.is (finish_is up b q _ _ _ _ r.near r.low r.high)

-- ---- by cases, as code computes them

pub finish_off : (b m : ℕ) (e : ℤ) → finish b m e false ≡ scaled m e
unfolding finish
finish_off b m e = refl

pub finish_carry : (b m : ℕ) (e : ℤ) → suc m ≡ 2 ^ b → finish b m e true ≡ scaled (2 ^ b / 2) (e +ℤ pos 1)
unfolding finish
finish_carry b m e h = rw (eq-eqb (suc m) (2 ^ b) h)

pub finish_next : (b m : ℕ) (e : ℤ) → (suc m ≡ 2 ^ b → ⊥) → finish b m e true ≡ scaled (m + 1) e
unfolding finish
finish_next b m e h = rw (ne_eqb (suc m) (2 ^ b) h, add-one)

-- h of b + t bits
module _ (up : Bool) (b h t : ℕ) (e : ℤ) (s : Bool) (hp : 0 < h) (bits_are : size h ≡ b + t) where
  pub spare_is : spare b h ≡ t
  unfolding spare
  spare_is = omega arith

  pub inexact_is : inexact b h s ≡ (s || ltb 0 (h % 2 ^ t))
  unfolding inexact
  inexact_is = rw spare_is

  pub pack_is : pack up b h e s ≡ finish b (h / 2 ^ t) (e +ℤ pos t) (up && (s || ltb 0 (h % 2 ^ t)))
  pack_is = some h hp ∙ rw (spare_is, inexact_is)
    where
      some : (h : ℕ) → 0 < h → pack up b h e s ≡ finish b (h / 2 ^ spare b h) (e +ℤ pos (spare b h)) (up && inexact b h s)
      some zero p = let f : ⊥ = omega arith in absurd f
      some (suc h) p = unfold pack in refl
