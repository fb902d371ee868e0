-- How far the exponents of rounded results go: the laws that discharge `InRange`.
use mathlib.Core.Path.{◌≡◌, refl, ap}
use mathlib.Core.Bool.{Bool, true, false, cond, ◌&&◌}
use mathlib.Core.Logic.{inl, inr, ⊎_elim}
use Prim.Native.Nat.{ℕ, zero, suc, ◌+◌, ◌-◌, ◌*◌, ◌/◌, ◌%◌, ◌^◌, ◌≤◌, ◌<◌, zero-le}
use native.Mathlib.Nat.{le_trans, lt_of_le_of_lt, lt_of_lt_of_le, mul-le-mul_left, div-le_self, eq-zero-or-pos, le_of_lt, zero-mul, mul-zero, suc-pred-eq_of_pos}
use native.Mathlib.Numerals.{add-one}
use native.Mathlib.Omega.{arith}
use lib.Dec.{ltb, eqb, lit≤}
use borrow.Author.Tests.{eq-eqb, ne_eqb}
use lib.IntN.{ℤ, pos, negsuc, sub_ℕ, ◌+ℤ◌, ◌-ℤ◌}
use lib.Pow.{pow_pos, pow_mono, shl_lt, add-lt-pow}
use lib.Ieee.{size}
use lib.Ieee.Digits.{size-le}
use mir.Syntax.{w64}
use mir.Val.{SFits}
use Rattle.exact.specs.declared.Scaled.{Scaled}
use Rattle.exact.specs.Integer.{pos_part, neg_part}
use Rattle.exact.specs.Fraction.{Frac, ◌⊕◌, ◌⊗◌, ◌÷◌, ◌⊘◌, ◌over◌}
use Rattle.exact.specs.Scaled.{scaled, nought, value, Normal, IsScaled, with_exponent, half, double}
use Rattle.exact.specs.Private.Ranges.{InRange}
use Rattle.exact.specs.Private.Round.{finish, spare, inexact, pack, round}
use Rattle.exact.proofs.Integers.{pos_add, neg_add, pos_diff, neg_diff, pos_sub, neg_sub, gap, gap_above}
use Rattle.exact.proofs.Signed.{fits}
use Rattle.exact.proofs.Rounding.{Packed, round_is}
use Rattle.exact.proofs.Operations.{product_packs, product_none, sum_packs, sum_none, sum_comm, over_packs, over_none, per_packs, per_none}

-- ---- `pack` raises e by the spare bits, and by one more where it carries

finish_range : (b m : ℕ) (e : ℤ) (on : Bool) → (pos_part (finish b m e on).e ≤ pos_part e + 1) × (neg_part (finish b m e on).e ≤ neg_part e)
unfolding finish
finish_range b m e false = omega arith
finish_range b m e true = go (eqb (suc m) (2 ^ b))
  where
    go : (t : Bool) → (pos_part (cond t (scaled (2 ^ b / 2) (e +ℤ pos 1)) (scaled (suc m) e)).e ≤ pos_part e + 1) × (neg_part (cond t (scaled (2 ^ b / 2) (e +ℤ pos 1)) (scaled (suc m) e)).e ≤ neg_part e)
    go true = omega (arith, pos_add e (pos 1), neg_add e (pos 1))
    go false = omega arith

-- h below 2^(b + l), and e at most A above 0 once l is added, and B below
pub pack_range : (up : Bool) (b h : ℕ) (e : ℤ) (s : Bool) (l A B : ℕ) → h < 2 ^ (b + l) → pos_part (e +ℤ pos l) ≤ A → neg_part e ≤ B
    → (pos_part (pack up b h e s).e ≤ A + 1) × (neg_part (pack up b h e s).e ≤ B)
unfolding pack spare
pack_range up b zero e s l A B hl p n = omega arith
pack_range up b (suc h) e s l A B hl p n =
    let t = size (suc h) - b in
    let tl : size (suc h) - b ≤ l = omega (arith, size-le (suc h) (b + l) hl) in
    omega (
      arith,
      finish_range b (suc h / 2 ^ t) (e +ℤ pos t) (up && inexact b (suc h) s),
      pos_add e (pos t),
      neg_add e (pos t),
      pos_add e (pos l),
    )

packed_range : {up : Bool} {b : ℕ} {q : Frac} {h : ℕ} {e : ℤ} {s : Bool} (l A : ℕ) → 0 < b → Packed up b q h e s → h < 2 ^ (b + l) → pos_part (e +ℤ pos l) ≤ A → neg_part e ≤ A + 1
    → InRange b (A + 1) (round up b q)
packed_range {up} {b} {q} {h} {e} {s} l A bp k hl p n =
    let r = pack_range up b h e s l A (A + 1) hl p n in
    record { is_scaled = (round_is up b q bp).is_scaled; above = rw (← k.is) r.0; below = rw (← k.is) r.1 }

-- ---- the operations

pub nought_range : (b B : ℕ) → InRange b B nought
nought_range b B = record { is_scaled = inl refl; above = zero-le; below = zero-le }

pub widen : {b A B : ℕ} {x : Scaled} → A ≤ B → InRange b A x → InRange b B x
widen l h = record { is_scaled = h.is_scaled; above = le_trans h.above l; below = le_trans h.below l }

-- an exponent in range fits an i64
pub in_fits : {b : ℕ} {x : Scaled} → InRange b (2 ^ 28) x → SFits w64 x.e
in_fits {x = x} h = fits x.e (omega (arith, h.above)) (omega (arith, h.below))

mantissa : {x : Scaled} → x ≡ nought → x.m ≡ 0
mantissa e = ap (λ (y : Scaled). y.m) e

-- the product of two numbers below 2^b
pub below_square : (b m n : ℕ) → m < 2 ^ b → n < 2 ^ b → m * n < 2 ^ (b + b)
below_square b m n h k = lt_of_le_of_lt (mul-le-mul_left m (le_of_lt k)) (shl_lt b b h)

module _ (up : Bool) (b : ℕ) (bp : 0 < b) where
  pub product_range : {A B : ℕ} {x y : Scaled} → InRange b A x → InRange b B y → InRange b (A + B + b + 1) (round up b (value x ⊗ value y))
  product_range {A} {B} {x} {y} h k = go h.is_scaled k.is_scaled
    where
      go : IsScaled b x → IsScaled b y → InRange b (A + B + b + 1) (round up b (value x ⊗ value y))
      go (inl z) n' = rw (product_none up b x y (rw (mantissa z) (zero-mul y.m))) (nought_range b (A + B + b + 1))
      go (inr n) (inl z) = rw (product_none up b x y (rw (mantissa z) (mul-zero x.m))) (nought_range b (A + B + b + 1))
      go (inr n) (inr n') =
          packed_range b (A + B + b) bp (product_packs up b x y bp n n') (below_square b x.m y.m n.high n'.high)
          (omega (arith, h.above, k.above, pos_add (x.e +ℤ y.e) (pos b), pos_add x.e y.e, neg_add x.e y.e))
          (omega (arith, h.below, k.below, neg_add x.e y.e))

  -- with the larger exponent first
  ordered : {A : ℕ} {x y : Scaled} (g : ℕ) → InRange b A x → Normal b x → Normal b y → x.e ≡ y.e +ℤ pos g → InRange b (A + 1 + 1) (round up b (value x ⊕ value y))
  ordered {A} {x} {y} g h n n' e =
      packed_range 1 (A + 1) bp (sum_packs up b x y g bp n e)
      (lt_of_le_of_lt (sums (div-le_self y.m (2 ^ g))) (rw (add-one b) (add-lt-pow b n.high n'.high)))
      (omega (arith, h.above, pos_add x.e (pos 1)))
      (omega (arith, h.below))
    where
      sums : {z : ℕ} → z ≤ y.m → x.m + z ≤ x.m + y.m
      sums l = omega arith

  pub sum_range : {A : ℕ} {x y : Scaled} → InRange b A x → InRange b A y → InRange b (A + 1 + 1) (round up b (value x ⊕ value y))
  sum_range {A} {x} {y} h k = go h.is_scaled k.is_scaled
    where
      go : IsScaled b x → IsScaled b y → InRange b (A + 1 + 1) (round up b (value x ⊕ value y))
      go n (inl z) = rw (sum_none up b x y bp n (mantissa z)) (widen (omega arith) h)
      go (inl z) (inr n') = rw (sum_comm up b x y bp, sum_none up b y x bp (inr n') (mantissa z)) (widen (omega arith) k)
      go (inr n) (inr n') =
          ⊎_elim
          (λ p. ordered (pos_part (x.e -ℤ y.e)) h n n' (gap x.e y.e p))
          (λ p. rw (sum_comm up b x y bp) (ordered (pos_part (y.e -ℤ x.e)) k n' n (gap_above x.e y.e (λ e. omega arith))))
          (eq-zero-or-pos (pos_part (y.e -ℤ x.e)))

  pub over_range : {A : ℕ} {x : Scaled} (k : ℕ) → 0 < k → k ≤ 2 ^ b → InRange b A x → InRange b (A + b + 1) (round up b (value x ÷ k))
  over_range {A} {x} k kp kl h = go h.is_scaled
    where
      go : IsScaled b x → InRange b (A + b + 1) (round up b (value x ÷ k))
      go (inl z) = rw (over_none up b x k (mantissa z)) (nought_range b (A + b + 1))
      go (inr n) =
          packed_range b (A + b) bp (over_packs up b b x k bp n kp kl) (lt_of_le_of_lt (div-le_self (x.m * 2 ^ b) k) (shl_lt b b n.high))
          (omega (arith, h.above, pos_add (x.e -ℤ pos b) (pos b), pos_diff x.e (pos b), neg_diff x.e (pos b)))
          (omega (arith, h.below, neg_diff x.e (pos b)))

  pub per_range : {A B : ℕ} {x y : Scaled} → InRange b A x → InRange b B y → Normal b y → InRange b (A + B + b + 1) (round up b (value x ⊘ value y))
  per_range {A} {B} {x} {y} h k n' = go h.is_scaled
    where
      go : IsScaled b x → InRange b (A + B + b + 1) (round up b (value x ⊘ value y))
      go (inl z) = rw (per_none up b x y (mantissa z)) (nought_range b (A + B + b + 1))
      go (inr n) =
          packed_range b (A + B + b) bp (per_packs up b x y bp n n') (lt_of_le_of_lt (div-le_self (x.m * 2 ^ b) y.m) (shl_lt b b n.high))
          (let d = x.e -ℤ y.e in omega (arith, h.above, k.below, pos_add (d -ℤ pos b) (pos b), pos_diff d (pos b), neg_diff d (pos b), pos_diff x.e y.e, neg_diff x.e y.e))
          (let d = x.e -ℤ y.e in omega (arith, h.below, k.above, neg_diff d (pos b), neg_diff x.e y.e))

  pub fraction_range : (l : ℕ) (q : Frac) → q.num < 2 ^ l → q.den < 2 ^ l → InRange b (l + l + l + b + 1) (round up b q)
  unfolding round
  fraction_range l q nl dl =
      let j = size q.num in
      let k = b + size q.den in
      let jl = size-le q.num l nl in
      let kl = size-le q.den l dl in
      let hl : q.num * 2 ^ k / (q.den * 2 ^ j) < 2 ^ (b + (l + l)) = lt_of_le_of_lt (div-le_self _ _) (lt_of_lt_of_le (shl_lt l k nl) (pow_mono (omega arith))) in
      let r =
      pack_range up b _ (sub_ℕ j k) (ltb 0 (q.num * 2 ^ k % (q.den * 2 ^ j))) (l + l) (l + l + l + b) (l + l + l + b + 1) hl
      (omega (arith, pos_add (sub_ℕ j k) (pos (l + l)), pos_sub j k, neg_sub j k)) (omega (arith, neg_sub j k)) in
      record { is_scaled = (round_is up b q bp).is_scaled; above = r.0; below = r.1 }

  pub ratio_range : (l n d : ℕ) → n < 2 ^ l → d < 2 ^ l → 0 < d → InRange b (l + l + l + b + 1) (round up b (n over d))
  unfolding ◌over◌
  ratio_range l n d nl dl dp = fraction_range l (n over d) nl (rw (suc-pred-eq_of_pos dp) dl)

-- ---- other exponents

exponent_range : {b A : ℕ} {x : Scaled} (e : ℤ) → IsScaled b x → pos_part e ≤ A → neg_part e ≤ A → InRange b A (with_exponent x e)
unfolding with_exponent
exponent_range {b} {A} {x} e (inl z) p n = rw (eq-eqb x.m 0 (mantissa z)) (nought_range b A)
exponent_range {b} {A} {x} e (inr s) p n =
    rw (ne_eqb x.m 0 (λ z. omega (arith, s.low, pow_pos b))) (record { is_scaled = inr (record { low = s.low; high = s.high }); above = p; below = n })

-- x over a power of two
pub moved_range : {b A B : ℕ} {x : Scaled} (k : ℤ) → InRange b A x → pos_part k ≤ B → neg_part k ≤ B → InRange b (A + B) (with_exponent x (x.e -ℤ k))
moved_range {x = x} k h p n = exponent_range (x.e -ℤ k) h.is_scaled (omega (arith, h.above, pos_diff x.e k)) (omega (arith, h.below, neg_diff x.e k))

pub half_range : {b A : ℕ} {x : Scaled} → InRange b A x → InRange b (A + 1) (half x)
half_range h = moved_range (pos 1) h (lit≤ tt) (lit≤ tt)

pub double_range : {b A : ℕ} {x : Scaled} → InRange b A x → InRange b (A + 1) (double x)
double_range h = moved_range (negsuc 0) h (lit≤ tt) (lit≤ tt)
