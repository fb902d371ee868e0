-- `round` is the rounding that `IsRound` describes, in both directions and at any number of bits, and it is the only one. The laws of D and U, once each.
use mathlib.Core.Path.{◌≡◌, refl, sym, ◌∙◌, ap}
use mathlib.Core.Bool.{Bool, true, false, ◌&&◌, true≢false}
use mathlib.Core.Logic.{inl, inr, ⊎_elim}
use Prim.Native.Nat.{ℕ, suc, ◌+◌, ◌-◌, ◌*◌, ◌/◌, ◌^◌, ◌≤◌, ◌<◌}
use native.Mathlib.Nat.{le_trans, le_of_eq, le_of_lt, mul-le-mul, mul-le-mul_left, mul-le-mul_right, mul-lt-mul_of_pos_right, mul-pos, zero-mul, zero-div, le-div_iff_mul-le, eq-zero-or-pos, eq_of_mul-eq-mul_right, pow-succ', suc-pred-eq_of_pos}
use native.Mathlib.Omega.{arith}
use borrow.Author.Tests.{eq-eqb, ne_eqb, eqb-true, not-false}
use lib.IntN.{ℤ, sub_ℕ}
use lib.Pow.{pow_pos, pow-add, pow_mono}
use lib.Ieee.{size}
use lib.Ieee.Digits.{size-lt}
use Rattle.exact.specs.declared.Scaled.{Scaled}
use Rattle.exact.specs.Integer.{pos_part, neg_part}
use Rattle.exact.specs.Fraction.{Frac, ◌≼◌, ◌≈◌, ◌⊗◌, ◌over◌}
use Rattle.exact.specs.Scaled.{nought, value, Normal, IsScaled, IsRound, lost}
use Rattle.exact.specs.Private.Round.{finish, inexact, pack, round}
use Rattle.exact.proofs.Integers.{balanced, parts}
use Rattle.exact.proofs.Fractions.{◌≺◌, ≼_refl, ≼_trans, ≺_≼, ≼_of_≺, ≺_irrefl, ≼_of, ≽_of, ≈_refl, ≈_sym, ≈_trans, antisym, mul_mono, lt_or_le}
use Rattle.exact.proofs.Bits.{size_low}
use Rattle.exact.proofs.Grid.{point, value_point, Near, near_quotient}
use Rattle.exact.proofs.Packing.{next_is, Shape, pack_shape, shape_is}

-- ---- `round` rounds

pub zero_round : (up : Bool) (b : ℕ) (q : Frac) → q.num ≡ 0 → round up b q ≡ nought
unfolding round pack
zero_round up b q z = rw (z, zero-mul, zero-div)

zero_is : (up : Bool) (b : ℕ) (q : Frac) → q.num ≡ 0 → IsRound up b q nought
unfolding value
zero_is false b q z = record { is_scaled = inl refl; side = record { le = omega arith }; best = λ y n p. ≼_trans p (record { le = omega (arith, z) }) }
zero_is true b q z = record { is_scaled = inl refl; side = record { le = omega (arith, z) }; best = λ y n p. record { le = omega arith } }

-- the quotient that `round` takes has b bits or more
enough : (b n d : ℕ) → 0 < b → 0 < n → 0 < d → 2 ^ b ≤ 2 * (n * 2 ^ (b + size d) / (d * 2 ^ size n))
enough b n d bp np dp =
    let t : 2 ^ b ≡ 2 * 2 ^ (b - 1) = ap (λ (x : ℕ). 2 ^ x) (omega arith) ∙ pow-succ' 2 (b - 1) in
    let w : 2 ^ (b + size d) ≡ 2 ^ b * 2 ^ size d = pow-add 2 b (size d) in
    let k : 2 ^ (b - 1) ≤ n * 2 ^ (b + size d) / (d * 2 ^ size n) =
    (le-div_iff_mul-le (mul-pos dp (pow_pos (size n)))).1
    (rw (w, t) (omega (arith, mul-le-mul_left (2 ^ (b - 1)) (mul-le-mul (size_low n np) (le_of_lt (size-lt d)))))) in
    omega arith

pub round_shape : (up : Bool) (b : ℕ) (q : Frac) → 0 < b → 0 < q.num → (s : Bool) × Shape up b q (round up b q) s
unfolding round
round_shape up b q bp np =
    let j = size q.num in
    let k = b + size q.den in (
      _,
      pack_shape up b q _ j k _ bp (enough b q.num q.den bp np q.pos)
          (near_quotient q (q.num * 2 ^ k) (q.den * 2 ^ j) j k (mul-pos q.pos (pow_pos j)) (omega arith)),
    )

-- it meets the predicate
pub round_is : (up : Bool) (b : ℕ) (q : Frac) → 0 < b → IsRound up b q (round up b q)
round_is up b q bp =
    ⊎_elim (λ z. rw (zero_round up b q z) (zero_is up b q z)) (λ np. shape_is (round_shape up b q bp np).1) (eq-zero-or-pos q.num)

-- ---- the predicate has one solution

-- of two points of b bits the one that is not less has not the smaller exponent
exponents : (b m n A B : ℕ) → 2 ^ b ≤ 2 * n → m < 2 ^ b → n * 2 ^ B ≤ m * 2 ^ A → B ≤ A
exponents b m n A B l h e =
    ⊎_elim (λ c.
    let p : 2 * 2 ^ A ≤ 2 ^ B = le_trans (le_of_eq (sym (pow-succ' 2 A))) (pow_mono c) in
    let f : ⊥ = omega (arith, mul-lt-mul_of_pos_right h (pow_pos A), mul-le-mul_right (2 ^ A) l, mul-le-mul_left n p) in
    absurd f)
    (λ c. c) (lt_or_le A B)

same_normal : (b : ℕ) (x y : Scaled) → Normal b x → Normal b y → value x ≈ value y → x ≡ y
unfolding value
same_normal b x y n n' h =
    let A = pos_part x.e + neg_part y.e in
    let B = pos_part y.e + neg_part x.e in
    let s : x.m * 2 ^ A ≡ y.m * 2 ^ B = rw (pow-add 2 (pos_part x.e) (neg_part y.e), pow-add 2 (pos_part y.e) (neg_part x.e)) (omega (arith, h.eq)) in
    let ab : A ≤ B = exponents b y.m x.m B A n.low n'.high (le_of_eq s) in
    let ba : B ≤ A = exponents b x.m y.m A B n'.low n.high (le_of_eq (sym s)) in
    let e : A ≡ B = omega arith in
    let m : x.m ≡ y.m = eq_of_mul-eq-mul_right (2 ^ B) (pow_pos B) x.m y.m (ap (λ (z : ℕ). x.m * 2 ^ z) (sym e) ∙ s) in
    let z : x.e ≡ y.e = balanced x.e y.e e in
    λ i. record { m = m i; e = z i }

-- a normal number is not zero
normal_pos : {b : ℕ} {y : Scaled} → Normal b y → 0 < (value y).num
unfolding value
normal_pos {b} {y} n = mul-pos (omega (arith, n.low, pow_pos b)) (pow_pos (pos_part y.e))

not_nought : (b : ℕ) (y : Scaled) → Normal b y → value y ≈ value nought → ⊥
unfolding value
not_nought b y n h = omega (arith, h.eq, normal_pos n)

-- two scaled numbers of one value are one
pub one_form : (b : ℕ) (x y : Scaled) → IsScaled b x → IsScaled b y → value x ≈ value y → x ≡ y
one_form b x y (inl p) (inl q) h = p ∙ sym q
one_form b x y (inl p) (inr n) h = absurd (not_nought b y n (rw p at (≈_sym h)))
one_form b x y (inr n) (inl q) h = absurd (not_nought b x n (rw q at h))
one_form b x y (inr n) (inr n') h = same_normal b x y n n' h

is_mono : (up : Bool) (b : ℕ) {p q : Frac} {x y : Scaled} → IsRound up b p x → IsRound up b q y → p ≼ q → value x ≼ value y
is_mono false b {x = x} r t l = t.best x r.is_scaled (≼_trans r.side l)
is_mono true b {y = y} r t l = r.best y t.is_scaled (≼_trans l t.side)

pub unique : (up : Bool) (b : ℕ) {p q : Frac} {x y : Scaled} → p ≈ q → IsRound up b p x → IsRound up b q y → x ≡ y
unique up b {x = x} {y = y} e r t = one_form b x y r.is_scaled t.is_scaled (antisym (is_mono up b r t (≼_of e)) (is_mono up b t r (≽_of e)))

pub is_round : (up : Bool) (b : ℕ) {q : Frac} {x : Scaled} → 0 < b → IsRound up b q x → x ≡ round up b q
is_round up b {q} bp r = unique up b (≈_refl q) r (round_is up b q bp)

-- ---- the laws

-- monotone
pub round_mono : (up : Bool) (b : ℕ) {p q : Frac} → 0 < b → p ≼ q → value (round up b p) ≼ value (round up b q)
round_mono up b {p} {q} bp l = is_mono up b (round_is up b p bp) (round_is up b q bp) l

-- the value alone counts, not numerator and denominator
pub round_cong : (up : Bool) (b : ℕ) {p q : Frac} → 0 < b → p ≈ q → round up b p ≡ round up b q
round_cong up b {p} {q} bp e = unique up b e (round_is up b p bp) (round_is up b q bp)

-- exact on scaled numbers
self_is : (up : Bool) (b : ℕ) {x : Scaled} → IsScaled b x → IsRound up b (value x) x
self_is false b n = record { is_scaled = n; side = ≼_refl _; best = λ y m p. p }
self_is true b n = record { is_scaled = n; side = ≼_refl _; best = λ y m p. p }

pub round_exact : (up : Bool) (b : ℕ) {q : Frac} {x : Scaled} → 0 < b → IsScaled b x → value x ≈ q → round up b q ≡ x
round_exact up b bp n e = round_cong up b bp (≈_sym e) ∙ sym (is_round up b bp (self_is up b n))

-- zero only at zero
pub round_zero : (up : Bool) (b : ℕ) (q : Frac) → 0 < b → round up b q ≡ nought → q.num ≡ 0
round_zero false b q bp e = ⊎_elim (λ z. z) (λ np. absurd (go (round_shape false b q bp np).1)) (eq-zero-or-pos q.num)
  where
    go : {s : Bool} → Shape false b q (round false b q) s → ⊥
    go r = unfold finish in omega (arith, pow_pos b, r.low, ap (λ (x : Scaled). x.m) (sym r.is ∙ e))
round_zero true b q bp e = unfold value in omega (arith, (rw e at (round_is true b q bp).side).le)

-- x lies from the point at or below q to the next
between : {up : Bool} {b : ℕ} {q : Frac} {x : Scaled} {s : Bool} (r : Shape up b q x s)
    → (point r.m r.j r.k ≼ value x) × (value x ≼ point (suc r.m) r.j r.k)
between {up} {b} {x = x} {s} r = rw r.is (go (up && s))
  where
    step : point r.m r.j r.k ≼ point (suc r.m) r.j r.k
    step = ≼_trans r.near.low (≼_of_≺ r.near.high)

    go : (t : Bool) → (point r.m r.j r.k ≼ value (finish b r.m (sub_ℕ r.j r.k) t)) × (value (finish b r.m (sub_ℕ r.j r.k) t) ≼ point (suc r.m) r.j r.k)
    go false = unfold finish in (≽_of (value_point _ _ _), ≼_trans (≼_of (value_point _ _ _)) step)
    go true = let v = next_is b r.m r.j r.k r.low r.high in (≼_trans step (≽_of v.same), ≼_of v.same)

-- 1 + 2^-p: what a rounding to p + 1 bits may be off by, as a factor
unfoldable pub slack : ℕ → Frac
slack p = (2 ^ p + 1) over (2 ^ p)

-- relative error at most 2^-p to p + 1 bits: of q and its rounding each is at most the other × (1 + 2^-p)
pub record Close (p : ℕ) (x q : Frac) : Type 0 where
  pub below : q ≼ x ⊗ slack p
  pub above : x ≼ q ⊗ slack p

next_close : (p m j k : ℕ) → 2 ^ suc p ≤ 2 * m → point (suc m) j k ≼ point m j k ⊗ slack p
unfolding point slack ◌over◌ ◌⊗◌
next_close p m j k l =
    let s : suc m * 2 ^ p ≤ m * (2 ^ p + 1) = omega (arith, rw (pow-succ' 2 p) at l) in
    record { le = rw (suc-pred-eq_of_pos (pow_pos p)) (omega (arith, mul-le-mul_right (2 ^ j * 2 ^ k) s)) }

zero_close : (p : ℕ) (q : Frac) → q.num ≡ 0 → Close p (value nought) q
unfolding value ◌⊗◌
zero_close p q z = record { below = record { le = rw z (omega arith) }; above = record { le = omega arith } }

pub round_close : (up : Bool) (p : ℕ) (q : Frac) → Close p (value (round up (suc p) q)) q
round_close up p q =
    ⊎_elim (λ z. rw (zero_round up (suc p) q z) (zero_close p q z)) (λ np. go (round_shape up (suc p) q (omega arith) np).1) (eq-zero-or-pos q.num)
  where
    go : {s : Bool} → Shape up (suc p) q (round up (suc p) q) s → Close p (value (round up (suc p) q)) q
    go r =
        let n = next_close p r.m r.j r.k r.low in
        record {
          below = ≼_trans (≼_of_≺ r.near.high) (≼_trans n (mul_mono (between r).0 (≼_refl _)));
          above = ≼_trans (between r).1 (≼_trans n (mul_mono r.near.low (≼_refl _)));
        }

-- ---- what is lost

-- `lost` is false just where the rounding has q's value
pub lost_none : (up : Bool) (b : ℕ) (q : Frac) → value (round up b q) ≈ q → lost up b q ≡ false
unfolding lost
lost_none up b q e = rw (eq-eqb _ _ e.eq)

pub lost_not : (up : Bool) (b : ℕ) (q : Frac) → lost up b q ≡ false → value (round up b q) ≈ q
unfolding lost
lost_not up b q e = record { eq = eqb-true _ _ (not-false _ e) }

pub lost_some : (up : Bool) (b : ℕ) (q : Frac) → (value (round up b q) ≈ q → ⊥) → lost up b q ≡ true
unfolding lost
lost_some up b q e = rw (ne_eqb _ _ (λ z. e (record { eq = z })))

-- nothing where the rounding is zero
pub lost_nought : (up : Bool) (b : ℕ) (q : Frac) → 0 < b → round up b q ≡ nought → lost up b q ≡ false
lost_nought up b q bp e = lost_none up b q (rw e (unfold value in record { eq = rw (round_zero up b q bp e) (omega arith) }))

-- the value alone counts, not numerator and denominator
pub lost_cong : (up : Bool) (b : ℕ) {p q : Frac} → 0 < b → p ≈ q → lost up b p ≡ lost up b q
lost_cong up b {p} {q} bp e = go (lost up b q) refl
  where
    same : round up b p ≡ round up b q
    same = round_cong up b bp e

    go : (z : Bool) → lost up b q ≡ z → lost up b p ≡ z
    go false k = lost_none up b p (≈_trans (rw same (lost_not up b q k)) (≈_sym e))
    go true k = lost_some up b p (λ h. let f : true ≡ false = sym k ∙ lost_none up b q (≈_trans (rw (← same) h) e) in true≢false f)

≺_not_≈ : {p q : Frac} → p ≺ q → p ≈ q → ⊥
≺_not_≈ h e = ≺_irrefl (≺_≼ h (≽_of e))

shape_lost : (up : Bool) (b : ℕ) (q : Frac) (s : Bool) → Shape up b q (round up b q) s → lost up b q ≡ s
shape_lost false b q false r = lost_none false b q (unfold finish in rw r.is (≈_trans (value_point _ _ _) (antisym r.near.low r.near.cut)))
shape_lost true b q false r = lost_none true b q (unfold finish in rw r.is (≈_trans (value_point _ _ _) (antisym r.near.low r.near.cut)))
shape_lost false b q true r = lost_some false b q (unfold finish in rw r.is (λ e. ≺_not_≈ r.near.cut (≈_trans (≈_sym (value_point _ _ _)) e)))
shape_lost true b q true r =
    let v = next_is b r.m r.j r.k r.low r.high in
    lost_some true b q (rw r.is (λ e. ≺_not_≈ r.near.high (≈_trans (≈_sym e) v.same)))

-- ---- h × 2^e with a rest, packed, is its rounding, and says what is lost

pub record Packed (up : Bool) (b : ℕ) (q : Frac) (h : ℕ) (e : ℤ) (s : Bool) : Type 0 where
  pub is : pack up b h e s ≡ round up b q
  pub loses : inexact b h s ≡ lost up b q

pub pack_round : (up : Bool) (b : ℕ) (q : Frac) (h : ℕ) (e : ℤ) (s : Bool) → 0 < b → 2 ^ b ≤ 2 * h → Near q h (pos_part e) (neg_part e) s → Packed up b q h e s
pack_round up b q h e s bp l r =
    let w : Shape up b q (pack up b h e s) (inexact b h s) = rw (← parts e) at (pack_shape up b q h (pos_part e) (neg_part e) s bp l r) in
    let i : pack up b h e s ≡ round up b q = is_round up b bp (shape_is w) in
    record { is = i; loses = sym (shape_lost up b q (inexact b h s) (rw i at w)) }
