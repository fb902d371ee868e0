-- The order of scaled numbers by exponent and mantissa, and that halving and doubling are exact.
use mathlib.Core.Path.{◌≡◌, refl, sym, ◌∙◌, ap}
use mathlib.Core.Bool.{Bool, true, false, not, true≢false}
use mathlib.Core.Logic.{⊎_elim}
use Prim.Native.Nat.{ℕ, ◌+◌, ◌*◌, ◌^◌, ◌≤◌, ◌<◌}
use native.Mathlib.Nat.{mul-le-mul_left, mul-le-mul_right, mul-lt-mul_of_pos_right, mul-one, mul-pos, le_of_lt}
use native.Mathlib.Omega.{arith}
use native.Mathlib.Decide.{ℕ_discrete}
use borrow.Author.Tests.{le-leb, lt-leb, eq-eqb, ne_eqb}
use lib.Dec.{leb, leb→le}
use lib.IntN.{ℤ, pos, ◌+ℤ◌, ◌-ℤ◌}
use lib.Pow.{pow_pos, pow-add, pow_mono}
use Rattle.exact.specs.declared.Scaled.{Scaled}
use Rattle.exact.specs.Integer.{pos_part, neg_part}
use Rattle.exact.specs.Fraction.{Frac, ◌≼◌, ◌≈◌, ◌⊕◌, ◌⊗◌, ◌÷◌, whole, at_most, above}
use Rattle.exact.specs.Scaled.{scaled, nought, value, Normal, IsScaled, with_exponent, half, double}
use Rattle.exact.proofs.Integers.{bal_add, bal_diff}
use Rattle.exact.specs.Private.Round.{round}
use Rattle.exact.proofs.Fractions.{◌≺◌, lt_or_le, ≈_refl, ≈_sym, add_cong, ≼_trans, ≼_≺, ≺_≼, ≼_of_≺, ≼_of, ≽_of, ≺_or_≼}
use Rattle.exact.proofs.Rounding.{round_is, round_cong}

-- ---- the test and the order

pub at_most_yes : (p q : Frac) → p ≼ q → at_most p q ≡ true
unfolding at_most
at_most_yes p q h = le-leb _ _ h.le

pub at_most_holds : (p q : Frac) → at_most p q ≡ true → p ≼ q
unfolding at_most
at_most_holds p q h = record { le = leb→le _ _ (rw h tt) }

pub not_above : (p q : Frac) → above p q ≡ false → p ≼ q
unfolding above
not_above p q h = at_most_holds p q (go (at_most p q) h)
  where
    go : (b : Bool) → not b ≡ false → b ≡ true
    go true h = refl
    go false h = sym h

pub at_most_no : (p q : Frac) → q ≺ p → at_most p q ≡ false
unfolding at_most
at_most_no p q h = lt-leb _ _ h.lt

pub at_most_otherwise : (p q : Frac) → at_most p q ≡ false → q ≼ p
at_most_otherwise p q e = ⊎_elim (λ l. ≼_of_≺ l) (λ l. absurd (true≢false (sym (at_most_yes p q l) ∙ e))) (≺_or_≼ q p)

pub above_yes : (p q : Frac) → q ≺ p → above p q ≡ true
unfolding above
above_yes p q h = ap not (at_most_no p q h)

pub above_no : (p q : Frac) → p ≼ q → above p q ≡ false
unfolding above
above_no p q h = ap not (at_most_yes p q h)

pub above_holds : (p q : Frac) → above p q ≡ true → q ≺ p
above_holds p q h = ⊎_elim (λ l. l) (λ l. absurd (true≢false (sym h ∙ above_no p q l))) (≺_or_≼ q p)

-- ---- by exponent and mantissa

leb_scale : (u a c : ℕ) → 0 < u → leb (a * u) (c * u) ≡ leb a c
leb_scale u a c p = ⊎_elim
    (λ l. lt-leb _ _ (mul-lt-mul_of_pos_right l p) ∙ sym (lt-leb _ _ l))
    (λ l. le-leb _ _ (mul-le-mul_right u l) ∙ sym (le-leb _ _ l))
    (lt_or_le c a)

-- x's exponent is y's and g more
module _ (x y : Scaled) (g : ℕ) (e : x.e ≡ y.e +ℤ pos g) where
  unit : ℕ
  unit = 2 ^ pos_part y.e * 2 ^ neg_part x.e

  unit_pos : 0 < unit
  unfolding unit
  unit_pos = mul-pos (pow_pos (pos_part y.e)) (pow_pos (neg_part x.e))

  larger : x.m * 2 ^ pos_part x.e * 2 ^ neg_part y.e ≡ x.m * 2 ^ g * unit
  unfolding unit
  larger =
      let b : pos_part x.e + neg_part y.e ≡ pos_part y.e + g + neg_part x.e = rw e (omega (arith, bal_add y.e (pos g))) in
      omega (arith, ap (λ (z : ℕ). x.m * z) (simp (pow-add 2) at (ap (λ (z : ℕ). 2 ^ z) b)))

  smaller : y.m * 2 ^ pos_part y.e * 2 ^ neg_part x.e ≡ y.m * unit
  unfolding unit
  smaller = omega arith

  above_below : at_most (value x) (value y) ≡ leb (x.m * 2 ^ g) y.m
  unfolding at_most value
  above_below = rw (larger, smaller) (leb_scale unit (x.m * 2 ^ g) y.m unit_pos)

  below_above : at_most (value y) (value x) ≡ leb y.m (x.m * 2 ^ g)
  unfolding at_most value
  below_above = rw (larger, smaller) (leb_scale unit y.m (x.m * 2 ^ g) unit_pos)

-- of two numbers of b bits the one with the larger exponent is the larger
larger_mantissa : (b m n g : ℕ) → 2 ^ b ≤ 2 * m → n < 2 ^ b → 0 < g → n < m * 2 ^ g
larger_mantissa b m n g l h p =
    let t : 2 ^ 1 ≤ 2 ^ g = pow_mono p in
    omega (arith, mul-le-mul_left m t)

pub larger_exponent : (b : ℕ) (x y : Scaled) (g : ℕ) → Normal b x → Normal b y → 0 < g → x.e ≡ y.e +ℤ pos g → at_most (value x) (value y) ≡ false
larger_exponent b x y g n n' p e = above_below x y g e ∙ lt-leb _ _ (larger_mantissa b x.m y.m g n.low n'.high p)

pub smaller_exponent : (b : ℕ) (x y : Scaled) (g : ℕ) → Normal b x → Normal b y → 0 < g → y.e ≡ x.e +ℤ pos g → at_most (value x) (value y) ≡ true
smaller_exponent b x y g n n' p e = below_above y x g e ∙ le-leb _ _ (le_of_lt (larger_mantissa b y.m x.m g n'.low n.high p))

pub equal_exponents : (x y : Scaled) → x.e ≡ y.e +ℤ pos 0 → at_most (value x) (value y) ≡ leb x.m y.m
equal_exponents x y e = above_below x y 0 e ∙ rw (mul-one x.m)

pub zero_at_most : (x y : Scaled) → x.m ≡ 0 → at_most (value x) (value y) ≡ true
zero_at_most x y z = at_most_yes (value x) (value y) (record { le = unfold value in rw z (omega arith) })

pub not_at_most_zero : (b : ℕ) (x y : Scaled) → Normal b x → y.m ≡ 0 → at_most (value x) (value y) ≡ false
unfolding at_most value
not_at_most_zero b x y n z = lt-leb ((value x).num * (value y).den) ((value y).num * (value x).den) (rw z (omega (arith, mul-pos (mul-pos (pos_mantissa n) (pow_pos (pos_part x.e))) (pow_pos (neg_part y.e)))))
  where
    pos_mantissa : Normal b x → 0 < x.m
    pos_mantissa n = omega (arith, n.low, pow_pos b)

-- ---- halving and doubling are exact

pub exponent_none : (x : Scaled) (e : ℤ) → x.m ≡ 0 → with_exponent x e ≡ nought
unfolding with_exponent
exponent_none x e h = rw (eq-eqb x.m 0 h)

pub exponent_some : (x : Scaled) (e : ℤ) → (x.m ≡ 0 → ⊥) → with_exponent x e ≡ scaled x.m e
unfolding with_exponent
exponent_some x e h = rw (ne_eqb x.m 0 h)

-- with_exponent x e has the value v where m × 2^e has it, or where x is zero and v too
by_mantissa : (x : Scaled) (e : ℤ) (v : Frac) → (x.m ≡ 0 → v.num ≡ 0) → value (scaled x.m e) ≈ v → value (with_exponent x e) ≈ v
by_mantissa x e v z s = go (ℕ_discrete x.m 0)
  where
    go : Dec (x.m ≡ 0) → value (with_exponent x e) ≈ v
    go (yes n) = rw (exponent_none x e n) (unfold value in record { eq = rw (z n) (omega arith) })
    go (no n) = rw (exponent_some x e n) s

pub half_exact : (x : Scaled) → value (half x) ≈ value x ÷ 2
half_exact x = by_mantissa x (x.e -ℤ pos 1) (value x ÷ 2) (λ n. unfold value ◌÷◌ in rw n (omega arith)) (unfold value ◌÷◌ in record { eq = is })
  where
    is : x.m * 2 ^ pos_part (x.e -ℤ pos 1) * (2 ^ neg_part x.e * 2) ≡ x.m * 2 ^ pos_part x.e * 2 ^ neg_part (x.e -ℤ pos 1)
    is = omega (arith, ap (λ (z : ℕ). x.m * z) (simp (pow-add 2) at (ap (λ (z : ℕ). 2 ^ z) (bal_diff x.e (pos 1)))))

pub double_exact : (x : Scaled) → value (double x) ≈ whole 2 ⊗ value x
double_exact x = by_mantissa x (x.e +ℤ pos 1) (whole 2 ⊗ value x) (λ n. unfold value whole ◌⊗◌ in rw n (omega arith)) (unfold value whole ◌⊗◌ in record { eq = is })
  where
    is : x.m * 2 ^ pos_part (x.e +ℤ pos 1) * (1 * 2 ^ neg_part x.e) ≡ 2 * (x.m * 2 ^ pos_part x.e) * 2 ^ neg_part (x.e +ℤ pos 1)
    is = omega (arith, ap (λ (z : ℕ). x.m * z) (simp (pow-add 2) at (ap (λ (z : ℕ). 2 ^ z) (bal_add x.e (pos 1)))))

-- a sum with a double
pub sum_double : (up : Bool) (b : ℕ) (x y : Scaled) → 0 < b → round up b (value x ⊕ whole 2 ⊗ value y) ≡ round up b (value x ⊕ value (double y))
sum_double up b x y bp = round_cong up b bp (add_cong (≈_refl (value x)) (≈_sym (double_exact y)))

-- the test depends on the values alone
pub at_most_cong : (p p' q q' : Frac) → p ≈ p' → q ≈ q' → at_most p q ≡ at_most p' q'
at_most_cong p p' q q' e f =
    ⊎_elim
    (λ l. at_most_no p q l ∙ sym (at_most_no p' q' (≺_≼ (≼_≺ (≽_of f) l) (≼_of e))))
    (λ l. at_most_yes p q l ∙ sym (at_most_yes p' q' (≼_trans (≽_of e) (≼_trans l (≼_of f)))))
    (≺_or_≼ q p)

-- x is at least q just where it is at least U(q)
pub at_least_up : (b : ℕ) (q : Frac) {x : Scaled} → 0 < b → IsScaled b x → at_most (value (round true b q)) (value x) ≡ at_most q (value x)
at_least_up b q {x} bp n =
    ⊎_elim
    (λ l. at_most_no (value (round true b q)) (value x) (≺_≼ l (round_is true b q bp).side) ∙ sym (at_most_no q (value x) l))
    (λ l. at_most_yes _ _ ((round_is true b q bp).best x n l) ∙ sym (at_most_yes _ _ l))
    (≺_or_≼ (value x) q)
