-- Points m × 2^j / 2^k, and where a fraction lies between two neighbouring points.
use mathlib.Core.Path.{◌≡◌, sym, ◌∙◌, ap}
use mathlib.Core.Logic.{⊎_elim}
use mathlib.Core.Bool.{Bool, true, false, not, ◌||◌}
use Prim.Native.Nat.{ℕ, suc, ◌+◌, ◌-◌, ◌*◌, ◌/◌, ◌%◌, ◌^◌, ◌≤◌, ◌<◌}
use native.Mathlib.Nat.{le_trans, le_of_eq, mul-le-mul_left, mul-le-mul_right, mul-lt-mul_of_pos_right, lt_of_mul-lt-mul_right, le_of_mul-le-mul_right, mul-pos, pow-succ', div-mul-le_self, lt-div-mul-add, div-add-mod'}
use native.Mathlib.Omega.{arith}
use lib.Dec.{ltb, T, ltb→lt, nltb→le}
use lib.IntN.{sub_ℕ}
use lib.Pow.{pow_pos, pow-add, pow_mono}
use Rattle.exact.specs.Fraction.{Frac, ◌≼◌, ◌≈◌}
use Rattle.exact.specs.Scaled.{scaled, value}
use Rattle.exact.proofs.Integers.{bal_sub}
use Rattle.exact.proofs.Fractions.{◌≺◌, ≼_trans, ≼_≺, ≺_≼, lt_or_le}

-- m × 2^j / 2^k
unfoldable pub point : ℕ → ℕ → ℕ → Frac
point m j k = record { num = m * 2 ^ j; den = 2 ^ k; pos = pow_pos k }

pub pow_eq : (a b c d : ℕ) → a + b ≡ c + d → 2 ^ a * 2 ^ b ≡ 2 ^ c * 2 ^ d
pow_eq a b c d h = sym (pow-add 2 a b) ∙ ap (λ (x : ℕ). 2 ^ x) h ∙ pow-add 2 c d

-- the same point on two grids
pub same_point : (m j k j' k' : ℕ) → j + k' ≡ j' + k → point m j k ≈ point m j' k'
unfolding point
same_point m j k j' k' h = record { eq = omega (arith, ap (λ (x : ℕ). m * x) (pow_eq j k' j' k h)) }

pub value_point : (m j k : ℕ) → value (scaled m (sub_ℕ j k)) ≈ point m j k
unfolding value point
value_point m j k = same_point m _ _ j k (bal_sub j k)

-- ---- no number of at most b bits lies between a point of b bits and the next

module _ (b m n A B : ℕ) (low : 2 ^ b ≤ 2 * m) (high : n < 2 ^ b) (h : n * 2 ^ A < suc m * 2 ^ B) where
  fine : B ≤ A → n * 2 ^ A ≤ m * 2 ^ B
  fine l =
      let e : 2 ^ A ≡ 2 ^ (A - B) * 2 ^ B = ap (λ (x : ℕ). 2 ^ x) (omega arith) ∙ pow-add 2 (A - B) B in
      let k : n * 2 ^ (A - B) < suc m = lt_of_mul-lt-mul_right (2 ^ B) (omega (arith, h, ap (λ (x : ℕ). n * x) e)) in
      let t : n * 2 ^ (A - B) ≤ m = omega arith in
      omega (arith, mul-le-mul_right (2 ^ B) t, ap (λ (x : ℕ). n * x) e)

  coarse : A < B → n * 2 ^ A ≤ m * 2 ^ B
  coarse l =
      let two : n ≤ 2 * m = omega arith in
      let p : 2 * 2 ^ A ≤ 2 ^ B = le_trans (le_of_eq (sym (pow-succ' 2 A))) (pow_mono l) in
      omega (arith, mul-le-mul_right (2 ^ A) two, mul-le-mul_left m p)

  grid_le : n * 2 ^ A ≤ m * 2 ^ B
  grid_le = ⊎_elim coarse fine (lt_or_le A B)

pub below_next : (b m j k n j' k' : ℕ) → 2 ^ b ≤ 2 * m → n < 2 ^ b → point n j' k' ≺ point (suc m) j k → point n j' k' ≼ point m j k
unfolding point
below_next b m j k n j' k' low high h =
    let l : n * 2 ^ (j' + k) < suc m * 2 ^ (j + k') = rw (pow-add 2 j' k, pow-add 2 j k') (omega (arith, h.lt)) in
    record { le = omega (arith, rw (pow-add 2 j' k, pow-add 2 j k') at (grid_le b m n (j' + k) (j + k') low high l)) }

-- ---- between a point and the next

-- p is q, or below it where s is true
abbrev pub Cut : Bool → Frac → Frac → Type 0
Cut false p q = q ≼ p
Cut true p q = p ≺ q

-- q is h × 2^j / 2^k and, where s is true, a positive rest below 2^j / 2^k
pub record Near (q : Frac) (h j k : ℕ) (s : Bool) : Type 0 where
  pub low : point h j k ≼ q
  pub high : q ≺ point (suc h) j k
  pub cut : Cut s (point h j k) q

-- a remainder r is left or not
pub rest_cases : (P : Bool → Type 0) (r : ℕ) → (0 < r → P true) → (r ≡ 0 → P false) → P (ltb 0 r)
rest_cases P r f g = go (ltb 0 r) (ltb→lt 0 r) (nltb→le 0 r)
  where
    go : (z : Bool) → (T z → 0 < r) → (T (not z) → r ≤ 0) → P z
    go true h k = f (h tt)
    go false h k = let l = k tt in g (omega arith)

-- q is h × 2^j / 2^k
pub near_exact : (q : Frac) (h j k : ℕ) → q.num * 2 ^ k ≡ h * 2 ^ j * q.den → Near q h j k false
unfolding point
near_exact q h j k is = record { low = record { le = omega (arith, is) }; high = record { lt = omega (arith, is, mul-pos (pow_pos j) q.pos) }; cut = record { le = omega (arith, is) } }

-- q is n × 2^j / (d × 2^k): the quotient of n and d is its point, and the remainder says whether there is a rest
module _ (q : Frac) (n d j k : ℕ) (dp : 0 < d) (is : q.num * (d * 2 ^ k) ≡ n * 2 ^ j * q.den) where
  pub near_quotient : Near q (n / d) j k (ltb 0 (n % d))
  unfolding point
  near_quotient = record {
    low = record { le = le_of_mul-le-mul_right {k = d} (omega (arith, is, mul-le-mul_right (2 ^ j * q.den) (div-mul-le_self n d))) dp };
    high = record { lt = lt_of_mul-lt-mul_right d (omega (arith, is, mul-lt-mul_of_pos_right (lt-div-mul-add {a = n} dp) (mul-pos (pow_pos j) q.pos))) };
    cut =
        rest_cases (λ z. Cut z (point (n / d) j k) q) (n % d)
        (λ r.
        let l : n / d * d < n = omega (arith, div-add-mod' n d) in
        record { lt = lt_of_mul-lt-mul_right d (omega (arith, is, mul-lt-mul_of_pos_right l (mul-pos (pow_pos j) q.pos))) })
        (λ r.
        let l : n ≡ n / d * d = omega (arith, div-add-mod' n d) in
        record { le = le_of_mul-le-mul_right {k = d} (omega (arith, is, ap (λ (x : ℕ). x * (2 ^ j * q.den)) l)) dp });
  }

-- ---- with the last t bits of h cut off too

module _ (h j k t : ℕ) where
  up_by : 2 ^ (j + t) ≡ 2 ^ j * 2 ^ t
  up_by = pow-add 2 j t

  coarser_low : point (h / 2 ^ t) (j + t) k ≼ point h j k
  unfolding point
  coarser_low = rw up_by (record { le = omega (arith, mul-le-mul_right (2 ^ j * 2 ^ k) (div-mul-le_self h (2 ^ t))) })

  coarser_high : point (suc h) j k ≼ point (suc (h / 2 ^ t)) (j + t) k
  unfolding point
  coarser_high = rw up_by (record { le = omega (arith, mul-le-mul_right (2 ^ j * 2 ^ k) (lt-div-mul-add {a = h} (pow_pos t))) })

  coarser_same : h % 2 ^ t ≡ 0 → point h j k ≼ point (h / 2 ^ t) (j + t) k
  unfolding point
  coarser_same z =
      let e : h ≡ h / 2 ^ t * 2 ^ t = omega (arith, div-add-mod' h (2 ^ t)) in
      rw up_by (record { le = omega (arith, ap (λ (x : ℕ). x * (2 ^ j * 2 ^ k)) e) })

  coarser_less : 0 < h % 2 ^ t → point (h / 2 ^ t) (j + t) k ≺ point h j k
  unfolding point
  coarser_less z =
      let l : h / 2 ^ t * 2 ^ t < h = omega (arith, div-add-mod' h (2 ^ t)) in
      rw up_by (record { lt = omega (arith, mul-lt-mul_of_pos_right l (mul-pos (pow_pos j) (pow_pos k))) })

  pub coarsen : {q : Frac} (s : Bool) → Near q h j k s → Near q (h / 2 ^ t) (j + t) k (s || ltb 0 (h % 2 ^ t))
  coarsen {q} s r = record { low = ≼_trans coarser_low r.low; high = ≺_≼ r.high coarser_high; cut = go s r.cut }
    where
      go : (s : Bool) → Cut s (point h j k) q → Cut (s || ltb 0 (h % 2 ^ t)) (point (h / 2 ^ t) (j + t) k) q
      go true c = ≼_≺ coarser_low c
      go false c = rest_cases (λ z. Cut z (point (h / 2 ^ t) (j + t) k) q) (h % 2 ^ t) (λ z. ≺_≼ (coarser_less z) r.low) (λ z. ≼_trans c (coarser_same z))
