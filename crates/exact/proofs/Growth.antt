-- The steps, over any arithmetic, keep a property P B of numbers, where B grows with the steps: at index n within 700n + 400. One induction for "every exponent is
-- within" and "no division is refused".
use mathlib.Core.Path.{◌≡◌}
use Prim.Native.Nat.{ℕ, zero, suc, ◌+◌, ◌-◌, ◌*◌, ◌^◌, ◌≤◌, ◌<◌}
use native.Mathlib.Nat.{mul-le-mul, mul-pos, zero-lt-suc}
use native.Mathlib.Omega.{arith}
use lib.IntN.{nat_abs}
use Rattle.exact.specs.Numbers.{largest_length, largest_order}
use Rattle.exact.specs.Fraction.{◌over◌}
use Rattle.exact.specs.Private.Ranges.{LettersAll, TermsAll, PowersAll, Bounds}
use Rattle.exact.specs.declared.Encounter.{Encounter}
use Rattle.exact.specs.Series.{square, u, b, zx, zy, g, a₀}
use Rattle.exact.specs.Arithmetic.{Arithmetic}
use Rattle.exact.specs.Steps.{LettersOf, TermsOf, letters, start, first, next_c, next_p, next_v, next_y, next, terms, bound, next_d, tail_term, next_power, powers}

-- what such a property has to keep: an operation adds so much to B; divisors are up to 2^32, and numerators and denominators of fractions below 2^48
pub record Keeps {S : Type 0} (A : Arithmetic S) (P : ℕ → S → Type 0) : Type 0 where
  pub more : {i j : ℕ} {x : S} → i ≤ j → P i x → P j x
  pub fraction : (n d : ℕ) → n < 2 ^ 48 → d < 2 ^ 48 → 0 < d → P 177 (A.fraction (n over d))
  pub sum : {i : ℕ} {x y : S} → P i x → P i y → P (i + 1 + 1) (A.sum x y)
  pub product : {i j : ℕ} {x y : S} → P i x → P j y → P (i + j + 32 + 1) (A.product x y)
  pub quotient : {i : ℕ} {x : S} (k : ℕ) → 0 < k → k ≤ 2 ^ 32 → P i x → P (i + 32 + 1) (A.quotient x k)
  pub half : {i : ℕ} {x : S} → P i x → P (i + 1) (A.half x)

module _ {S : Type 0} {A : Arithmetic S} {P : ℕ → S → Type 0} (K : Keeps A P) where
  module _ (l : LettersOf S) (i : LettersAll P l) where
    -- ---- the terms

    -- the divisors fit
    small : (n : ℕ) → n < largest_order → suc n * suc (suc n) ≤ 2 ^ 32
    small n h =
        let a : suc n ≤ largest_order = h in
        let b : suc (suc n) ≤ suc largest_order = omega arith in
        omega (arith, mul-le-mul a b)

    pub c_in : (B n : ℕ) {s : TermsOf S} → n < largest_order → TermsAll P B s → P (B + 460) (next_c A l n s)
    unfolding next_c
    c_in B n {s} nl k =
        K.more (omega arith)
        (K.quotient (suc n * suc (suc n)) (mul-pos (zero-lt-suc n) (zero-lt-suc (suc n))) (small n nl)
        (K.sum
        (K.more {j = B + 425} (omega arith) (K.sum
        (K.more {j = B + 423} (omega arith) (K.sum (K.more {j = B + 420 + 1} (omega arith) k.p) (K.half (K.more {j = B + 420} (omega arith) (K.product i.h k.v)))))
        (K.more (omega arith) (K.product i.X k.y))))
        (K.more (omega arith) (K.product i.Y k.c))))

    next_in : (B n : ℕ) {s : TermsOf S} → n < largest_order → TermsAll P B s → TermsAll P (B + 700) (next A l n s)
    unfolding next next_p next_v next_y
    next_in B n {s} nl k =
        let c = c_in B n nl k in
        let kl : suc (suc n) ≤ 2 ^ 32 = omega arith in
        let kp = zero-lt-suc (suc n) in
        let v = K.sum c (K.more {j = B + 460} (omega arith) (K.quotient (suc (suc n)) kp kl (K.product i.h k.v))) in
        record {
          c = K.more (omega arith) c;
          p = K.more (omega arith) (K.product i.u (K.sum c (K.more {j = B + 460} (omega arith) (K.quotient (suc (suc n)) kp kl k.p))));
          v = K.more (omega arith) v;
          y = K.more (omega arith) (K.sum v (K.more {j = B + 460 + 1 + 1} (omega arith) (K.quotient (suc (suc n)) kp kl (K.product i.h k.y))));
          sum = K.more (omega arith) (K.sum (K.more {j = B + 460} (omega arith) k.sum) c);
        }

    pub terms_in : {c₀ : S} → P 177 c₀ → (n : ℕ) → n ≤ largest_order → TermsAll P (700 * n + 400) (terms A l c₀ n)
    unfolding terms first
    terms_in z zero nl =
        let c₀ = K.more {j = 400} (omega arith) z in
        record { c = c₀; p = K.more (omega arith) (K.product i.u z); v = c₀; y = c₀; sum = c₀ }
    terms_in z (suc n) nl = rw (← step n) (next_in (700 * n + 400) n nl (terms_in z n (omega arith)))
      where
        step : (n : ℕ) → 700 * n + 400 + 700 ≡ 700 * suc n + 400
        step n = omega arith

    -- ---- M and d(n)

    pub bound_in : P 400 (bound A l)
    unfolding bound
    bound_in =
        K.more (omega arith)
        (K.sum (K.sum (K.sum (K.more {j = 387 + 1} (omega arith) i.u) (K.half i.h)) (K.more {j = 387 + 1 + 1 + 1} (omega arith) i.X)) (K.more {j = 387 + 1 + 1 + 1 + 1 + 1} (omega arith) i.Y))

  pub tail_in : {c₀ M : S} → P 177 c₀ → P 400 M → (n : ℕ) → n ≤ largest_order → P (700 * n + 400) (tail_term A c₀ M n)
  unfolding tail_term next_d
  tail_in z m zero nl = K.more (omega arith) z
  tail_in z m (suc n) nl = K.more (omega arith) (K.quotient (suc (suc n)) (zero-lt-suc (suc n)) (omega arith) (K.product (tail_in z m n (omega arith)) m))

  -- ---- r(k) and its sum

  pub powers_in : (one t : S) → P 400 one → P 387 t → (k : ℕ) → k ≤ largest_order → PowersAll P (700 * k + 400) (powers A one t k)
  unfolding powers next_power
  powers_in one t o i zero kl = record { r = o; sum = o }
  powers_in one t o i (suc k) kl =
      let q = powers_in one t o i k (omega arith) in
      let r = K.quotient (suc k) (zero-lt-suc k) (omega arith) (K.product q.r i) in
      record { r = K.more (omega arith) r; sum = K.more (omega arith) (K.sum (K.more {j = 700 * k + 400 + 387 + 32 + 1 + 32 + 1} (omega arith) q.sum) r) }

  -- ---- an accepted encounter's letters

  square_max : (n : ℕ) → n ≤ largest_length → n * n < 2 ^ 48
  square_max n l = omega (arith, mul-le-mul l l)

  -- the fractions of which the letters are formed
  module _ {E : Encounter} (f : Bounds E) where
    pub all_fractions : (P 177 (A.fraction (u E))) × (P 177 (A.fraction (b E))) × (P 177 (A.fraction (zx E))) × (P 177 (A.fraction (zy E))) × (P 177 (A.fraction (g E)))
    unfolding u b zx zy g square
    all_fractions =
        let R = square_max E.R f.R_max in
        let x = mul-le-mul f.sx_max f.sx_max in
        let y = mul-le-mul f.sy_max f.sy_max in
        let xp = mul-pos f.sx_pos f.sx_pos in
        let yp = mul-pos f.sy_pos f.sy_pos in (
          K.fraction (E.R * E.R) (2 * (E.sy * E.sy)) R (omega arith) (omega arith),
          K.fraction (E.R * E.R) (2 * (E.sx * E.sx)) R (omega arith) (omega arith),
          K.fraction (square E.xm) (2 * (E.sx * E.sx)) (square_max (nat_abs E.xm) f.xm_max) (omega arith) (omega arith),
          K.fraction (square E.ym) (2 * (E.sy * E.sy)) (square_max (nat_abs E.ym) f.ym_max) (omega arith) (omega arith),
          K.fraction (E.sx * E.sx - E.sy * E.sy) (E.sx * E.sx) (omega arith) (omega arith) xp,
        )

  pub letters_in : {E : Encounter} → Bounds E → LettersAll P (letters A E)
  unfolding letters
  letters_in {E} f =
      let i = all_fractions f in
      record {
        u = i.0;
        h = K.product i.0 i.4;
        X = K.product i.2 i.1;
        Y = K.product i.3 i.0;
        t = K.more (omega arith) (K.sum (K.sum i.2 i.3) (K.more {j = 177 + 1 + 1} (omega arith) i.0));
      }

  pub start_in : {E : Encounter} → Bounds E → P 177 (start A E)
  unfolding start a₀
  start_in {E} f =
      let xy = mul-le-mul f.sx_max f.sy_max in
      let p = mul-pos f.sx_pos f.sy_pos in
      K.fraction (E.R * E.R) (2 * (E.sx * E.sy)) (square_max E.R f.R_max) (omega arith) (omega arith)
