-- Two runs of the steps, over two arithmetics, side by side: one induction for "the lower side is below the exact series", "the exact series is below the upper
-- side", "the upper side is close above the lower", and what is lost on a way. R w x x' says that x is at most x', but for w roundings.
use mathlib.Core.Path.{◌≡◌, refl}
use mathlib.Core.Bool.{Bool}
use Prim.Native.Nat.{ℕ, zero, suc, ◌+◌, ◌*◌, ◌≤◌}
use native.Mathlib.Omega.{arith}
use Rattle.exact.specs.declared.Encounter.{Encounter}
use Rattle.exact.specs.Fraction.{Frac, ◌≼◌, ◌≈◌, ◌⊕◌, ◌⊗◌, ◌÷◌}
use Rattle.exact.specs.Scaled.{value}
use Rattle.exact.specs.Private.Round.{round}
use Rattle.exact.specs.Arithmetic.{Arithmetic, unrounded, rounded}
use Rattle.exact.specs.Steps.{LettersOf, TermsOf, PowersOf, letters, start, first, next_c, next_p, next_v, next_y, next, terms, bound, next_d, tail_term, next_power, powers}
use Rattle.exact.proofs.Fractions.{≼_refl, ≼_trans, ≼_of, ≽_of, ≈_refl, add_mono, mul_mono, div_mono}
use Rattle.exact.proofs.Order.{half_exact}

-- what such a relation has to keep
pub record Within {S S' : Type 0} (A : Arithmetic S) (A' : Arithmetic S') (R : ℕ → S → S' → Type 0) : Type 0 where
  pub fraction : (q : Frac) → R 1 (A.fraction q) (A'.fraction q)
  pub more : {i j : ℕ} {x : S} {x' : S'} → i ≤ j → R i x x' → R j x x'
  pub sum : {i : ℕ} {x y : S} {x' y' : S'} → R i x x' → R i y y' → R (suc i) (A.sum x y) (A'.sum x' y')
  pub product : {i j : ℕ} {x y : S} {x' y' : S'} → R i x x' → R j y y' → R (suc (i + j)) (A.product x y) (A'.product x' y')
  pub quotient : {i : ℕ} {x : S} {x' : S'} (k : ℕ) → R i x x' → R (suc i) (A.quotient x k) (A'.quotient x' k)
  pub half : {i : ℕ} {x : S} {x' : S'} → R i x x' → R i (A.half x) (A'.half x')

-- ---- relations of values

-- an arithmetic whose numbers have a value and whose operations round the exact result; halving is exact
pub record Rounds {S : Type 0} (A : Arithmetic S) (val : S → Frac) (rnd : Frac → S) : Type 0 where
  pub fraction : (q : Frac) → A.fraction q ≡ rnd q
  pub sum : (x y : S) → A.sum x y ≡ rnd (val x ⊕ val y)
  pub product : (x y : S) → A.product x y ≡ rnd (val x ⊗ val y)
  pub quotient : (x : S) (k : ℕ) → A.quotient x k ≡ rnd (val x ÷ k)
  pub half : (x : S) → val (A.half x) ≈ val x ÷ 2

pub side : (up : Bool) (bits : ℕ) → Rounds (rounded up bits) value (round up bits)
unfolding rounded
side up bits = record { fraction = λ q. refl; sum = λ x y. refl; product = λ x y. refl; quotient = λ x k. refl; half = half_exact }

pub exact : Rounds unrounded (λ q. q) (λ q. q)
unfolding unrounded
exact = record { fraction = λ q. refl; sum = λ x y. refl; product = λ x y. refl; quotient = λ x k. refl; half = λ x. ≈_refl _ }

-- what a relation of values has to keep, where the values of results are rounded by f on one side and by f' on the other
pub record Kept (f f' : Frac → Frac) (Q : ℕ → Frac → Frac → Type 0) : Type 0 where
  pub same : (q : Frac) → Q 0 q q
  pub more : {i j : ℕ} {p q : Frac} → i ≤ j → Q i p q → Q j p q
  pub wider : {i : ℕ} {p p' q q' : Frac} → p ≼ p' → q' ≼ q → Q i p' q' → Q i p q
  pub plus : {i : ℕ} {p q p' q' : Frac} → Q i p q → Q i p' q' → Q i (p ⊕ p') (q ⊕ q')
  pub times : {i j : ℕ} {p q p' q' : Frac} → Q i p q → Q j p' q' → Q (i + j) (p ⊗ p') (q ⊗ q')
  pub share : {i : ℕ} {p q : Frac} (n : ℕ) → Q i p q → Q i (p ÷ n) (q ÷ n)
  pub rounds : {i : ℕ} {p q : Frac} → Q i p q → Q (suc i) (f p) (f' q)

-- a relation of values, as one of numbers
pub of_values : {S S' : Type 0} {A : Arithmetic S} {val : S → Frac} {rnd : Frac → S} {A' : Arithmetic S'} {val' : S' → Frac} {rnd' : Frac → S'} {Q : ℕ → Frac → Frac → Type 0}
    → Rounds A val rnd → Rounds A' val' rnd' → Kept (λ q. val (rnd q)) (λ q. val' (rnd' q)) Q → Within A A' (λ w x x'. Q w (val x) (val' x'))
of_values a a' k = record {
  fraction = λ q. rw (a.fraction q, a'.fraction q) (k.rounds (k.same q));
  more = λ l h. k.more l h;
  sum = λ {i} {x} {y} {x'} {y'} h g. rw (a.sum x y, a'.sum x' y') (k.rounds (k.plus h g));
  product = λ {i} {j} {x} {y} {x'} {y'} h g. rw (a.product x y, a'.product x' y') (k.rounds (k.times h g));
  quotient = λ {i} {x} {x'} n h. rw (a.quotient x n, a'.quotient x' n) (k.rounds (k.share n h));
  half = λ {i} {x} {x'} h. k.wider (≼_of (a.half x)) (≽_of (a'.half x')) (k.share 2 h);
}

-- "is at most", however many roundings, where both roundings keep it
pub in_order : {f f' : Frac → Frac} → ((p q : Frac) → p ≼ q → f p ≼ f' q) → Kept f f' (λ w p q. p ≼ q)
in_order rounds = record {
  same = ≼_refl;
  more = λ l h. h;
  wider = λ l r h. ≼_trans l (≼_trans h r);
  plus = λ h k. add_mono h k;
  times = λ h k. mul_mono h k;
  share = λ n h. div_mono n h;
  rounds = λ h. rounds _ _ h;
}

-- ---- the induction

module _ {S S' : Type 0} {A : Arithmetic S} {A' : Arithmetic S'} {R : ℕ → S → S' → Type 0} (W : Within A A' R) where
  sum_R : {i j : ℕ} (w : ℕ) {x y : S} {x' y' : S'} → R i x x' → R j y y' → i ≤ w → j ≤ w → R (suc w) (A.sum x y) (A'.sum x' y')
  sum_R w h k l₁ l₂ = W.sum (W.more l₁ h) (W.more l₂ k)

  product_R : {i j : ℕ} (w : ℕ) {x y : S} {x' y' : S'} → R i x x' → R j y y' → i + j ≤ w → R (suc w) (A.product x y) (A'.product x' y')
  product_R {i} {j} w h k l = W.more {i = suc (i + j)} (omega arith) (W.product h k)

  -- ---- the letters

  pub record CloseLetters (l : LettersOf S) (l' : LettersOf S') : Type 0 where
    pub u : R 1 l.u l'.u
    pub h : R 3 l.h l'.h
    pub X : R 3 l.X l'.X
    pub Y : R 3 l.Y l'.Y
    pub t : R 3 l.t l'.t

  pub letters_close : (E : Encounter) → CloseLetters (letters A E) (letters A' E)
  unfolding letters
  letters_close E =
      let f = W.fraction in
      record {
        u = f _;
        h = W.product (f _) (f _);
        X = W.product (f _) (f _);
        Y = W.product (f _) (f _);
        t = W.sum (W.sum (f _) (f _)) (W.more (omega arith) (f _));
      }

  pub start_close : (E : Encounter) → R 1 (start A E) (start A' E)
  unfolding start
  start_close E = W.fraction _

  -- ---- the terms of index n

  pub record CloseTerms (n : ℕ) (s : TermsOf S) (s' : TermsOf S') : Type 0 where
    pub c : R (9 * n + 1) s.c s'.c
    pub p : R (9 * n + 3) s.p s'.p
    pub v : R (9 * n + 1) s.v s'.v
    pub y : R (9 * n + 2) s.y s'.y
    pub sum : R (9 * n + 1) s.sum s'.sum

  module _ (l : LettersOf S) (l' : LettersOf S') (k : CloseLetters l l') where
    c_close : (n : ℕ) {s : TermsOf S} {s' : TermsOf S'} → CloseTerms n s s' → R (9 * suc n) (next_c A l n s) (next_c A' l' n s')
    unfolding next_c
    c_close n q =
        W.more {i = suc (suc (9 * n + 7))} (omega arith)
        (W.quotient (suc n * suc (suc n))
        (sum_R (9 * n + 7)
        (sum_R (9 * n + 6)
        (sum_R (9 * n + 5) q.p (W.half (product_R (9 * n + 4) k.h q.v (omega arith))) (omega arith) (omega arith))
        (product_R (9 * n + 5) k.X q.y (omega arith)) (omega arith) (omega arith))
        (product_R (9 * n + 4) k.Y q.c (omega arith)) (omega arith) (omega arith)))

    next_close : (n : ℕ) {s : TermsOf S} {s' : TermsOf S'} → CloseTerms n s s' → CloseTerms (suc n) (next A l n s) (next A' l' n s')
    unfolding next next_p next_v next_y
    next_close n {s} {s'} q =
        let c : R (9 * suc n) (next_c A l n s) (next_c A' l' n s') = c_close n q in
        let v = sum_R (9 * suc n) c (W.quotient (suc (suc n)) (product_R (9 * n + 4) k.h q.v (omega arith))) (omega arith) (omega arith) in
        record {
          c = W.more (omega arith) c;
          p = W.more {i = suc (9 * suc n + 2)} (omega arith) (product_R (9 * suc n + 2) k.u (sum_R (9 * suc n) c (W.quotient (suc (suc n)) q.p) (omega arith) (omega arith)) (omega arith));
          v = W.more {i = suc (9 * suc n)} (omega arith) v;
          y = W.more {i = suc (9 * suc n + 1)} (omega arith) (sum_R (9 * suc n + 1) v (W.quotient (suc (suc n)) (product_R (9 * n + 5) k.h q.y (omega arith))) (omega arith) (omega arith));
          sum = W.more {i = suc (9 * suc n)} (omega arith) (sum_R (9 * suc n) q.sum c (omega arith) (omega arith));
        }

    pub terms_close : {c₀ : S} {c₀' : S'} → R 1 c₀ c₀' → (n : ℕ) → CloseTerms n (terms A l c₀ n) (terms A' l' c₀' n)
    unfolding terms first
    terms_close z zero = record {
      c = W.more (omega arith) z;
      p = product_R 2 k.u z (omega arith);
      v = W.more (omega arith) z;
      y = W.more (omega arith) z;
      sum = W.more (omega arith) z;
    }
    terms_close z (suc n) = next_close n (terms_close z n)

    -- ---- M and d(n)

    pub bound_close : R 6 (bound A l) (bound A' l')
    unfolding bound
    bound_close = sum_R 5 (sum_R 4 (sum_R 3 k.u (W.half k.h) (omega arith) (omega arith)) k.X (omega arith) (omega arith)) k.Y (omega arith) (omega arith)

  pub tail_close : {c₀ M : S} {c₀' M' : S'} → R 1 c₀ c₀' → R 6 M M' → (n : ℕ) → R (8 * n + 1) (tail_term A c₀ M n) (tail_term A' c₀' M' n)
  unfolding tail_term next_d
  tail_close z h zero = W.more (omega arith) z
  tail_close z h (suc n) = W.more {i = suc (suc (8 * n + 7))} (omega arith) (W.quotient (suc (suc n)) (product_R (8 * n + 7) (tail_close z h n) h (omega arith)))

  -- ---- r(k) and its sum

  module _ (one t : S) (one' t' : S') (one-R : R 0 one one') (t-R : R 3 t t') where
    pub record ClosePowers (k : ℕ) (w : PowersOf S) (w' : PowersOf S') : Type 0 where
      pub r : R (5 * k) w.r w'.r
      pub sum : R (5 * k + 1) w.sum w'.sum

    pub powers_close : (k : ℕ) → ClosePowers k (powers A one t k) (powers A' one' t' k)
    unfolding powers next_power
    powers_close zero = record { r = W.more (omega arith) one-R; sum = W.more (omega arith) one-R }
    powers_close (suc k) =
        let x = W.quotient (suc k) (product_R (5 * k + 3) (powers_close k).r t-R (omega arith)) in
        record {
          r = W.more {i = suc (suc (5 * k + 3))} (omega arith) x;
          sum = W.more {i = suc (5 * suc k)} (omega arith) (sum_R (5 * suc k) (powers_close k).sum x (omega arith) (omega arith));
        }
