-- Document 01, 'The rounded steps'. They are written once, over an arithmetic (Arithmetic.antt): on the lower side its operations are the paper's D, on the upper U;
-- over the fractions themselves, where nothing is rounded, the steps are the exact series (claim `unrounded`, encounter/specs/Claims.antt). Then, to 32 significant
-- bits: both sides of an encounter, the tail bound, the two ends at an order N, and the tests of the class (request #101 of document 02).
use Rattle.std.specs.Prelude.{Bool, true, false, ℕ, zero, suc, pred, ◌*◌}
use Rattle.exact.specs.declared.Encounter.{Encounter}
use Rattle.exact.specs.declared.Scaled.{Scaled}
use Rattle.exact.specs.Fraction.{Frac, whole, ◌⊕◌, ◌⊗◌, ◌⊘◌, at_most, above}
use Rattle.exact.specs.Numbers.{exponential_cut, threshold_odds}
use Rattle.exact.specs.Scaled.{one, value, D, U}
use Rattle.exact.specs.Arithmetic.{Arithmetic, rounded}
use Rattle.exact.specs.Series.{u, b, zx, zy, g, a₀}

-- the letters that a side keeps: u, and what is formed "on rounded u, b, zx, zy, g, c(0) (each D of its exact fraction)": h, X, Y, t
pub record LettersOf (S : Type 0) : Type 0 where
  pub u : S
  pub h : S
  pub X : S
  pub Y : S
  pub t : S

-- c(n), p(n), v(n), y(n), and the sum of c(0) to c(n)
pub record TermsOf (S : Type 0) : Type 0 where
  pub c : S
  pub p : S
  pub v : S
  pub y : S
  pub sum : S

-- r(k), and the sum of r(0) to r(k)
pub record PowersOf (S : Type 0) : Type 0 where
  pub r : S
  pub sum : S

-- Below, the arithmetic A comes first, then the letters l, then what each line names: `terms A l c(0) n`, `tail_term A c(0) M n`, `powers A one t k`.
module _ {S : Type 0} (A : Arithmetic S) where
  -- Left of each = the rounded letter, right of it the exact ones of Series.antt. "h = D(u × g); X = D(zx × b); Y = D(zy × u); t = D(D(zx + zy) + u)."
  unfoldable pub letters : Encounter → LettersOf S
  letters E = record {
    u = A.fraction (u E);
    h = A.product (A.fraction (u E)) (A.fraction (g E));
    X = A.product (A.fraction (zx E)) (A.fraction (b E));
    Y = A.product (A.fraction (zy E)) (A.fraction (u E));
    t = A.sum (A.sum (A.fraction (zx E)) (A.fraction (zy E))) (A.fraction (u E));
  }

  -- c(0), rounded
  unfoldable pub start : Encounter → S
  start E = A.fraction (a₀ E)

  module _ (l : LettersOf S) where
    -- "p(0) = D(u × c(0)); v(0) = y(0) = c(0)."
    unfoldable pub first : S → TermsOf S
    first c₀ = record { c = c₀; p = A.product l.u c₀; v = c₀; y = c₀; sum = c₀ }

    -- "c(n+1) = D(D(D(D(p(n) + D(h × v(n))/2) + D(X × y(n))) + D(Y × c(n))) / ((n+1)(n+2)))"
    unfoldable pub next_c : ℕ → TermsOf S → S
    next_c n s =
        A.quotient
        (A.sum (A.sum (A.sum s.p (A.half (A.product l.h s.v))) (A.product l.X s.y)) (A.product l.Y s.c))
        (suc n * suc (suc n))

    -- "p(n) = D(u × D(c(n) + D(p(n−1)/(n+1))))", so p(n+1) = D(u × D(c(n+1) + D(p(n)/(n+2)))); c is c(n+1)
    unfoldable pub next_p : ℕ → S → TermsOf S → S
    next_p n c s = A.product l.u (A.sum c (A.quotient s.p (suc (suc n))))

    -- "v(n) = D(c(n) + D(D(h × v(n−1))/(n+1)))", so v(n+1) = D(c(n+1) + D(D(h × v(n))/(n+2))); c is c(n+1)
    unfoldable pub next_v : ℕ → S → TermsOf S → S
    next_v n c s = A.sum c (A.quotient (A.product l.h s.v) (suc (suc n)))

    -- "y(n) = D(v(n) + D(D(h × y(n−1))/(n+1)))", so y(n+1) = D(v(n+1) + D(D(h × y(n))/(n+2))); v is v(n+1)
    unfoldable pub next_y : ℕ → S → TermsOf S → S
    next_y n v s = A.sum v (A.quotient (A.product l.h s.y) (suc (suc n)))

    -- "The sum adds c(0), c(1), .. in that order, one D for each addition."
    unfoldable pub next : ℕ → TermsOf S → TermsOf S
    next n s =
        let c = next_c n s in
        let v = next_v n c s in
        record { c = c; p = next_p n c s; v = v; y = next_y n v s; sum = A.sum s.sum c }

    unfoldable pub terms : S → ℕ → TermsOf S
    terms c₀ zero = first c₀
    terms c₀ (suc n) = next n (terms c₀ n)

    -- M, by the upper side's arithmetic: "M = U(U(U(u + h/2) + X) + Y)"
    unfoldable pub bound : S
    bound = A.sum (A.sum (A.sum l.u (A.half l.h)) l.X) l.Y

  -- d(n), likewise: "d(n) = U(U(d(n−1) × M)/(n+1))", so d(n+1) = U(U(d(n) × M)/(n+2))
  unfoldable pub next_d : S → ℕ → S → S
  next_d M n d = A.quotient (A.product d M) (suc (suc n))

  -- "d(0) = c(0)"
  unfoldable pub tail_term : S → S → ℕ → S
  tail_term c₀ M zero = c₀
  tail_term c₀ M (suc n) = next_d M n (tail_term c₀ M n)

  -- "The exponential has r(0) = 1, r(k) = D(D(r(k−1) × t)/k), added likewise"
  module _ (one t : S) where
    unfoldable pub next_power : ℕ → PowersOf S → PowersOf S
    next_power k w = let r = A.quotient (A.product w.r t) (suc k) in record { r = r; sum = A.sum w.sum r }

    unfoldable pub powers : ℕ → PowersOf S
    powers zero = record { r = one; sum = one }
    powers (suc k) = next_power k (powers k)

-- a side: up is false for the lower, true for the upper
module _ (up : Bool) (E : Encounter) where
  unfoldable pub side_letters : LettersOf Scaled
  side_letters = letters (rounded up 32) E

  unfoldable pub side_start : Scaled
  side_start = start (rounded up 32) E

  unfoldable pub side_terms : ℕ → TermsOf Scaled
  side_terms n = terms (rounded up 32) side_letters side_start n

  unfoldable pub side_powers : ℕ → PowersOf Scaled
  side_powers k = powers (rounded up 32) one side_letters.t k

  -- the sum of c(0) to c(N−1), for N ≥ 1
  unfoldable pub sum_to : ℕ → Scaled
  sum_to N = (side_terms (pred N)).sum

  -- the exponential sum: "for k to 255"
  unfoldable pub exponential_sum : Scaled
  exponential_sum = (side_powers (pred exponential_cut)).sum

module _ (E : Encounter) where
  -- "upper r(256)"
  unfoldable pub r256 : Scaled
  r256 = (side_powers true E exponential_cut).r

  -- M: "Upper side only: M = U(U(U(u + h/2) + X) + Y)"
  unfoldable pub M : Scaled
  M = bound (rounded true 32) (side_letters true E)

  -- d(n)
  unfoldable pub d : ℕ → Scaled
  d n = tail_term (rounded true 32) (side_start true E) M n

  -- "the tail bound at N is 2d(N)"
  unfoldable pub tail_bound : ℕ → Frac
  tail_bound N = whole 2 ⊗ value (d N)

  -- "U(upper exponential sum + 2 × upper r(256))"
  unfoldable pub exponential_with_tail : Scaled
  exponential_with_tail = U (value (exponential_sum true E) ⊕ whole 2 ⊗ value r256)

  -- "Lower end: D of the lower sum over U(upper exponential sum + 2 × upper r(256))."
  unfoldable pub lower_end : ℕ → Scaled
  lower_end N = D (value (sum_to false E N) ⊘ value exponential_with_tail)

  -- "Upper end: U of U(upper sum + tail bound) over the lower exponential sum."
  unfoldable pub upper_end : ℕ → Scaled
  upper_end N = U (value (U (value (sum_to true E N) ⊕ tail_bound N)) ⊘ value (exponential_sum false E))

-- Request #101, which replaces the class rule: "Alert remains where the lower end × 10,000 ≥ 1." Of any fraction, an end or a quotient
unfoldable pub alert : Frac → Bool
alert p = at_most (whole 1) (p ⊗ whole threshold_odds)

-- Request #101: "Clear now needs the upper end × 10,000 below 1."
unfoldable pub clear : Frac → Bool
clear p = above (whole 1) (p ⊗ whole threshold_odds)
