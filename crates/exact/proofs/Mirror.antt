-- A miss counts by its square: an encounter on the other side of an axis has the same letters, and so the same answers at every order.
use mathlib.Core.Path.{◌≡◌, refl, ap}
use mathlib.Core.Bool.{Bool, true, false, ◌||◌}
use Prim.Native.Nat.{ℕ, zero, suc, pred, ◌+◌}
use lib.IntN.{ℤ, pos, negsuc, neg_ℤ}
use Rattle.exact.specs.Numbers.{exponential_cut}
use Rattle.exact.specs.declared.Scaled.{Scaled}
use Rattle.exact.specs.declared.Traced.{Traced}
use Rattle.exact.specs.Scaled.{one, value, D, U}
use Rattle.exact.specs.Fraction.{whole, ◌⊕◌, ◌⊗◌, ◌⊘◌, above}
use Rattle.exact.specs.declared.Encounter.{Encounter}
use Rattle.exact.specs.Series.{mirrored, square, u, b, zx, zy, g, a₀}
use Rattle.exact.specs.Arithmetic.{Arithmetic, rounded, traced}
use Rattle.exact.specs.Least.{least}
use Rattle.exact.specs.Losses.{traced_letters, traced_terms, term_lost, either_lost, exact_terms}
use Rattle.exact.specs.Steps.{LettersOf, PowersOf, letters, start, terms, powers, bound, tail_term, side_letters, side_start, side_terms, side_powers, sum_to, M, d, tail_bound, exponential_with_tail, exponential_sum, r256, lower_end, upper_end}
use Rattle.exact.specs.Refusals.{miss_outside, refuses_3, refuses_4, refuses_5, refuses_6, refuses_7, refuses_11, begin_refusal, refuses_23}

ap₃ : {A B C S : Type 0} (f : A → B → C → S) {a a' : A} {b b' : B} {c c' : C} → a ≡ a' → b ≡ b' → c ≡ c' → f a b c ≡ f a' b' c'
ap₃ f p q r = λ i. f (p i) (q i) (r i)

square_neg : (z : ℤ) → square (neg_ℤ z) ≡ square z
unfolding square
square_neg (pos zero) = refl
square_neg (pos (suc n)) = refl
square_neg (negsuc n) = refl

-- over every arithmetic
any_mirror : {S : Type 0} (A : Arithmetic S) (E : Encounter) → letters A (mirrored E) ≡ letters A E
unfolding letters u b zx zy g
any_mirror A E = rw (square_neg E.xm)

pub letters_mirror : (up : Bool) (E : Encounter) → side_letters up (mirrored E) ≡ side_letters up E
unfolding side_letters
letters_mirror up E = any_mirror (rounded up 32) E

sum_mirror : (up : Bool) (E : Encounter) (N : ℕ) → sum_to up (mirrored E) N ≡ sum_to up E N
unfolding sum_to side_terms side_start start a₀
sum_mirror up E N = ap (λ (l : LettersOf Scaled). (terms (rounded up 32) l (side_start up E) (pred N)).sum) (letters_mirror up E)

powers_mirror : (up : Bool) (E : Encounter) (k : ℕ) → side_powers up (mirrored E) k ≡ side_powers up E k
unfolding side_powers
powers_mirror up E k = ap (λ (l : LettersOf Scaled). powers (rounded up 32) one l.t k) (letters_mirror up E)

d_mirror : (E : Encounter) (N : ℕ) → d (mirrored E) N ≡ d E N
unfolding d M side_start start a₀
d_mirror E N = ap (λ (l : LettersOf Scaled). tail_term (rounded true 32) (side_start true E) (bound (rounded true 32) l) N) (letters_mirror true E)

pub lower_mirror : (E : Encounter) (N : ℕ) → lower_end (mirrored E) N ≡ lower_end E N
unfolding lower_end exponential_with_tail exponential_sum r256
lower_mirror E N =
    ap₃ (λ (s : Scaled) (w r : PowersOf Scaled). D (value s ⊘ value (U (value w.sum ⊕ whole 2 ⊗ value r.r)))) (sum_mirror false E N) (powers_mirror true E (pred exponential_cut)) (powers_mirror true E exponential_cut)

pub upper_mirror : (E : Encounter) (N : ℕ) → upper_end (mirrored E) N ≡ upper_end E N
unfolding upper_end exponential_sum tail_bound
upper_mirror E N =
    ap₃ (λ (s x : Scaled) (w : PowersOf Scaled). U (value (U (value s ⊕ whole 2 ⊗ value x)) ⊘ value w.sum)) (sum_mirror true E N) (d_mirror E N) (powers_mirror false E (pred exponential_cut))

pub read_mirror : (E : Encounter) (N : ℕ) → refuses_23 (mirrored E) N ≡ refuses_23 E N
unfolding refuses_23 M
read_mirror E N = ap (λ (l : LettersOf Scaled). above (whole 2 ⊗ value (bound (rounded true 32) l)) (whole (N + 2))) (letters_mirror true E)

miss_mirror : (z : ℤ) → miss_outside (neg_ℤ z) ≡ miss_outside z
unfolding miss_outside
miss_mirror (pos zero) = refl
miss_mirror (pos (suc n)) = refl
miss_mirror (negsuc n) = refl

pub refusal_mirror : (E : Encounter) → begin_refusal (mirrored E) ≡ begin_refusal E
unfolding begin_refusal refuses_3 refuses_4 refuses_5 refuses_6 refuses_7 refuses_11 M
refusal_mirror E = rw (miss_mirror E.xm, letters_mirror true E)

-- the count of exact terms
lost_mirror : (up : Bool) (E : Encounter) (n : ℕ) → term_lost up (mirrored E) n ≡ term_lost up E n
unfolding term_lost traced_terms traced_letters start a₀
lost_mirror up E n = ap (λ (l : LettersOf Traced). (terms (traced up 32) l (start (traced up 32) E) n).c.lost) (any_mirror (traced up 32) E)

pub exact_mirror : (E : Encounter) (N : ℕ) → exact_terms (mirrored E) N ≡ exact_terms E N
unfolding exact_terms either_lost
exact_mirror E N = λ i. least (λ n. lost_mirror false E n i || lost_mirror true E n i) N
