-- What both sides' operations are on each side.
use mathlib.Core.Path.{◌≡◌, ap}
use mathlib.Core.Bool.{Bool, true, false}
use Prim.Native.Nat.{ℕ}
use Rattle.exact.specs.declared.Scaled.{Scaled}
use Rattle.exact.specs.Arithmetic.{rounded}
use Rattle.exact.specs.Private.Ranges.{largest_exponent, LettersAll, TermsAll, LettersIn, TermsIn}
use Rattle.exact.specs.Steps.{TermsOf, next_c, next_p, next_v, next_y, next}
use Rattle.encounter.specs.declared.steps.numbers.LetterSet.{LetterSet}
use Rattle.encounter.specs.declared.steps.numbers.TermSet.{TermSet}
use Rattle.encounter.specs.declared.steps.sides.Pair.{Pair}
use Rattle.encounter.specs.Private.Held.{set_letters, set_terms}
use Rattle.encounter.specs.Private.Loops.{side_of, letters_of, terms_of}
use Rattle.encounter.specs.Private.Operations.{both, PairIn}

pub product_side : (up : Bool) (a b : Pair) {r : Pair} → r ≡ both.product a b → side_of up r ≡ (rounded up 32).product (side_of up a) (side_of up b)
unfolding both
product_side false a b e = ap (side_of false) e
product_side true a b e = ap (side_of true) e

pub sum_side : (up : Bool) (a b : Pair) {r : Pair} → r ≡ both.sum a b → side_of up r ≡ (rounded up 32).sum (side_of up a) (side_of up b)
unfolding both
sum_side false a b e = ap (side_of false) e
sum_side true a b e = ap (side_of true) e

pub quotient_side : (up : Bool) (a : Pair) (k : ℕ) {r : Pair} → r ≡ both.quotient a k → side_of up r ≡ (rounded up 32).quotient (side_of up a) k
unfolding both
quotient_side false a k e = ap (side_of false) e
quotient_side true a k e = ap (side_of true) e

-- ---- a term more

pub letters_both : {l : LetterSet Pair} → ((up : Bool) → LettersIn (letters_of up l)) → LettersAll PairIn (set_letters l)
letters_both i = record { u = λ up. (i up).u; h = λ up. (i up).h; X = λ up. (i up).X; Y = λ up. (i up).Y; t = λ up. (i up).t }

pub terms_both : {s : TermSet Pair} → ((up : Bool) → TermsIn largest_exponent (terms_of up s)) → TermsAll PairIn largest_exponent (set_terms s)
terms_both i = record { c = λ up. (i up).c; p = λ up. (i up).p; v = λ up. (i up).v; y = λ up. (i up).y; sum = λ up. (i up).sum }

-- one side of both sides' terms
one_of : Bool → TermsOf Pair → TermsOf Scaled
one_of up s = record { c = side_of up s.c; p = side_of up s.p; v = side_of up s.v; y = side_of up s.y; sum = side_of up s.sum }

pub next_side : (l : LetterSet Pair) (n : ℕ) (s : TermSet Pair) {r : TermSet Pair} → set_terms r ≡ next both (set_letters l) n (set_terms s)
    → (up : Bool) → terms_of up r ≡ next (rounded up 32) (letters_of up l) n (terms_of up s)
unfolding both next next_c next_p next_v next_y one_of
next_side l n s e false = ap (one_of false) e
next_side l n s e true = ap (one_of true) e
