-- Request #107 of document 02: the steps of document 01 with each division by a whole number put to test 10.
use Rattle.std.specs.Prelude.{Bool, true, false, ◌||◌, ℕ}
use Rattle.exact.specs.declared.Encounter.{Encounter}
use Rattle.exact.specs.declared.Scaled.{Scaled}
use Rattle.exact.specs.Scaled.{one}
use Rattle.exact.specs.Arithmetic.{Arithmetic, rounded}
use Rattle.exact.specs.Steps.{LettersOf, TermsOf, PowersOf, letters, start, terms, bound, tail_term, powers}
use Rattle.exact.specs.Refusals.{refuses_10}

-- a number, and whether test 10 refuses a division on its way
pub record Tested : Type 0 where
  pub number : Scaled
  pub refused : Bool

-- a side's arithmetic, so: the steps are written over an arithmetic (exact/specs/Steps.antt), and divide by a whole number by its `quotient` and, by 2, its `half` alone
unfoldable pub tested : Bool → Arithmetic Tested
tested up = record {
  fraction = λ q. record { number = (rounded up 32).fraction q; refused = false };
  sum = λ x y. record { number = (rounded up 32).sum x.number y.number; refused = x.refused || y.refused };
  product = λ x y. record { number = (rounded up 32).product x.number y.number; refused = x.refused || y.refused };
  quotient = λ x k. record { number = (rounded up 32).quotient x.number k; refused = x.refused || refuses_10 x.number k };
  half = λ x. record { number = (rounded up 32).half x.number; refused = x.refused || refuses_10 x.number 2 };
}

-- no division on x's way is refused
abbrev pub passed : Scaled → Tested
passed x = record { number = x; refused = false }

abbrev pub passed_terms : TermsOf Scaled → TermsOf Tested
passed_terms s = record { c = passed s.c; p = passed s.p; v = passed s.v; y = passed s.y; sum = passed s.sum }

abbrev pub passed_powers : PowersOf Scaled → PowersOf Tested
passed_powers w = record { r = passed w.r; sum = passed w.sum }

module _ (up : Bool) (E : Encounter) where
  unfoldable pub tested_letters : LettersOf Tested
  tested_letters = letters (tested up) E

  -- c(n+1) by (n+1)(n+2), with D(h × v(n)) by 2; p(n), v(n) and y(n) by n+1
  unfoldable pub tested_terms : ℕ → TermsOf Tested
  tested_terms n = terms (tested up) tested_letters (start (tested up) E) n

  -- r(k) by k
  unfoldable pub tested_powers : ℕ → PowersOf Tested
  tested_powers k = powers (tested up) (passed one) tested_letters.t k

-- d(n) by n+1; h, in M, by 2
unfoldable pub tested_d : Encounter → ℕ → Tested
tested_d E n = tail_term (tested true) (start (tested true) E) (bound (tested true) (tested_letters true E)) n
