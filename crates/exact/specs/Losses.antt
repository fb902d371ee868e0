-- Request #105 of document 02, 'How many terms were exact'. Only the ways of terms are asked for: t, the sums, M, d, the exponential, the ends and the decimals are on
-- no term's way.
use Rattle.std.specs.Prelude.{Bool, true, false, not, ◌||◌, ℕ, pred}
use Rattle.exact.specs.declared.Encounter.{Encounter}
use Rattle.exact.specs.declared.Scaled.{Scaled}
use Rattle.exact.specs.declared.Traced.{Traced}
use Rattle.exact.specs.Least.{least}
use Rattle.exact.specs.Arithmetic.{traced}
use Rattle.exact.specs.Steps.{LettersOf, TermsOf, letters, start, terms}

-- a side's numbers, each with whether something was lost on its way: "A term's way is every rounding that its number is formed through by the steps"
module _ (up : Bool) (E : Encounter) where
  unfoldable pub traced_letters : LettersOf Traced
  traced_letters = letters (traced up 32) E

  unfoldable pub traced_terms : ℕ → TermsOf Traced
  traced_terms n = terms (traced up 32) traced_letters (start (traced up 32) E) n

  -- whether something was lost on the way of c(n)
  unfoldable pub term_lost : ℕ → Bool
  term_lost n = (traced_terms n).c.lost

-- the numbers, without their losses: they are the side's (claim `traced_numbers`, encounter/specs/Claims.antt)
abbrev pub letter_numbers : LettersOf Traced → LettersOf Scaled
letter_numbers l = record { u = l.u.number; h = l.h.number; X = l.X.number; Y = l.Y.number; t = l.t.number }

abbrev pub term_numbers : TermsOf Traced → TermsOf Scaled
term_numbers s = record { c = s.c.number; p = s.p.number; v = s.v.number; y = s.y.number; sum = s.sum.number }

-- whether something was lost on the way of any number that the next term is formed of, where the letters are l and the terms of the last index are s
unfoldable pub operand_lost : LettersOf Traced → TermsOf Traced → Bool
operand_lost l s = l.h.lost || l.X.lost || l.Y.lost || s.p.lost || s.v.lost || s.y.lost || s.c.lost

module _ (E : Encounter) where
  -- "on either side"
  unfoldable pub either_lost : ℕ → Bool
  either_lost n = term_lost false E n || term_lost true E n

  -- "the count of leading terms, of the N summed, on whose way, on either side, nothing was lost": the least index of a term that is not such, or N
  unfoldable pub exact_terms : ℕ → ℕ
  exact_terms N = least either_lost N

  -- whether nothing was lost, on either side, on the way to what c(N) is formed of, for N ≥ 1. Where something was, it is on the way of every later term too
  unfoldable pub lossless : ℕ → Bool
  lossless N =
      not (operand_lost (traced_letters false E) (traced_terms false E (pred N)) || operand_lost (traced_letters true E) (traced_terms true E (pred N)))
