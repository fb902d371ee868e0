-- Numbers with no losses. No line of the paper.
use Rattle.std.specs.Prelude.{false}
use Rattle.exact.specs.declared.Scaled.{Scaled}
use Rattle.exact.specs.declared.Traced.{Traced}
use Rattle.exact.specs.Steps.{LettersOf, TermsOf}

-- nothing was lost on x's way
abbrev pub clean : Scaled → Traced
clean x = record { number = x; lost = false }

abbrev pub clean_letters : LettersOf Scaled → LettersOf Traced
clean_letters l = record { u = clean l.u; h = clean l.h; X = clean l.X; Y = clean l.Y; t = clean l.t }

abbrev pub clean_terms : TermsOf Scaled → TermsOf Traced
clean_terms s = record { c = clean s.c; p = clean s.p; v = clean s.v; y = clean s.y; sum = clean s.sum }
