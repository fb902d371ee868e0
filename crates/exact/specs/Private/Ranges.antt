-- Premises of the private arithmetic, no line of the paper: bounds on an encounter's inputs, and how far the exponents of a side's letters and terms go; and how
-- far those of its powers go, which only laws name. proofs/Accepted.antt, proofs/Growth.antt and proofs/Exponents.antt prove them.
use Rattle.std.specs.Prelude.{ℕ, ◌+◌, ◌*◌, ◌≤◌, ◌<◌, cond, nat_abs}
use Rattle.exact.specs.declared.Encounter.{Encounter}
use Rattle.exact.specs.declared.Scaled.{Scaled}
use Rattle.exact.specs.Integer.{pos_part, neg_part}
use Rattle.exact.specs.Numbers.{largest_length, largest_order}
use Rattle.exact.specs.Scaled.{IsScaled}
use Rattle.exact.specs.Steps.{LettersOf, TermsOf, PowersOf}
use Rattle.exact.specs.Refusals.{refuses_3, refuses_4, refuses_5, refuses_6}

-- the tests 3 to 6, and what follows where none of them refuses
unfoldable pub tests_3_to_6 : Encounter → ℕ → ℕ
tests_3_to_6 E rest = cond (refuses_3 E) 3 (cond (refuses_4 E) 4 (cond (refuses_5 E) 5 (cond (refuses_6 E) 6 rest)))

-- what the tests 3 to 6 leave
pub record Bounds (E : Encounter) : Type 0 where
  pub R_pos : 0 < E.R
  pub R_max : E.R ≤ largest_length
  pub sx_pos : 0 < E.sx
  pub sx_max : E.sx ≤ largest_length
  pub sy_pos : 0 < E.sy
  pub sy_max : E.sy ≤ largest_length
  pub ordered : E.sy ≤ E.sx
  pub xm_max : nat_abs E.xm ≤ largest_length
  pub ym_max : nat_abs E.ym ≤ largest_length

-- a scaled number with e from -B to B
pub record InRange (bits B : ℕ) (x : Scaled) : Type 0 where
  pub is_scaled : IsScaled bits x
  pub above : pos_part x.e ≤ B
  pub below : neg_part x.e ≤ B

-- how far the exponents of terms, sums, d and r go: at index n to 700n + 400 (proofs/Growth.antt), and no index is above the largest order
abbrev pub largest_exponent : ℕ
largest_exponent = 700 * largest_order + 400

-- letters, terms and powers, of any arithmetic, whose numbers have P: P B x is a property of x that holds for every larger B too
module _ {S : Type 0} (P : ℕ → S → Type 0) where
  pub record LettersAll (l : LettersOf S) : Type 0 where
    pub u : P 177 l.u
    pub h : P 387 l.h
    pub X : P 387 l.X
    pub Y : P 387 l.Y
    pub t : P 387 l.t

  pub record TermsAll (B : ℕ) (s : TermsOf S) : Type 0 where
    pub c : P B s.c
    pub p : P B s.p
    pub v : P B s.v
    pub y : P B s.y
    pub sum : P B s.sum

  pub record PowersAll (B : ℕ) (w : PowersOf S) : Type 0 where
    pub r : P B w.r
    pub sum : P B w.sum

-- of a side's numbers: how far their exponents go
abbrev pub LettersIn : LettersOf Scaled → Type 0
LettersIn l = LettersAll (InRange 32) l

abbrev pub TermsIn : ℕ → TermsOf Scaled → Type 0
TermsIn B s = TermsAll (InRange 32) B s

abbrev pub PowersIn : ℕ → PowersOf Scaled → Type 0
PowersIn B w = PowersAll (InRange 32) B w
