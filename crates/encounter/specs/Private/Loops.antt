-- Scaled numbers as the loops hold them: in two machine words, and both sides together; whose numbers a round of the exponential holds; and where a decimal's
-- power is looked for. No line of the paper.
use Rattle.std.specs.Prelude.{◌≡◌, Bool, true, false, cond, ◌&&◌, ℕ, suc, ◌+◌, ◌*◌, ◌^◌, ◌≤◌, ◌<◌, ℤ, pos, ◌-ℤ◌}
use Rattle.std.specs.Float.Ieee.{size}
use Rattle.exact.specs.declared.Scaled.{Scaled}
use Rattle.exact.specs.Fraction.{Frac}
use Rattle.exact.specs.Scaled.{scaled, Normal, lost}
use Rattle.exact.specs.Private.Round.{inexact, pack, round}
use Rattle.exact.specs.declared.Encounter.{Encounter}
use Rattle.exact.specs.Refusals.{Accepted}
use Rattle.exact.specs.Arithmetic.{rounded}
use Rattle.exact.specs.Steps.{LettersOf, TermsOf, PowersOf, side_letters, side_powers}
use Rattle.encounter.specs.declared.arithmetic.rounding.Whole.{Whole}
use Rattle.encounter.specs.declared.arithmetic.wide.Wide.{Wide}
use Rattle.encounter.specs.declared.arithmetic.wide.Rounded.{Rounded}
use Rattle.encounter.specs.declared.arithmetic.wide.Reciprocal.{Reciprocal}
use Rattle.encounter.specs.declared.steps.sides.Pair.{Pair}
use Rattle.encounter.specs.declared.steps.numbers.LetterSet.{LetterSet}
use Rattle.encounter.specs.declared.steps.numbers.TermSet.{TermSet}
use Rattle.encounter.specs.declared.steps.sides.PowerPairs.{PowerPairs}

-- the same m and e
abbrev pub narrow : Wide → Scaled
narrow x = scaled x.m x.e

abbrev pub wide : Scaled → Wide
wide x = record { m = x.m; e = x.e }

-- h, or the whole number above it where a rest is left and the direction is up
unfoldable pub whole_part : Bool → ℕ → Bool → ℕ
whole_part up h s = h + cond (up && s) 1 0

-- w is the whole part of h and a rest, in the direction, and whether a rest is left, which s says
abbrev pub IsWhole : Bool → ℕ → Bool → Whole → Type 0
IsWhole up h s w = (w.part ≡ whole_part up h s) × (w.rest ≡ s)

-- r is the rounding of h × 2^e and a rest below 2^e, whatever the h and the rest of which w is the whole part, and says whether it lost anything
abbrev pub Fitted : Bool → Whole → ℤ → Rounded → Type 0
Fitted up w e r = (h : ℕ) (s : Bool) → 2 ^ 31 ≤ h → IsWhole up h s w → (narrow r.number ≡ pack up 32 h e s) × (r.lost ≡ inexact 32 h s)

-- r is the rounding of q, and says whether it lost anything
abbrev pub Rounds : Bool → Frac → Rounded → Type 0
Rounds up q r = (narrow r.number ≡ round up 32 q) × (r.lost ≡ lost up 32 q)

-- high + low / 2^32 is 2^(31 + bits) / k, rounded up to 32 bits below the point; k has that many bits
pub record IsReciprocal (r : Reciprocal) : Type 0 where
  pub some : 0 < r.k
  pub small : r.k ≤ 2 ^ 25
  pub bits_are : r.bits ≡ size r.k
  pub low_fits : r.low ≤ 2 ^ 32
  pub above : 2 ^ 63 * 2 ^ r.bits ≤ (r.high * 2 ^ 32 + r.low) * r.k
  pub near : (r.high * 2 ^ 32 + r.low) * r.k < 2 ^ 63 * 2 ^ r.bits + r.k

-- x lies in the binade from 2^-(s+1) to below 2^-s: its mantissa has 32 bits and its exponent is −(s + 32). The table of powers of ten is for s up to 142
pub record InBinade (s : ℕ) (x : Scaled) : Type 0 where
  pub bits : Normal 32 x
  pub exponent : x.e ≡ pos 0 -ℤ pos (s + 32)
  pub deepest : s ≤ 142

-- one side of a pair: the lower side's where up is false
abbrev pub side_of : Bool → Pair → Scaled
side_of false b = narrow b.lower
side_of true b = narrow b.upper

abbrev pub letters_of : Bool → LetterSet Pair → LettersOf Scaled
letters_of up l = record { u = side_of up l.u; h = side_of up l.h; X = side_of up l.X; Y = side_of up l.Y; t = side_of up l.t }

abbrev pub terms_of : Bool → TermSet Pair → TermsOf Scaled
terms_of up s = record { c = side_of up s.c; p = side_of up s.p; v = side_of up s.v; y = side_of up s.y; sum = side_of up s.sum }

abbrev pub powers_of : Bool → PowerPairs → PowersOf Scaled
powers_of up w = record { r = side_of up w.r; sum = side_of up w.sum }

-- r(k+1) of a side, from its r(k) and t
abbrev pub next_r : Bool → ℕ → Scaled → Scaled → Scaled
next_r up k r t = (rounded up 32).quotient ((rounded up 32).product r t) (suc k)

-- E is accepted, and on both sides t is E's t and w is E's r(k) with the sum of r(0) to r(k)
pub record PowersAt (E : Encounter) (k : ℕ) (t : Pair) (w : PowerPairs) : Type 0 where
  pub fine : Accepted E
  pub t_is : (up : Bool) → side_of up t ≡ (side_letters up E).t
  pub powers_are : (up : Bool) → powers_of up w ≡ side_powers up E k
