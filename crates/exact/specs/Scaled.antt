-- Document 01, 'Scaled numbers', over the number of significant bits, which is 32 in the paper, and the direction: up is false for D, true for U.
use Rattle.std.specs.Prelude.{◌≡◌, Bool, true, false, not, cond, ◌⊎◌, ℕ, ◌*◌, ◌^◌, ◌≤◌, ◌<◌, eqb, ℤ, pos, negsuc, ◌+ℤ◌, ◌-ℤ◌}
use Rattle.std.proofs.Common.{pow_pos}
use Rattle.exact.specs.declared.Scaled.{Scaled}
use Rattle.exact.specs.Integer.{pos_part, neg_part}
use Rattle.exact.specs.Fraction.{Frac, ◌≼◌}
use Rattle.exact.specs.Private.Round.{round}

abbrev pub scaled : ℕ → ℤ → Scaled
scaled m e = record { m = m; e = e }

-- "A scaled number is m × 2^e."
unfoldable pub value : Scaled → Frac
value x = record { num = x.m * 2 ^ pos_part x.e; den = 2 ^ neg_part x.e; pos = pow_pos (neg_part x.e) }

-- "The unsigned m is at least 2^31 and below 2^32", written without a subtraction: 2m is at least 2^32.
pub record Normal (bits : ℕ) (x : Scaled) : Type 0 where
  pub low : 2 ^ bits ≤ 2 * x.m
  pub high : x.m < 2 ^ bits

-- "Zero, one and a whole number are scaled numbers too, where they fit."
abbrev pub nought : Scaled
nought = scaled 0 (pos 0)

abbrev pub one : Scaled
one = scaled (2 ^ 31) (negsuc 30)

-- "Zero has m = 0 and e = 0 and no other form."
abbrev pub IsScaled : ℕ → Scaled → Type 0
IsScaled bits x = (x ≡ nought) ⊎ Normal bits x

-- p is not above q (down), not below q (up)
abbrev pub OnSide : Bool → Frac → Frac → Type 0
OnSide false p q = p ≼ q
OnSide true p q = q ≼ p

-- "D(q) is the greatest scaled number not above the exact nonnegative fraction q. U(q) is the least one not below it. In these two definitions e has no range".
pub record IsRound (up : Bool) (bits : ℕ) (q : Frac) (x : Scaled) : Type 0 where
  pub is_scaled : IsScaled bits x
  pub side : OnSide up (value x) q
  pub best : (y : Scaled) → IsScaled bits y → OnSide up (value y) q → OnSide up (value y) (value x)

-- `round` computes the one x with IsRound up bits q x (claim `rounding`, encounter/specs/Claims.antt)
abbrev pub D : Frac → Scaled
D q = round false 32 q

abbrev pub U : Frac → Scaled
U q = round true 32 q

-- request #105: whether the rounding of q loses anything, so that its value is not q
unfoldable pub lost : Bool → ℕ → Frac → Bool
lost up bits q = not (eqb ((value (round up bits q)).num * q.den) (q.num * (value (round up bits q)).den))

-- "Halving and doubling are exact": zero stays, else e moves by one.
unfoldable pub with_exponent : Scaled → ℤ → Scaled
with_exponent x e = cond (eqb x.m 0) nought (scaled x.m e)

abbrev pub half : Scaled → Scaled
half x = with_exponent x (x.e -ℤ pos 1)

abbrev pub double : Scaled → Scaled
double x = with_exponent x (x.e +ℤ pos 1)
