-- Document 01, 'The exact series': the letters of an encounter, F(k), a(n), c(n), the series and the exponential, and where they are cut. In document 001,
-- section III, F(k) is φ_k R^(2k+2) of equation (24), a(n) the recurrence (25), c(n) the terms of (23) and (27). Its factors exp(−zx−zy) and exp(−u) are one
-- division by the exponential of t = zx + zy + u. docs/READING.md has the letters side by side.
use Rattle.std.specs.Prelude.{List, [], ◌∷◌, ℕ, zero, suc, ◌-◌, ◌*◌, ℤ, nat_abs, neg_ℤ}
use Rattle.exact.specs.declared.Encounter.{Encounter}
use Rattle.exact.specs.Fraction.{Frac, whole, ◌over◌, ◌⊕◌, ◌⊗◌, ◌÷◌, ◌⊘◌, ◌↑◌, sum}

-- xm², ym²
unfoldable pub square : ℤ → ℕ
square z = nat_abs z * nat_abs z

-- the encounter with the miss xm on the other side
abbrev pub mirrored : Encounter → Encounter
mirrored E = record { R = E.R; sx = E.sx; sy = E.sy; xm = neg_ℤ E.xm; ym = E.ym }

-- n!
unfoldable pub factorial : ℕ → ℕ
factorial zero = 1
factorial (suc n) = suc n * factorial n

-- w(0)x + w(1)y + .. over a list x, y, ..
unfoldable pub dot : (ℕ → Frac) → List Frac → Frac
dot w [] = whole 0
dot w (x ∷ l) = w 0 ⊗ x ⊕ dot (λ k. w (suc k)) l

-- the first of a list
abbrev pub head : List Frac → Frac
head [] = whole 0
head (x ∷ l) = x

-- t^k/k!
unfoldable pub exponential_term : Frac → ℕ → Frac
exponential_term t k = t ↑ k ÷ factorial k

module _ (E : Encounter) where
  -- u = R²/(2sy²)
  unfoldable pub u : Frac
  u = (E.R * E.R) over (2 * (E.sy * E.sy))

  -- b = R²/(2sx²)
  unfoldable pub b : Frac
  b = (E.R * E.R) over (2 * (E.sx * E.sx))

  -- zx = xm²/(2sx²)
  unfoldable pub zx : Frac
  zx = square E.xm over (2 * (E.sx * E.sx))

  -- zy = ym²/(2sy²)
  unfoldable pub zy : Frac
  zy = square E.ym over (2 * (E.sy * E.sy))

  -- g = (sx² − sy²)/sx². A difference of naturals stops at 0; where sy ≤ sx, as for every accepted encounter, it is the integer sx² − sy² (claim `g_sign`, encounter/specs/Claims.antt).
  unfoldable pub g : Frac
  g = (E.sx * E.sx - E.sy * E.sy) over (E.sx * E.sx)

  -- h = u × g
  unfoldable pub h : Frac
  h = u ⊗ g

  -- X = zx × b
  unfoldable pub X : Frac
  X = zx ⊗ b

  -- Y = zy × u
  unfoldable pub Y : Frac
  Y = zy ⊗ u

  -- t = zx + zy + u
  unfoldable pub t : Frac
  t = zx ⊕ zy ⊕ u

  -- u^(k+1) + h^(k+1)/2 + X(k+1)h^k
  unfoldable pub F_without_Y : ℕ → Frac
  F_without_Y k = u ↑ suc k ⊕ h ↑ suc k ÷ 2 ⊕ X ⊗ whole (suc k) ⊗ h ↑ k

  -- "For k from 0, F(k) = u^(k+1) + h^(k+1)/2 + X(k+1)h^k, and F(0) has Y added (h^0 is 1 even where h is 0)."
  unfoldable pub F : ℕ → Frac
  F zero = F_without_Y 0 ⊕ Y
  F (suc k) = F_without_Y (suc k)

  -- a(0) = R²/(2 sx sy)
  unfoldable pub a₀ : Frac
  a₀ = (E.R * E.R) over (2 * (E.sx * E.sy))

  -- the list a(n), .., a(0): "a(n+1) = (F(0)a(n) + .. + F(n)a(0))/(n+1)"; with a(n−k) by its index this is claim `recurrence` there
  unfoldable pub upto : ℕ → List Frac
  upto zero = a₀ ∷ []
  upto (suc n) = dot F (upto n) ÷ suc n ∷ upto n

  unfoldable pub a : ℕ → Frac
  a n = head (upto n)

  -- "Term c(n) = a(n)/(n+1)!."
  unfoldable pub c : ℕ → Frac
  c n = a n ÷ factorial (suc n)

  -- "The series cut at N has terms c(0) to c(N−1)."
  unfoldable pub series : ℕ → Frac
  series N = sum c N

  -- "The exponential cut at K has terms t^k/k! for k from 0 to K−1."
  unfoldable pub exponential : ℕ → Frac
  exponential K = sum (exponential_term t) K

  -- "The probability is the limit of the first over the second": what is enclosed is every such quotient, at later and later cuts.
  unfoldable pub quotient : ℕ → ℕ → Frac
  quotient N K = series N ⊘ exponential K
