-- The subtraction of two doubles that are not negative, the smaller from the larger: the double nearest to the exact difference.
use mathlib.Core.Path.{◌≡◌, refl, ap}
use mathlib.Core.Bool.{true, false, true≢false}
use Prim.Native.Nat.{ℕ, ◌+◌, ◌-◌, ◌*◌, ◌≤◌, ◌<◌}
use native.Mathlib.Nat.{mul_comm, mul-pos, le_of_mul-le-mul_right}
use native.Mathlib.Omega.{arith}
use borrow.Author.Tests.{le-ltb}
use lib.IntN.{ℤ}
use lib.Ieee.{Float, nan, inf, fin, binary64, up, down, neg, add, sum, sub}
use lib.Ieee.Fits.{down_pos}
use Rattle.exact.specs.Fraction.{Frac, ◌≼◌, ◌≈◌, ◌⊕◌}
use Rattle.exact.proofs.Fractions.{≼_trans, ≼_of, ≽_of, ≈_trans, ≈_sym, add_cong, ≈_refl}
use Rattle.host.specs.Doubles.{Worth}
use Rattle.host.specs.Plot.{Nearest}

frac : (n d : ℕ) → 0 < d → Frac
frac n d p = record { num = n; den = d; pos = p }

fills : (a b c : ℕ) (C : 0 < c) → b ≤ a → frac b c C ⊕ frac (a - b) c C ≈ frac a c C
unfolding ◌⊕◌ frac
fills a b c C h = record { eq = omega (arith, ap (λ (x : ℕ). x * (c * c)) (less h)) }
  where
    less : b ≤ a → b + (a - b) ≡ a
    less h = omega arith

numerators : (a b c : ℕ) (C : 0 < c) → frac b c C ≼ frac a c C → b ≤ a
unfolding frac
numerators a b c C h = le_of_mul-le-mul_right h.le C

-- m × 2^e as a fraction over c, which is k times down e
over_common : (m : ℕ) (e : ℤ) (k c : ℕ) (C : 0 < c) (p : Frac) → c ≡ down e * k → m * up e * p.den ≡ p.num * down e → p ≈ frac (m * up e * k) c C
unfolding frac
over_common m e k c C p is h = record { eq = rw is (omega (arith, ap (λ (x : ℕ). x * k) h)) }

pub nearest : (p q : Frac) (l u : Float) → Worth l p → Worth u q → p ≼ q → Nearest p q (sub binary64 u l)
nearest p q nan u L U h = absurd L
nearest p q (inf s) u L U h = absurd L
nearest p q (fin true n d) u L U h = absurd (true≢false L.0)
nearest p q (fin false n d) nan L U h = absurd U
nearest p q (fin false n d) (inf s) L U h = absurd U
nearest p q (fin false n d) (fin true m e) L U h = absurd (true≢false U.0)
nearest p q (fin false n d) (fin false m e) L U h = (
  frac (a - b) c C,
  ≈_trans (add_cong is_b (≈_refl _)) (≈_trans (fills a b c C b≤a) (≈_sym is_a)),
  unfold sub add neg sum frac in rw (le-ltb a b b≤a),
)
  where
    a : ℕ
    a = m * up e * down d

    b : ℕ
    b = n * up d * down e

    c : ℕ
    c = down e * down d

    C : 0 < c
    C = mul-pos (down_pos e) (down_pos d)

    is_a : q ≈ frac a c C
    is_a = over_common m e (down d) c C q refl U.1

    is_b : p ≈ frac b c C
    is_b = over_common n d (down e) c C p (mul_comm (down e) (down d)) L.1

    b≤a : b ≤ a
    b≤a = numerators a b c C (≼_trans (≽_of is_b) (≼_trans h (≼_of is_a)))
