-- Every end of a read is a double where the host is answered it: no end is too small (SmallestEnd.antt of crate exact), no lower end too large (LargestEnd.antt there), and
-- an upper end below 1 is not large.
use mathlib.Core.Path.{◌≡◌, refl, sym, subst}
use mathlib.Core.Bool.{Bool, true, false}
use mathlib.Core.Logic.{⊎_elim, inl, inr}
use Prim.Native.Nat.{ℕ, suc, ◌+◌, ◌*◌, ◌^◌, ◌≤◌, ◌<◌}
use native.Mathlib.Nat.{mul-le-mul, mul-le-mul_right, le_trans, le_of_lt, le_of_eq, pow-suc}
use native.Mathlib.Omega.{arith}
use lib.Dec.{lit<, lit≤}
use lib.Pow.{pow-add, pow_pos, pow_mono}
use lib.IntN.{ℤ, pos, negsuc}
use Rattle.exact.specs.declared.Encounter.{Encounter}
use Rattle.exact.specs.declared.Scaled.{Scaled}
use Rattle.exact.specs.Integer.{pos_part, neg_part}
use Rattle.exact.specs.Fraction.{Frac, ◌≼◌, ◌⊗◌, whole, at_most, above}
use Rattle.exact.specs.Scaled.{scaled, value, IsScaled}
use Rattle.exact.specs.Steps.{lower_end, upper_end}
use Rattle.exact.specs.Private.Ranges.{InRange}
use Rattle.exact.specs.Private.Round.{round}
use Rattle.exact.proofs.Fractions.{≼_of_≺, ≼_trans, lt_or_le, whole_mono}
use Rattle.exact.proofs.Order.{above_holds}
use Rattle.exact.proofs.Ranges.{nought_range}
use Rattle.exact.proofs.Rounding.{round_is}
use Rattle.exact.proofs.SmallestEnd.{lower_end_least, upper_end_least}
use Rattle.exact.proofs.LargestEnd.{most_bits, lower_end_most}
use Rattle.encounter.specs.declared.state.Session.{Session}
use Rattle.encounter.specs.Session.{bracket, conjunction_of}
use Rattle.encounter.specs.Calls.{reads, call, Reached}
use Rattle.encounter.proofs.calls.AcceptedReads.{ReadOf}
use Rattle.host.specs.Private.Fitting.{double_range, EndsFit}
use Rattle.host.proofs.ReadCases.{by_read}

-- ---- the exponent of a number from 8 × 10^-43 to 2^778

exponent_le : (i k : ℕ) → 2 ^ i ≤ 2 ^ k → i ≤ k
exponent_le i k h =
    ⊎_elim (λ b. let f : ⊥ = omega (arith, pow_pos k, pow-suc 2 k, pow_mono {i = suc k} {j = i} b) in absurd f) (λ b. b) (lt_or_le k i)

-- w is 10^43
from_below : (w k m n : ℕ) → w ≤ 2 ^ k → m < 2 ^ 32 → 8 * (2 ^ n * 1) ≤ m * 1 * w * 1 → n ≤ 32 + k
from_below w k m n b h l = exponent_le n (32 + k) (le_trans some (le_trans (mul-le-mul (le_of_lt h) b) (le_of_eq (sym (pow-add 2 32 k)))))
  where
    some : 2 ^ n ≤ m * w
    some = omega (arith, l)

not_small : (m : ℕ) (e : ℤ) → m < 2 ^ 32 → whole 8 ≼ value (scaled m e) ⊗ whole (10 ^ 43) → neg_part e ≤ double_range
unfolding ◌⊗◌ whole value
not_small m (pos n) h l = omega arith
not_small m (negsuc n) h l = le_trans (from_below (10 ^ 43) 143 m (suc n) (lit≤ tt) h l.le) (lit≤ tt)

from_above : (k m n : ℕ) → 0 < m → m * 2 ^ n * 1 ≤ 2 ^ k * 1 → n ≤ k
from_above k m n h l = exponent_le n k (omega (arith, l, mul-le-mul_right (2 ^ n) h))

not_large : (m : ℕ) (e : ℤ) → 0 < m → value (scaled m e) ≼ whole (2 ^ most_bits) → pos_part e ≤ double_range
unfolding whole value
not_large m (pos n) h l = le_trans (from_above most_bits m n h l.le) (lit≤ tt)
not_large m (negsuc n) h l = omega arith

in_range : (x : Scaled) → IsScaled 32 x → whole 8 ≼ value x ⊗ whole (10 ^ 43) → value x ≼ whole (2 ^ most_bits) → InRange 32 double_range x
in_range x (inl z) l h = subst (λ (x : Scaled). InRange 32 double_range x) (sym z) (nought_range 32 double_range)
in_range x (inr n) l h = record {
  is_scaled = inr n;
  above = not_large x.m x.e (omega (arith, n.low)) h;
  below = not_small x.m x.e n.high l;
}

-- ---- the ends of a read

rounded : (up : Bool) (q : Frac) → IsScaled 32 (round up 32 q)
rounded up q = (round_is up 32 q (lit< tt)).is_scaled

lower_form : (E : Encounter) (N : ℕ) → IsScaled 32 (lower_end E N)
unfolding lower_end
lower_form E N = rounded false _

upper_form : (E : Encounter) (N : ℕ) → IsScaled 32 (upper_end E N)
unfolding upper_end
upper_form E N = rounded true _

below_1 : (p : Frac) → at_most (whole 1) p ≡ false → p ≼ whole (2 ^ most_bits)
below_1 p h = ≼_trans (≼_of_≺ (above_holds (whole 1) p (unfold above in rw h))) (whole_mono (pow_pos most_bits))

of_bracket : {s : Session} → ReadOf s → EndsFit (bracket (conjunction_of s) s.N).lower (bracket (conjunction_of s) s.N).upper
unfolding bracket
of_bracket {s} f =
    let E = s.encounter in
    let N = s.N in
    record {
      lower_fits = in_range (lower_end E N) (lower_form E N) (lower_end_least f.fine N) (lower_end_most f.fine N f.low f.passes);
      upper_form = upper_form E N;
      upper_fits = λ h. in_range (upper_end E N) (upper_form E N) (upper_end_least f.fine N f.low f.passes) (below_1 _ h);
    }

pub ends_fit : {s : Session} → Reached s → EndsFit (call reads s).answer.lower (call reads s).answer.upper
ends_fit r =
    by_read (λ a. EndsFit a.lower a.upper) r of_bracket
    (λ _. record { lower_fits = nought_range 32 double_range; upper_form = inl refl; upper_fits = λ _. nought_range 32 double_range })
