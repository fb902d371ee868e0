-- Both ends of an accepted read are divided by every whole number above 0, and the quotients enclose what the ends enclose, divided.
use mathlib.Core.Path.{◌≡◌}
use mathlib.Core.Bool.{Bool, true, false}
use Prim.Native.Nat.{ℕ, ◌<◌}
use native.Mathlib.Omega.{arith}
use lib.Dec.{lit<, lit≤}
use Rattle.exact.specs.declared.Scaled.{Scaled}
use Rattle.exact.specs.Fraction.{Frac, ◌÷◌}
use Rattle.exact.specs.Scaled.{value, OnSide}
use Rattle.exact.specs.Refusals.{refuses_10}
use Rattle.exact.proofs.Fractions.{≼_trans, div_mono}
use Rattle.exact.proofs.Ranges.{widen}
use Rattle.exact.proofs.Rounding.{round_is}
use Rattle.encounter.specs.declared.state.Session.{Session}
use Rattle.encounter.specs.Session.{conjunction_of}
use Rattle.encounter.specs.Calls.{reads, call}
use Rattle.encounter.specs.Enclosure.{Encloses}
use Rattle.encounter.specs.Claims.{Readable}
use Rattle.encounter.specs.Private.Held.{Begun}
use Rattle.encounter.proofs.calls.AcceptedReads.{read_of}
use Rattle.encounter.proofs.calls.Invariant.{begun, encloses}
use Rattle.encounter.proofs.calls.ReadNumbers.{lower_end_fine, upper_end_fine}
use Rattle.division.specs.Division.{divided, quotient_in}
use Rattle.division.specs.Claims.{DividesEnds}
use Rattle.division.proofs.Refusing.{in_range_passes}

-- a quotient that is not refused is on its side of what the number is on that side of, divided
divided_side : (up : Bool) (x : Scaled) (k : ℕ) (q : Frac) → refuses_10 x k ≡ false → OnSide up (value x) q → OnSide up (value (quotient_in (divided up x k))) (q ÷ k)
unfolding divided
divided_side false x k q h l = rw h (≼_trans (round_is false 32 (value x ÷ k) (lit< tt)).side (div_mono k l))
divided_side true x k q h l = rw h (≼_trans (div_mono k l) (round_is true 32 (value x ÷ k) (lit< tt)).side)

pub divides_ends : {s : Session} → Readable s → (k : ℕ) → 0 < k → DividesEnds s k
divides_ends {s} r k p = record {
  lower_passes = below;
  upper_passes = above;
  between = λ N K n c. let b = e.between N K n c in (divided_side false _ k _ below b.0, divided_side true _ k _ above b.1);
}
  where
    held : Begun s
    held = begun s r.reached (λ z. omega (arith, z, (read_of r).low))

    e : Encloses s.encounter s.N (call reads s).answer
    e = let f = read_of r in rw f.is (encloses (conjunction_of s) f.fine f.low f.passes)

    below : refuses_10 (call reads s).answer.lower k ≡ false
    below = in_range_passes k p (widen (lit≤ tt) (lower_end_fine s held e.lower_is))

    above : refuses_10 (call reads s).answer.upper k ≡ false
    above = in_range_passes k p (widen (lit≤ tt) (upper_end_fine s held e.upper_is))
