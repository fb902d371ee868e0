-- The ends of reads, gathered, against their exact quotients.
use Rattle.std.specs.Prelude.{fold}
use mathlib.Core.Bool.{Bool, true, false, cond}
use mathlib.Core.List.{List, [], ◌∷◌, map}
use Prim.Native.Nat.{ℕ, ◌≤◌}
use native.Mathlib.Omega.{arith}
use lib.Dec.{lit<}
use Rattle.exact.specs.declared.Scaled.{Scaled}
use Rattle.exact.specs.Fraction.{Frac, ◌≼◌, ◌⊕◌, whole, at_most}
use Rattle.exact.specs.Numbers.{exponential_cut}
use Rattle.exact.specs.Scaled.{nought, value, U}
use Rattle.exact.specs.Series.{quotient}
use Rattle.exact.specs.Steps.{lower_end, upper_end}
use Rattle.exact.proofs.Fractions.{≼_trans, ≼_of, ≽_of, add_mono, add_assoc, add_zero, zero_add, zero_least}
use Rattle.exact.proofs.Rounding.{round_is}
use Rattle.encounter.specs.Enclosure.{Every}
use Rattle.encounter.specs.Sums.{greater}
use Rattle.week.specs.Week.{greatest_of, added_up}
use Rattle.week.specs.Told.{Read}
use Rattle.week.specs.Figure.{Quotients, none, more, total}
use Rattle.week.proofs.Folding.{every_map}

-- both ends of a read enclose every later quotient
pub record Encloses (r : Read) : Type 0 where
  pub between :
      (N' K : ℕ) → r.order ≤ N' → exponential_cut ≤ K → (value (lower_end r.encounter r.order) ≼ quotient r.encounter N' K) × (quotient r.encounter N' K ≼ value (upper_end r.encounter r.order))

-- ---- the greatest

-- a bound of every quotient is one of every lower end
lower_below : (p : Frac) (rs : List Read) {qs : List Frac} → Every Encloses rs → Quotients rs qs → Every (λ q. q ≼ p) qs → Every (λ r. value (lower_end r.encounter r.order) ≼ p) rs
lower_below p [] f none e = tt
lower_below p (r ∷ rs) f (more N' K n k c) e = (≼_trans (f.0.between N' K n k).0 e.0, lower_below p rs f.1 c e.1)

-- a bound of every number is one of the greatest
greatest_below : (p : Frac) (x : Scaled) (l : List Scaled) → value x ≼ p → Every (λ y. value y ≼ p) l → value (fold greater x l) ≼ p
unfolding greater
greatest_below p x [] h e = h
greatest_below p x (y ∷ l) h e = greatest_below p (greater x y) l (go (at_most (value x) (value y))) e.1
  where
    go : (b : Bool) → value (cond b y x) ≼ p
    go true = e.0
    go false = h

pub nought_least : (p : Frac) → value nought ≼ p
unfolding value
nought_least p = ≼_trans (record { le = omega arith }) (zero_least p)

pub lower_is_below : (p : Frac) (rs : List Read) (qs : List Frac) → Every Encloses rs → Quotients rs qs → Every (λ q. q ≼ p) qs → value (greatest_of (map (λ r. lower_end r.encounter r.order) rs)) ≼ p
unfolding greatest_of
lower_is_below p rs qs f c e =
    let end : Read → Scaled = λ r. lower_end r.encounter r.order in
    greatest_below p nought (map end rs) (nought_least p) (every_map (λ y. value y ≼ p) end rs (lower_below p rs f c e))

-- ---- the sum

sum_above : (p : Frac) (x : Scaled) (rs : List Read) {qs : List Frac} → p ≼ value x → Every Encloses rs → Quotients rs qs → p ⊕ total qs ≼ value (fold (λ x y. U (value x ⊕ value y)) x (map (λ r. upper_end r.encounter r.order) rs))
unfolding total
sum_above p x [] h f none = ≼_trans (≼_of (add_zero p)) h
sum_above p x (r ∷ rs) h f (more {qs = qs} N' K n k c) =
    let q = quotient r.encounter N' K in
    let y = upper_end r.encounter r.order in
    ≼_trans (≽_of (add_assoc p q (total qs)))
    (sum_above (p ⊕ q) (U (value x ⊕ value y)) rs (≼_trans (add_mono h (f.0.between N' K n k).1) (round_is true 32 (value x ⊕ value y) (lit< tt)).side) f.1 c)

pub upper_is_above : (rs : List Read) (qs : List Frac) → Every Encloses rs → Quotients rs qs → total qs ≼ value (added_up (map (λ r. upper_end r.encounter r.order) rs))
unfolding added_up
upper_is_above rs qs f c = ≼_trans (≽_of (zero_add (total qs))) (sum_above (whole 0) nought rs (zero_least _) f c)
