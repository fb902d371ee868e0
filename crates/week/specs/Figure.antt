-- Request #111 of document 02: "the held brackets' exact quotients, whichever later cuts are taken, have their greatest at or above the week's lower end and their sum
-- at or below its upper end."
use Rattle.std.specs.Prelude.{◌≡◌, ℕ, ◌≤◌}
use mathlib.Core.List.{List, [], ◌∷◌, map, flatten, Memᴰ}
use Rattle.exact.specs.Fraction.{Frac, ◌≼◌, ◌⊕◌, whole}
use Rattle.exact.specs.Numbers.{exponential_cut}
use Rattle.exact.specs.Scaled.{value}
use Rattle.exact.specs.Series.{quotient}
use Rattle.encounter.specs.Enclosure.{Every}
use Rattle.week.specs.Week.{Week, held, week_ends}
use Rattle.week.specs.Told.{Read, Told, place_of, week_with}

-- qs are exact quotients of the reads, one for each: at a pair of later cuts, chosen for each on its own (the series at the read's order or more, the exponential at 256
-- or more)
pub data Quotients : List Read → List Frac → Type 0 where
  none : Quotients [] []
  more : {r : Read} {rs : List Read} {qs : List Frac} → (N' K : ℕ) → r.order ≤ N' → exponential_cut ≤ K → Quotients rs qs → Quotients (r ∷ rs) (quotient r.encounter N' K ∷ qs)

-- x is the greatest of the list, where worth gives the value of each: it is one of them (`List.Memᴰ`, the library's), and none is above it
pub record IsGreatest {A : Type 0} (worth : A → Frac) (l : List A) (x : A) : Type 0 where
  pub one_of_them : Memᴰ x l
  pub none_above : Every (λ y. worth y ≼ worth x) l

-- the sum of fractions
unfoldable pub total : List Frac → Frac
total [] = whole 0
total (q ∷ qs) = q ⊕ total qs

-- quotients against the week's ends. With Boole's inequality, which is not proved here, the chance of at least one collision lies between
pub record LiesBetween (w : Week) (qs : List Frac) : Type 0 where
  -- "Where any is held": their greatest is at or above the week's lower end
  pub greatest : (qs ≡ [] → ⊥) → (q : Frac) × IsGreatest (λ p. p) qs q × (value (week_ends w).lower ≼ q)
  -- their sum is at or below its upper end
  pub sum : total qs ≼ value (week_ends w).upper

-- of a week w whose entries tell t
pub record OneFigure (w : Week) (t : Told) : Type 0 where
  -- what it holds: day by day the ends of the reads that were entered, in their order
  pub holds : w ≡ week_with t
  -- so the brackets held, in day and place order, are those of the reads told
  pub held_are : held w ≡ map place_of (flatten t)
  pub between : (qs : List Frac) → Quotients (flatten t) qs → LiesBetween w qs
