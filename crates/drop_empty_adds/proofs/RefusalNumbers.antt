-- What holds of each number that a whole record may be refused as, 12 aside, and of 0, holds of what its tests give.
use mathlib.Core.Bool.{cond}
use Prim.Native.Nat.{ℕ}
use lib.Dec.{eqb}
use Rattle.exact.specs.declared.Encounter.{Encounter}
use Rattle.exact.specs.declared.Conjunction.{Conjunction}
use Rattle.exact.specs.Refusals.{refuses_3, refuses_4, refuses_5, refuses_6, refuses_7, refuses_9, refuses_11, refuses_22, refuses_23, begin_refusal, test_9, test_21, History, no_encounter, encounter_at}
use Rattle.listing.proofs.Lengths.{either}

module _ (P : ℕ → Type 0) where
  abbrev pub OfEach : Type 0
  OfEach = P 0 × P 3 × P 4 × P 5 × P 6 × P 7 × P 9 × P 11 × P 21 × P 22 × P 23

  module _ (each : OfEach) where
    pub of_begin : (E : Encounter) → P (begin_refusal E)
    unfolding begin_refusal
    of_begin E =
        either P (refuses_3 E) each.1
        (either P (refuses_4 E) each.2
        (either P (refuses_5 E) each.3
        (either P (refuses_6 E) each.4
        (either P (refuses_7 E) each.5
        (either P (refuses_11 E) each.7 each.0)))))

    pub of_conjunction : (C : Conjunction) → P (test_9 (begin_refusal C.encounter) C.object)
    unfolding test_9
    of_conjunction C = either P (eqb (begin_refusal C.encounter) 0) (either P (refuses_9 C.object) each.6 each.0) (of_begin C.encounter)

    -- past test 12
    pub of_add : (w : History) (count : ℕ) → P (test_21 w (λ E N. cond (refuses_22 N count) 22 0))
    of_add no_encounter count = each.8
    of_add (encounter_at C N) count = either P (refuses_22 N count) each.9 each.0

    pub of_read : (w : History) → P (test_21 w (λ E N. cond (refuses_23 E N) 23 0))
    of_read no_encounter = each.8
    of_read (encounter_at C N) = either P (refuses_23 C.encounter N) each.10 each.0
