-- The letters and the terms of a side at order N.
use mathlib.Core.Path.{◌≡◌, ap}
use mathlib.Core.Bool.{Bool}
use Prim.Native.Nat.{ℕ, pred}
use Rattle.exact.specs.declared.Encounter.{Encounter}
use Rattle.exact.specs.Steps.{side_letters, side_terms}
use Rattle.encounter.specs.declared.state.Side.{Side}
use Rattle.encounter.specs.Session.{side}
use Rattle.encounter.specs.Private.Held.{step_letters, step_terms}

module _ (up : Bool) (E : Encounter) (N : ℕ) {x : Side} (e : x ≡ side up E N) where
  pub letters_of_side : step_letters x.letters ≡ side_letters up E
  unfolding side
  letters_of_side = ap (λ (x : Side). step_letters x.letters) e

  pub terms_of_side : step_terms x.terms ≡ side_terms up E (pred N)
  unfolding side
  terms_of_side = ap (λ (x : Side). step_terms x.terms) e
