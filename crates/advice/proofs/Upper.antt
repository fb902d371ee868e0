-- The upper M of an accepted encounter, and the session's field.
use mathlib.Core.Path.{◌≡◌, ap}
use Prim.Native.Nat.{◌<◌}
use native.Mathlib.Nat.{mul-pos}
use lib.Ieee.Positive.{first_pos}
use Rattle.exact.specs.declared.Encounter.{Encounter}
use Rattle.exact.specs.Fraction.{◌≼◌, ◌over◌}
use Rattle.exact.specs.Scaled.{value}
use Rattle.exact.specs.Series.{u}
use Rattle.exact.specs.Steps.{side_letters, M}
use Rattle.exact.specs.Refusals.{Accepted}
use Rattle.exact.proofs.Fractions.{≼_trans, drop_last, num_pos}
use Rattle.exact.proofs.Accepted.{facts}
use Rattle.exact.proofs.Exponents.{M_in}
use Rattle.exact.proofs.Majorant.{m}
use Rattle.exact.proofs.Enclosure.{m_le_M}
use Rattle.encounter.specs.declared.state.Session.{Session}
use Rattle.encounter.specs.Session.{state}
use Rattle.encounter.specs.Private.Held.{Begun}
use Rattle.advice.specs.Private.Positive.{Positive}

u_le_M : (E : Encounter) → u E ≼ value (M E)
unfolding m
u_le_M E = ≼_trans (drop_last _ _) (≼_trans (drop_last _ _) (≼_trans (drop_last _ _) (m_le_M E)))

u_pos : {E : Encounter} → Accepted E → 0 < (u E).num
unfolding u ◌over◌
u_pos h = let R = (facts h).bounds.R_pos in mul-pos R R

positive : {E : Encounter} → Accepted E → Positive (M E)
unfolding M side_letters value
positive {E} h = record {
  range = M_in (facts h).bounds;
  above_0 = first_pos _ _ (num_pos (u_le_M E) (u_pos h));
}

module _ (s : Session) (b : Begun s) where
  pub M_is : s.M ≡ M s.encounter
  unfolding state
  M_is = ap (λ (x : Session). x.M) b.is

  pub M_positive : Positive s.M
  M_positive = rw M_is (positive b.fine)
