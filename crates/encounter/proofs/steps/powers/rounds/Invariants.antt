use Rattle.exact.specs.declared.Encounter.{Encounter}
use Rattle.encounter.specs.Private.Loops.{PowersAt}
use Rattle.encounter.proofs.steps.powers.rounds.Given as goal

-- whichever encounter's numbers t and w₀ are at 0, t and w are the same encounter's at k
abbrev pub invariant-loop-k : goal.invariant-loop-k
invariant-loop-k w = (E : Encounter) → PowersAt E 0 w.t w.initial.w → PowersAt E w.k w.t w.w
