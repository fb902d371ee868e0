use mathlib.Core.Path.{◌≡◌}
use Rattle.encounter.specs.Private.Held.{counting}
use Rattle.encounter.proofs.steps.counts.counts_after.Given as goal

abbrev pub invariant-loop-n : goal.invariant-loop-n
invariant-loop-n w = w.w ≡ counting w.s.encounter w.n
