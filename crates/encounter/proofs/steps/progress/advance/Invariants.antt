use Rattle.encounter.proofs.steps.Progressing.{Holds}
use Rattle.encounter.proofs.steps.progress.advance.Given as goal

-- the loop's numbers are the session's encounter's at n
abbrev pub invariant-loop-n : goal.invariant-loop-n
invariant-loop-n w = Holds w.fn.s.encounter w.l w.M w.t w.d w.n
