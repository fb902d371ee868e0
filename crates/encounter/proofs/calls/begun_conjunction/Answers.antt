use mathlib.Core.Path.{refl}
use lib.Dec.{lit<, lit≤}
use Rattle.encounter.proofs.calls.Conjunctions.{refused_9, passed_9, conjunction_refused, conjunction_taken}
use Rattle.encounter.proofs.calls.begun_conjunction.Goals as goal

pub returns-then-C-eq0 : goal.returns-then-C-eq0
returns-then-C-eq0 c = λ s. conjunction_refused c.args.C s (c.in_ok-session.ensures s) (refused_9 0 c.args.C.object refl c.if-C-eq0.true) (lit< tt) refl

pub returns : goal.returns
returns c = λ s. conjunction_taken c.args.C s (c.in_ok-session.ensures s) (passed_9 0 c.args.C.object refl c.if-C-eq0.false) (lit≤ tt)
