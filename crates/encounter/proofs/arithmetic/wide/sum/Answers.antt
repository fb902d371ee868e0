use mathlib.Core.Path.{sym, ◌∙◌}
use lib.Dec.{lit<}
use Rattle.exact.proofs.Operations.{sum_none, sum_kept, sum_comm, lost_comm}
use Rattle.encounter.specs.Private.Loops.{narrow}
use Rattle.encounter.proofs.arithmetic.Results.{kept_rounds}
use Rattle.encounter.proofs.arithmetic.wide.sum.Goals as goal

pub returns-then-b-eq0 : goal.returns-then-b-eq0
returns-then-b-eq0 c =
    let a = narrow c.args.a in
    let b = narrow c.args.b in
    let n = c.requires.0.is_scaled in
    let e = c.if-b-eq0.true in
    kept_rounds c.args.up _ c.exact.ensures (sym (sum_none c.args.up 32 a b (lit< tt) n e)) (sum_kept c.args.up 32 a b (lit< tt) n e)

pub returns-then-a-eq0 : goal.returns-then-a-eq0
returns-then-a-eq0 c =
    let a = narrow c.args.a in
    let b = narrow c.args.b in
    let n = c.requires.1.is_scaled in
    let e = c.if-a-eq0.true in
    kept_rounds c.args.up _ c.exact-then-a-eq0.ensures
    (sym (sum_comm c.args.up 32 a b (lit< tt) ∙ sum_none c.args.up 32 b a (lit< tt) n e))
    (lost_comm c.args.up 32 a b (lit< tt) ∙ sum_kept c.args.up 32 b a (lit< tt) n e)

pub returns-then-a-b : goal.returns-then-a-b
returns-then-a-b c =
    let a = narrow c.args.a in
    let b = narrow c.args.b in
    (c.aligned.ensures.0 ∙ sum_comm c.args.up 32 b a (lit< tt), c.aligned.ensures.1 ∙ lost_comm c.args.up 32 b a (lit< tt))
