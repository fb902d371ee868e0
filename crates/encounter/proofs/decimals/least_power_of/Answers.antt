use native.Mathlib.Omega.{arith}
use borrow.Author.Count.{below_more}
use lib.Dec.{lit≤}
use mathlib.Core.Path.{sym}
use Rattle.exact.specs.Decimals.{table_length}
use Rattle.encounter.specs.Private.Loops.{narrow}
use Rattle.encounter.proofs.decimals.Searching.{before_first, reaches_yes, reaches_no, least_at}
use Rattle.encounter.proofs.decimals.least_power_of.Goals as goal

pub loop-k-init : goal.loop-k-init
loop-k-init c = rw c.first_power-k.ensures (omega arith, before_first c.args.up (narrow c.args.x) c.args.s c.requires)

pub returns-then-whole-ge1000 : goal.returns-then-whole-ge1000
returns-then-whole-ge1000 c =
    let a = c.args in
    let l = c.loop-k in
    let w = c.whole_at-whole.ensures in
    (c.loop-k-test.true, least_at a.up (narrow a.x) l.k (omega (arith, c.loop-k-test.true)) l.invariant.1 (λ m. reaches_yes a.up (narrow a.x) l.k w c.if-whole-ge1000.true), w)

pub loop-k-preserved : goal.loop-k-preserved
loop-k-preserved c =
    let a = c.args in
    let l = c.loop-k in
    (omega arith, below_more _ _ l.invariant.1 (reaches_no a.up (narrow a.x) l.k c.whole_at-whole.ensures (λ m. omega (arith, m, c.if-whole-ge1000.false))))

pub returns : goal.returns
returns c =
    let end = c.loop-k-test.false in
    sym (least_at c.args.up (narrow c.args.x) table_length (lit≤ tt) (λ j l. c.loop-k.invariant.1 j (omega (arith, l, end))) (λ l. let f : ⊥ = omega arith in absurd f))
