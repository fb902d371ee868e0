use mathlib.Core.Path.{◌≡◌, ◌∙◌, ap}
use mathlib.Core.Logic.{◌⊎◌, inl, inr}
use Prim.Native.Nat.{suc, ◌+◌, ◌-◌, ◌≤◌}
use native.Mathlib.Omega.{arith}
use Rattle.encounter.specs.Private.Held.{counts}
use Rattle.encounter.proofs.steps.Counting.{counting_starts, counting_ends}
use Rattle.encounter.proofs.steps.counts.counts_after.Goals as goal
use Rattle.encounter.proofs.steps.counts.counts_after.Goals.{else-loop-n-test, then-loop-n-test+then-w-eq0}

pub loop-n-init : goal.loop-n-init
loop-n-init c = let b = c.requires.0 in counting_starts c.args.s b _ (omega (arith, b.low))

-- why the loop ended
ends : (c : goal.After-result-1) → (c.args.s.N + c.args.count - 1 ≤ c.loop-n.n) ⊎ (c.loop-n.w.counts.lossless ≡ 0)
ends c = elim c.loop-n-test.branch [ else-loop-n-test w ↦ inl w.loop-n-test.false | then-loop-n-test+then-w-eq0 w ↦ inr w.if-w-eq0.true ]

pub returns : goal.returns
returns c =
    let (b, h) = c.requires in
    let m = c.args.s.N + c.args.count - 1 in
    let l : c.loop-n.n ≤ m = omega (arith, c.loop-n.auto.n-end, b.low) in
    let i : suc m ≡ c.args.s.N + c.args.count = omega (arith, b.low) in
    counting_ends c.args.s b c.loop-n.n (omega (arith, h, b.low, l)) c.loop-n.invariant m l (ends c) ∙ ap (counts c.args.s.encounter) i
