use mathlib.Core.Path.{◌≡◌, ◌∙◌, ap}
use mathlib.Core.Bool.{true, false}
use Prim.Native.Nat.{◌+◌, ◌-◌, ◌<◌}
use native.Mathlib.Omega.{arith}
use lib.Dec.{lit≤}
use Rattle.exact.specs.Numbers.{largest_order}
use Rattle.exact.proofs.Ranges.{widen}
use Rattle.encounter.specs.Private.Held.{progress}
use Rattle.encounter.proofs.steps.BothSides.{letters_both, terms_both, next_side}
use Rattle.encounter.proofs.steps.Progressing.{start_holds, letters_held, bound_held, terms_held, tail_held, next_holds, holds_progress}
use Rattle.encounter.proofs.steps.progress.advance.Goals as goal

pub loop-n-init : goal.loop-n-init
loop-n-init c = start_holds c.args.s c.requires.0 c.letter_pairs-l.ensures c.from-M.ensures c.term_pairs-t.ensures c.from-d.ensures

-- in the loop, which ends at an index below the largest order
below : (c : goal.In-loop-n) → c.loop-n.n < largest_order
below c = omega (arith, c.requires.1, c.requires.0.low, c.loop-n-test.true)

pub next_terms-t-requires : goal.next_terms-t-requires
next_terms-t-requires c =
    let h = c.loop-n.invariant in
    (below c, letters_both (letters_held c.requires.0 h), terms_both (terms_held c.requires.0 h (below c)))

pub next_tail-d-requires : goal.next_tail-d-requires
next_tail-d-requires c =
    let h = c.loop-n.invariant in
    let n = below c.before in
    (omega (arith, n), bound_held c.requires.0 h, tail_held c.requires.0 h n)

pub loop-n-preserved : goal.loop-n-preserved
loop-n-preserved c =
    let l = c.loop-n in
    next_holds c.args.s.encounter l.n l.invariant (next_side _ l.n l.t c.next_terms-t.ensures) c.next_tail-d.ensures

-- after it
ended : (c : goal.After-loop-n) → c.loop-n.n ≡ c.args.s.N + c.args.count - 1
ended c = omega (arith, c.loop-n.auto.n-end, c.loop-n-test.false)

over : (c : goal.After-loop-n) → c.loop-n.n < largest_order
over c = omega (arith, ended c, c.requires.1, c.requires.0.low)

pub side_terms-requires : goal.side_terms-requires
side_terms-requires c = terms_held c.requires.0 c.loop-n.invariant (over c) false

pub side_terms-requires-2 : goal.side_terms-requires-2
side_terms-requires-2 c = terms_held c.requires.0 c.loop-n.invariant (over c.before) true

pub narrowed-requires : goal.narrowed-requires
narrowed-requires c = widen (lit≤ tt) (tail_held c.requires.0 c.loop-n.invariant (over c.before.before))

pub returns : goal.returns
returns c =
    let h = c.loop-n.invariant in
    holds_progress c.args.s.encounter c.loop-n.n h c.side_terms.ensures c.side_terms-2.ensures c.narrowed.ensures
    ∙ ap (progress c.args.s.encounter) (ended c.before.before.before)
