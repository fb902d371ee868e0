use native.Mathlib.Omega.{arith}
use Rattle.encounter.proofs.steps.Counting.{lower_fine, upper_fine, exact_high, one_at_most, next_is}
use Rattle.encounter.proofs.steps.counts.next_counting.Goals as goal

pub side_step-requires : goal.side_step-requires
side_step-requires c = let (b, l, e, _) = c.requires in lower_fine c.args.s b c.args.n l e

pub side_step-requires-2 : goal.side_step-requires-2
side_step-requires-2 c = let (b, l, e, _) = c.requires in upper_fine c.args.s b c.args.n l e

pub overflow_add-counts : goal.overflow_add-counts
overflow_add-counts c =
    let (b, n, e, _) = c.requires in
    record { fits = omega (arith, exact_high c.args.s b c.args.n n e, one_at_most c.either_side-lost.result.term c.from.ensures) }

pub returns : goal.returns
returns c =
    let (b, n, e, h) = c.requires in
    let (t₀, k₀) = c.side_step.ensures in
    let (t₁, k₁) = c.side_step-2.ensures in
    next_is c.args.s b c.args.n n e {r = c.either_side-lost.result} h t₀ t₁ k₀ k₁ c.either_side-lost.ensures c.from.ensures c.from-2.ensures
