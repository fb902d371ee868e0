use mathlib.Core.Path.{◌∙◌, ap}
use mathlib.Core.Bool.{true, false}
use lib.Dec.{lit<, lit≤}
use Rattle.exact.specs.declared.Scaled.{Scaled}
use Rattle.exact.specs.Steps.{PowersOf, exponential_sum, r256}
use Rattle.exact.proofs.Ranges.{widen}
use Rattle.encounter.proofs.steps.Rounds.{powers_held, first_at}
use Rattle.encounter.proofs.steps.powers.exponential_sums.Goals as goal

pub rounds-w-requires : goal.rounds-w-requires
rounds-w-requires c = (c.requires.0, first_at c.requires.1 c.pair_of-t.ensures c.pair_of-one.ensures)

pub one_round-last-requires : goal.one_round-last-requires
one_round-last-requires c =
    let w = c.rounds-w.ensures c.requires.0 (first_at c.requires.1 c.pair_of-t.ensures c.pair_of-one.ensures) in
    (lit< tt, (c.requires.0, w))

pub side-requires : goal.side-requires
side-requires c =
    let w = c.rounds-w.ensures c.requires.0 (first_at c.requires.1 c.pair_of-t.ensures c.pair_of-one.ensures) in
    widen (lit≤ tt) (powers_held w (lit≤ tt) false).sum

pub side-requires-2 : goal.side-requires-2
side-requires-2 c =
    let w = c.rounds-w.ensures c.requires.0 (first_at c.requires.1 c.pair_of-t.ensures c.pair_of-one.ensures) in
    widen (lit≤ tt) (powers_held w (lit≤ tt) true).sum

pub side-requires-3 : goal.side-requires-3
side-requires-3 c =
    let w = c.rounds-w.ensures c.requires.0 (first_at c.requires.1 c.pair_of-t.ensures c.pair_of-one.ensures) in
    widen (lit≤ tt) (powers_held (c.one_round-last.ensures c.requires.0 w) (lit≤ tt) true).r

pub returns : goal.returns
unfolding exponential_sum r256
returns c =
    λ E h.
    let w = c.rounds-w.ensures E (first_at h c.pair_of-t.ensures c.pair_of-one.ensures) in
    let last = c.one_round-last.ensures E w in (
      c.side.ensures ∙ ap (λ (w : PowersOf Scaled). w.sum) (w.powers_are false),
      c.side-2.ensures ∙ ap (λ (w : PowersOf Scaled). w.sum) (w.powers_are true),
      c.side-3.ensures ∙ ap (λ (w : PowersOf Scaled). w.r) (last.powers_are true),
    )
