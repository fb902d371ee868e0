use Rattle.encounter.proofs.steps.BothSides.{sum_side}
use Rattle.encounter.proofs.steps.Rounds.{factors, held, next_held, next_at}
use Rattle.encounter.proofs.steps.powers.one_round.Goals as goal

pub next_r-r-requires : goal.next_r-r-requires
next_r-r-requires c = (c.requires.0, λ up. factors c.requires.1.1 c.requires.0 up)

pub sum-sum-requires : goal.sum-sum-requires
sum-sum-requires c =
    let h = c.requires.1.1 in
    let l = c.requires.0 in
    (λ up. (held h l up).1, λ up. next_held h l up (c.next_r-r.ensures up))

pub returns : goal.returns
returns c = λ E h. next_at h c.next_r-r.ensures (λ up. sum_side up _ _ c.sum-sum.ensures)
