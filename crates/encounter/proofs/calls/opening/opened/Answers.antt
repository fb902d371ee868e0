use Rattle.exact.proofs.Accepted.{facts}
use Rattle.exact.proofs.Exponents.{M_in}
use Rattle.encounter.proofs.steps.Opening.{t_are, side_start_fine, either_are, opened_is}
use Rattle.encounter.proofs.calls.opening.opened.Goals as goal

pub exponential_sums-sums-requires : goal.exponential_sums-sums-requires
exponential_sums-sums-requires c = (c.args.E, t_are c.args.E c.requires.0 c.requires.1 c.requires.2)

pub open_side-requires : goal.open_side-requires
open_side-requires c =
    let (a, el, eh, _) = c.requires in
    ((facts a).bounds, el, (c.exponential_sums-sums.ensures c.args.E (t_are c.args.E a el eh)).0)

pub open_side-requires-2 : goal.open_side-requires-2
open_side-requires-2 c =
    let (a, el, eh, _) = c.requires in
    ((facts a).bounds, eh, (c.exponential_sums-sums.ensures c.args.E (t_are c.args.E a el eh)).1)

pub first_tail-requires : goal.first_tail-requires
first_tail-requires c =
    let f = (facts c.requires.0).bounds in
    (rw c.requires.3 (M_in f), side_start_fine c.args.E c.open_side-2.ensures.0 f)

pub returns : goal.returns
returns c =
    let (a, el, eh, em) = c.requires in
    let E = c.args.E in
    let sums = c.exponential_sums-sums.ensures E (t_are E a el eh) in
    let l = c.open_side.ensures in
    let u = c.open_side-2.ensures in
    opened_is E l.0 u.0 (either_are E l u c.either_side-lost.ensures) sums.2 em c.first_tail.ensures c.from.ensures c.from-2.ensures
