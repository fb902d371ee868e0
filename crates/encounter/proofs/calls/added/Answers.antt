use mathlib.Core.Path.{◌∙◌, ap}
use Prim.Native.Nat.{◌+◌, ◌≤◌}
use native.Mathlib.Omega.{arith}
use Rattle.exact.specs.Numbers.{largest_order}
use Rattle.encounter.specs.declared.state.Session.{Session}
use Rattle.encounter.specs.Session.{state, counted}
use Rattle.encounter.proofs.calls.Invariant.{begun, order_high}
use Rattle.encounter.proofs.calls.Answering.{add_taken}
use Rattle.encounter.proofs.calls.added.Goals as goal

pub overflow_add-n : goal.overflow_add-n
overflow_add-n c = record { fits = omega (arith, order_high c.args.s c.requires, c.ranges.count.fits) }

pub further-requires : goal.further-requires
further-requires c = (begun c.args.s c.requires c.if-s-eq0.false, omega (arith, c.from-2.ensures, c.from.ensures, c.if-n-gt-LARGEST_ORDER.false))

pub returns : goal.returns
unfolding state
returns c =
    let l : c.args.s.N + c.args.count ≤ largest_order = omega (arith, c.from.ensures, c.if-n-gt-LARGEST_ORDER.false) in
    let e = c.further.ensures ∙ rw c.from-2.ensures in
    add_taken c.args.s c.args.count c.if-count-eq0.false c.if-s-eq0.false l (ap (λ (t : Session). counted t.N) e) e
