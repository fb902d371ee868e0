use mathlib.Core.Path.{◌≡◌, refl, sym, ◌∙◌, ap}
use mathlib.Core.Bool.{Bool, not}
use lib.Dec.{lit≤}
use Rattle.exact.proofs.Ranges.{widen}
use Rattle.encounter.proofs.calls.Invariant.{begun}
use Rattle.encounter.proofs.steps.Progressing.{exact_is}
use Rattle.encounter.proofs.calls.ReadNumbers.{not_not, lower_end_fine, upper_end_fine}
use Rattle.encounter.proofs.calls.Answering.{read_21, read_23, read_taken, bracket_is}
use Rattle.encounter.proofs.calls.reading.Goals as goal

-- the code tests that 23 does not refuse
flipped : {b r x : Bool} → r ≡ not b → r ≡ x → b ≡ not x
flipped {b = b} e f = not_not b ∙ ap not (sym e ∙ f)

pub returns-then-s-eq0 : goal.returns-then-s-eq0
returns-then-s-eq0 c = read_21 c.args.s c.if-s-eq0.true refl

pub may_read-requires : goal.may_read-requires
may_read-requires c = begun c.args.s c.requires c.if-s-eq0.false

pub returns-then-not-may_read : goal.returns-then-not-may_read
returns-then-not-may_read c = read_23 c.args.s c.if-s-eq0.false (flipped c.may_read.ensures c.if-not-may_read.true) refl

pub lower_end-lower-requires : goal.lower_end-lower-requires
lower_end-lower-requires c = begun c.args.s c.requires c.if-s-eq0.false

pub upper_end-upper-requires : goal.upper_end-upper-requires
upper_end-upper-requires c = begun c.args.s c.requires c.if-s-eq0.false

pub classify-requires : goal.classify-requires
classify-requires c =
    let b = begun c.args.s c.requires c.if-s-eq0.false in
    (widen (lit≤ tt) (lower_end_fine c.args.s b c.lower_end-lower.ensures), widen (lit≤ tt) (upper_end_fine c.args.s b c.upper_end-upper.ensures))

pub returns : goal.returns
returns c =
    let some = c.if-s-eq0.false in
    let e = exact_is c.args.s (begun c.args.s c.requires some) in
    read_taken c.args.s some (flipped c.may_read.ensures c.if-not-may_read.false) (bracket_is c.args.s e c.lower_end-lower.ensures c.upper_end-upper.ensures c.classify.ensures)
