use mathlib.Core.Path.{◌∙◌, ap}
use mathlib.Core.List.{List}
use native.Mathlib.Omega.{arith}
use Rattle.jinthuol.specs.declared.Bracket.{Bracket}
use Rattle.jinthuol.proofs.weeks.Copies.{again, partly_none, partly_turn, partly_all, empty_again, held_again}
use lib.ListN.{get_or}
use Rattle.exact.specs.Scaled.{nought}
use Rattle.jinthuol.proofs.weeks.write_day.Goals as goal
use Rattle.jinthuol.proofs.weeks.write_day.Goals.{then-place-eq0, else-place-eq0}

pub loop-place-init : goal.loop-place-init
loop-place-init c = partly_none again _

pub returns : goal.returns
returns c = ap (λ (l : List Bracket). record { places = l }) (c.loop-place.invariant ∙ partly_all again _ c.loop-place.place-index (omega arith))

pub loop-place-preserved : goal.loop-place-preserved
loop-place-preserved c =
    let l = c.loop-place in
    let none : Bracket = record { held = 0; lower = nought; upper = nought } in
    let b : Bracket = get_or l.place-items l.place-index none in
    elim c.if-place-eq0.branch [
      | then-place-eq0 w ↦ rw w.place-items-is (partly_turn again c.args.day.now.places l.place-index none l.invariant (omega arith) (w.from.ensures ∙ empty_again b w.if-place-eq0.true))
      | else-place-eq0 w ↦ rw w.place-items-is (partly_turn again c.args.day.now.places l.place-index none l.invariant (omega arith) (held_again b w.if-place-eq0.false))
    ]
