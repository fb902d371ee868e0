use mathlib.Core.Path.{sym, ◌∙◌}
use mathlib.Core.List.{map}
use Prim.Native.Nat.{◌<◌}
use native.Mathlib.Omega.{arith}
use lib.ListN.{length, length-map}
use Rattle.exact.specs.Scaled.{nought}
use Rattle.std.specs.Prelude.{None}
use Rattle.week.proofs.Folding.{get_map}
use Rattle.week.proofs.Walking.{none_there, one_there, no_place_left}
use Rattle.jinthuol.specs.Week.{place_in}
use Rattle.jinthuol.proofs.weeks.with_day.Goals as goal
use Rattle.jinthuol.proofs.weeks.with_day.Goals.{in-Some, in_default}

pub loop-place-preserved : goal.loop-place-preserved
loop-place-preserved c =
    let l = c.loop-place in
    let bs = c.args.day.now.places in
    let m = length-map bs place_in in
    let i : l.place-index < length (map place_in bs) = omega (arith, m) in
    let g = get_map place_in bs l.place-index (record { held = 0; lower = nought; upper = nought }) None (omega arith) in
    elim c.match-from.branch [
      | in-Some w ↦ rw (w.ends-is, w.with-ends.ensures) (one_there l.ends (map place_in bs) l.place-index None i (g ∙ sym w.in-Some.ensures) ∙ l.invariant)
      | in_default w ↦ rw w.ends-is (none_there l.ends (map place_in bs) l.place-index None i (g ∙ sym w.in_default.ensures) ∙ l.invariant)
    ]

pub returns : goal.returns
returns c = no_place_left _ (map place_in c.args.day.now.places) c.loop-place.place-index (omega (arith, length-map c.args.day.now.places place_in)) ∙ c.loop-place.invariant
