use mathlib.Core.Path.{◌≡◌, sym, ◌∙◌, ap}
use native.Mathlib.Omega.{arith}
use mathlib.Core.List.{[]}
use Prim.Native.Nat.{◌<◌}
use lib.ListN.{get_or, set}
use Rattle.encounter.specs.Calls.{history_of, reads, call}
use Rattle.encounter.proofs.calls.Answering.{positive}
use Rattle.week.specs.Week.{ends_of, entered}
use Rattle.week.proofs.Tests.{enters, stays, goes_in}
use Rattle.jinthuol.specs.declared.Week.{Week as Struct}
use Rattle.jinthuol.specs.Week.{days_of, in_days}
use Rattle.jinthuol.proofs.weeks.Copies.{days_back, as_many, part_0, part_1, entered_in, promised}
use Rattle.jinthuol.proofs.jinthuol_enter.Goals as goal

pub bounds-entered-d : goal.bounds-entered-d
bounds-entered-d c = rw (part_0 c.in-Ok.ensures.value) (enters (history_of c.args.session) _ _ (sym c.in-Ok.ensures.number)).in_week

pub bounds-entered-p : goal.bounds-entered-p
bounds-entered-p c = rw (part_1 c.in-Ok.ensures.value) (enters (history_of c.args.session) _ _ (sym c.in-Ok.ensures.number)).has_room

pub offset_bounds-entered-p : goal.offset_bounds-entered-p
offset_bounds-entered-p c = record { fits = omega (arith, bounds-entered-p c) }

pub returns-in-Err : goal.returns-in-Err
returns-in-Err c =
    let a = c.args in
    let w = days_of a.week in
    let back : days_of c.write_week.new.week ≡ w = ap days_of c.write_week.ensures ∙ days_back w in
    let n = c.from-in-Err.ensures ∙ (rw back at c.in-Err.ensures.number) in
    promised w a.session a.day c.requires.1 c.requires.0 (stays w a.day a.session n (λ z. omega (arith, z, c.from-in-Err.ensures, positive c.in-Err.refusal))) c.write_week.ensures

pub returns-in-Ok : goal.returns-in-Ok
returns-in-Ok c =
    let a = c.args in
    let w = days_of a.week in
    let back : days_of c.write_week.new.week ≡ w = ap days_of c.write_week.ensures ∙ days_back w in
    let n = rw back at c.in-Ok.ensures.number in
    let v = rw back at c.in-Ok.ensures.value in
    let l : c.in-Ok.d < 7 = bounds-entered-d c in
    let written : ◌≡◌ {A = Struct} (record { days = set c.write_week.new.week.days c.in-Ok.d (record { places = set (get_or c.write_week.new.week.days c.in-Ok.d (record { places = [] })).places c.in-Ok.p c.from.result }) }) (in_days (entered w a.day (ends_of (call reads a.session).answer))) =
    rw (c.write_week.ensures, c.from.ensures) (entered_in w (record { places = [] }) (omega (arith, l, as_many a.week)) v) in
    promised w a.session a.day c.requires.1 c.requires.0 (goes_in w a.day a.session n) written
