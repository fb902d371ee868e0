use mathlib.Core.Path.{◌∙◌, ap}
use Prim.Native.Nat.{ℕ}
use native.Mathlib.Omega.{arith}
use Rattle.std.proofs.lemmas.Result.{err_from_is_err_and}
use Rattle.encounter.specs.Calls.{history_of}
use Rattle.week.specs.declared.Ends.{Ends}
use Rattle.week.proofs.Tests.{test_13}
use Rattle.jinthuol.proofs.weeks.Copies.{day_is, number_is}
use Rattle.jinthuol.proofs.weeks.place_for.Goals as goal

pub returns-then-d-ge-DAYS_A_WEEK-clause-number : goal.returns-then-d-ge-DAYS_A_WEEK-clause-number
returns-then-d-ge-DAYS_A_WEEK-clause-number c = test_13 (history_of c.args.s) c.args.day _ c.if-d-ge-DAYS_A_WEEK.true

pub returns-in_err-p-clause-number : goal.returns-in_err-p-clause-number
returns-in_err-p-clause-number c =
    let p = err_from_is_err_and c.from_residual.result c.from_residual.ensures.1 in
    rw (p.1, p.2) (number_is c.args.week.now c.args.s c.args.day _ (omega arith) (omega arith) c.places_of.ensures c.in_err-p.ensures.number)

pub returns-clause-number : goal.returns-clause-number
returns-clause-number c = number_is c.args.week.now c.args.s c.args.day _ (omega arith) (omega arith) c.places_of.ensures c.in_ok-p.ensures.number

pub returns-clause-value : goal.returns-clause-value
returns-clause-value c =
    let e = c.places_of.ensures ∙ day_is c.args.week.now c.args.day _ (omega arith) in
    let v = rw e at c.in_ok-p.ensures.value in
    ap (λ (r : ℕ × Ends). (c.args.day, r.0, r.1)) v
