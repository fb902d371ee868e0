use native.Mathlib.Omega.{arith}
use Rattle.std.proofs.lemmas.Result.{err_from_is_err_and}
use Rattle.week.proofs.Entering.{keeps, refused_13, refused_in, has_room, put_in}
use Rattle.week.proofs.enter.Goals as goal

pub returns-then-d-ge-DAYS_A_WEEK : goal.returns-then-d-ge-DAYS_A_WEEK
returns-then-d-ge-DAYS_A_WEEK c = (refused_13 c.args.week c.args.s c.args.day c.if-d-ge-DAYS_A_WEEK.true, tt)

pub returns-in_err-p : goal.returns-in_err-p
returns-in_err-p c =
    let p = err_from_is_err_and c.from_residual.result c.from_residual.ensures.1 in
    rw (p.1, p.2) (refused_in c.args.week c.args.s c.args.day (omega arith) c.in_err-p.field-0.0 c.in_err-p.ensures.number, tt)

pub bounds-week-p : goal.bounds-week-p
bounds-week-p c = has_room c.args.week c.args.s c.args.day (omega arith) c.in_ok-p.ensures.number c.in_ok-p.ensures.value

pub offset_bounds-week-p : goal.offset_bounds-week-p
offset_bounds-week-p c = record { fits = omega (arith, bounds-week-p c) }

pub returns : goal.returns
returns c = keeps c.requires.0 c.requires.1 c.args.day (put_in c.args.week c.args.s c.args.day (omega arith) c.in_ok-p.ensures.number c.in_ok-p.ensures.value)
