use Rattle.std.proofs.lemmas.Result.{err_from_is_err_and}
use Rattle.host.proofs.Promises.{fit, doubles_refused, doubles_are, says_doubles}
use Rattle.host.proofs.read_doubles.Goals as goal

pub returns-in_err-reading-clause-value : goal.returns-in_err-reading-clause-value
returns-in_err-reading-clause-value c =
    let p = err_from_is_err_and c.from_residual.result c.from_residual.ensures.1 in
    let e = doubles_refused c.args.s c.in_err-reading.field-0.0 c.in_err-reading.ensures p.1 p.2 in
    (e, says_doubles c.args.s _ c.requires e)

pub ends_of-requires : goal.ends_of-requires
ends_of-requires c = fit c.args.s c.in_ok-reading.field-0 c.in_ok-reading.ensures c.requires

pub returns-clause-value : goal.returns-clause-value
returns-clause-value c =
    let e = doubles_are c.args.s c.in_ok-reading.field-0 c.in_ok-reading.ensures _ c.ends_of.ensures in
    (e, says_doubles _ _ c.requires e)
