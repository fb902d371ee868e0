use Rattle.std.proofs.lemmas.Result.{err_from_is_err_and}
use Rattle.host.proofs.Promises.{fit, plotted_refused, plotted_is, stores_plotted}
use Rattle.host.proofs.read_plot_record.Goals as goal

pub returns-in_err-r : goal.returns-in_err-r
returns-in_err-r c =
    let p = err_from_is_err_and c.from_residual.result c.from_residual.ensures.1 in
    let e = plotted_refused c.args.s c.in_err-r.field-0.0 c.in_err-r.ensures p.1 p.2 in
    (e, stores_plotted c.args.s _ c.requires e)

pub ends_of-requires : goal.ends_of-requires
ends_of-requires c = fit c.args.s c.in_ok-r.r c.in_ok-r.ensures c.requires

pub returns : goal.returns
returns c =
    let e = plotted_is c.args.s c.in_ok-r.r c.in_ok-r.ensures _ _ c.ends_of.ensures c.record_of.ensures in
    (e, stores_plotted _ _ c.requires e)
