use mathlib.Core.Path.{◌∙◌}
use native.Mathlib.Omega.{arith}
use Rattle.encounter.proofs.steps.Progressing.{added_is}
use Rattle.encounter.proofs.calls.further.Goals as goal

pub returns : goal.returns
returns c =
    let b = c.requires.0 in
    c.at_order.ensures ∙ added_is c.args.s b _ c.advance-p.result c.counts_after-k.result (omega (arith, b.low)) c.advance-p.ensures c.counts_after-k.ensures
