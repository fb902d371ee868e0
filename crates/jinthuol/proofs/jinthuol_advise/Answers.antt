use Rattle.advice.specs.Advice.{Says}
use Rattle.jinthuol.specs.Advice.{advice_numbers, told}
use Rattle.jinthuol.proofs.Telling.{advice_back, tells}
use Rattle.jinthuol.proofs.jinthuol_advise.Goals as goal

pub returns : goal.returns
returns c =
    let s = c.args.session in
    let t = tells advice_numbers told (Says s) (advice_back s _ c.advise.ensures.1) c.from.ensures c.advise.ensures in
    (t.0, t.1)
