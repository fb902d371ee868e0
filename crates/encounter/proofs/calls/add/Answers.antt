use borrow.Author.Rules.{rules}
use Rattle.encounter.specs.Calls.{adds}
use Rattle.encounter.proofs.calls.Answering.{call_kept}
use Rattle.encounter.proofs.calls.add.Goals as goal

pub returns : goal.returns
returns c = search (rules, call_kept (adds c.args.count))
