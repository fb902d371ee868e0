use borrow.Author.Rules.{rules}
use Rattle.encounter.specs.Calls.{begins}
use Rattle.encounter.proofs.calls.Answering.{call_kept_of_any}
use Rattle.encounter.proofs.calls.begin.Goals as goal

pub returns : goal.returns
returns c = search (rules, call_kept_of_any (begins c.args.E))
