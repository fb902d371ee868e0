use Rattle.encounter.proofs.steps.Progressing.{M_fine}
use Rattle.encounter.proofs.calls.ReadNumbers.{may_read_is}
use Rattle.encounter.proofs.calls.ends.may_read.Goals as goal

pub passes_test_23-requires : goal.passes_test_23-requires
passes_test_23-requires c = (M_fine c.args.s c.requires, c.requires.high)

pub returns : goal.returns
returns c = may_read_is c.args.s c.requires c.passes_test_23.ensures
