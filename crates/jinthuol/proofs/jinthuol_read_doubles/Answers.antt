use Rattle.encounter.specs.Calls.{reads, call}
use Rattle.host.specs.Doubles.{Says}
use Rattle.jinthuol.specs.Doubles.{doubles_numbers, doubles_told}
use Rattle.jinthuol.proofs.Telling.{doubles_back, tells}
use Rattle.jinthuol.proofs.jinthuol_read_doubles.Goals as goal

pub returns : goal.returns
returns c = tells doubles_numbers doubles_told (Says (call reads c.args.session).answer) (doubles_back _) c.from.ensures c.read_doubles.ensures.value
