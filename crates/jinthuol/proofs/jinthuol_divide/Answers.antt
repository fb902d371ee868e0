use Rattle.division.specs.Division.{Says}
use Rattle.jinthuol.specs.Division.{divided_numbers, divided_told}
use Rattle.jinthuol.proofs.Telling.{divided_back, tells}
use Rattle.jinthuol.proofs.jinthuol_divide.Goals as goal

pub returns : goal.returns
returns c =
    let a = c.args in
    tells divided_numbers divided_told (Says a.up a.number a.divisor) (divided_back _) c.from.ensures c.divide.ensures.value
