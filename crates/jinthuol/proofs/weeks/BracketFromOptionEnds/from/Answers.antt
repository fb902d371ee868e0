use Rattle.jinthuol.specs.Week.{bracket_of}
use Rattle.jinthuol.proofs.weeks.BracketFromOptionEnds.from.Goals as goal

pub returns-in-Some : goal.returns-in-Some
unfolding bracket_of
returns-in-Some c = rw c.in-Some.is

pub returns-in-None : goal.returns-in-None
unfolding bracket_of
returns-in-None c = rw c.in-None.is
