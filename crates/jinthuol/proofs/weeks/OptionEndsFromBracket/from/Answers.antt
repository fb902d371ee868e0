use Rattle.jinthuol.proofs.weeks.Copies.{empty_is, held_is}
use Rattle.jinthuol.proofs.weeks.OptionEndsFromBracket.from.Goals as goal

pub returns-then-b-eq0 : goal.returns-then-b-eq0
returns-then-b-eq0 c = empty_is c.args.b c.if-b-eq0.true

pub returns : goal.returns
returns c = held_is c.args.b c.if-b-eq0.false
