use Rattle.advice.proofs.Advising.{held_positive}
use Rattle.advice.proofs.advise.Goals as goal

pub entry_for-requires : goal.entry_for-requires
entry_for-requires c = held_positive c.args.s c.requires c.if-s-eq0.false
