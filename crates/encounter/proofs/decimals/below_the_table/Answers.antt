use Rattle.exact.proofs.DecimalCases.{small_lower, small_upper}
use Rattle.encounter.proofs.decimals.below_the_table.Goals as goal

pub returns-then-up : goal.returns-then-up
returns-then-up c x p = small_upper _ x c.if-up.true p

pub returns-else-up : goal.returns-else-up
returns-else-up c x p = small_lower _ x c.if-up.false
