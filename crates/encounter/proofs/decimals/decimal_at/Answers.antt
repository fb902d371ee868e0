use mathlib.Core.Path.{sym}
use Rattle.exact.proofs.DecimalCases.{at_power_few, at_power_carried}
use Rattle.encounter.proofs.decimals.decimal_at.Goals as goal

pub returns-then-n-lt10000 : goal.returns-then-n-lt10000
returns-then-n-lt10000 c = sym (at_power_few _ _ c.if-n-lt10000.true)

pub returns-else-n-lt10000 : goal.returns-else-n-lt10000
returns-else-n-lt10000 c = sym (at_power_carried _ _ c.if-n-lt10000.false)
