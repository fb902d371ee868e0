use mathlib.Core.Bool.{true, false}
use lib.Ieee.{size, span, climb}
use Rattle.exact.specs.Fraction.{whole}
use Rattle.exact.specs.Decimals.{entry}
use Rattle.exact.specs.Private.Round.{round, pack, finish, spare, inexact}
use Rattle.encounter.proofs.decimals.Entries.{entry_is}
use Rattle.encounter.proofs.decimals.tens.power_of_ten.Goals as goal

pub returns-then-up : goal.returns-then-up
unfolding entry whole round pack finish spare inexact size span climb
returns-then-up c = rw c.if-up.true (entry_is true c.args.k _ c.requires)

pub returns-else-up : goal.returns-else-up
unfolding entry whole round pack finish spare inexact size span climb
returns-else-up c = rw c.if-up.false (entry_is false c.args.k _ c.requires)
