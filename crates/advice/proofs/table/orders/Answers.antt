use mathlib.Core.Path.{refl}
use Rattle.exact.specs.Series.{factorial}
use Rattle.advice.specs.Private.Order.{is_enough}
use Rattle.advice.proofs.Test.{is_entry, every, tested_table}
use Rattle.advice.proofs.Advising.{claims}
use Rattle.advice.proofs.table.orders.Goals as goal

pub returns : goal.returns
unfolding is_enough is_entry every factorial
returns c = let o = tested_table _ refl refl in record { orders = o; claims = claims o }
