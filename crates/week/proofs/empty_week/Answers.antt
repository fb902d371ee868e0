use mathlib.Core.Path.{refl}
use Rattle.week.specs.Told.{nothing_told, from_empty}
use Rattle.week.proofs.empty_week.Goals as goal

pub returns : goal.returns
returns c = (refl, record { told = nothing_told; came = from_empty })
