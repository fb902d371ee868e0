-- The two arrays are the table of the rule: what is read at a place is the rounding of its power of ten. One computation over all entries of a direction.
use mathlib.Core.Path.{◌≡◌}
use mathlib.Core.Bool.{Bool}
use mathlib.Core.List.{List}
use Prim.Native.Nat.{ℕ, ◌<◌}
use lib.ListN.{get_or}
use Rattle.exact.specs.declared.Scaled.{Scaled}
use Rattle.exact.specs.Decimals.{table_length, entry}
use Rattle.exact.proofs.Tables.{table, at}

abbrev pub entries : Bool → List Scaled
entries up = table (entry up) table_length

pub entry_is : (up : Bool) (k : ℕ) (other : Scaled) → k < table_length → get_or (entries up) k other ≡ entry up k
entry_is up k other l = at (entry up) table_length other k l
