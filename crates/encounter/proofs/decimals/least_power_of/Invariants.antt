use mathlib.Core.Path.{◌≡◌}
use mathlib.Core.Bool.{false}
use Prim.Native.Nat.{ℕ, ◌<◌}
use Rattle.exact.specs.Decimals.{reaches}
use Rattle.encounter.specs.Private.Loops.{narrow}
use Rattle.encounter.proofs.decimals.least_power_of.Given as goal

abbrev pub invariant-loop-k : goal.invariant-loop-k
invariant-loop-k w = (0 < w.k) × ((j : ℕ) → j < w.k → reaches w.up (narrow w.x) j ≡ false)
