-- (n+1)(n+2), which c(n+1) is divided by.
use mathlib.Core.Path.{◌≡◌}
use Prim.Native.Nat.{ℕ, suc, ◌+◌, ◌*◌, ◌^◌, ◌<◌}
use native.Mathlib.Nat.{mul-le-mul}
use native.Mathlib.Omega.{arith}
use Rattle.exact.specs.Numbers.{largest_order}

pub divisor : (n : ℕ) → (n + 1) * (n + 2) ≡ suc n * suc (suc n)
divisor n = omega arith

pub divisor_low : (n : ℕ) → 0 < (n + 1) * (n + 2)
divisor_low n = omega arith

pub divisor_max : (n : ℕ) → n < largest_order → (n + 1) * (n + 2) < 2 ^ 32
divisor_max n h = omega (arith, mul-le-mul {n₁ = n + 1} {m₁ = n + 2} {n₂ = largest_order} {m₂ = suc largest_order} (omega arith) (omega arith))
