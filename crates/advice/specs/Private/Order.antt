-- The entry of the table of orders, computed.
use Rattle.std.specs.Prelude.{Bool, ◌&&◌, ℕ, suc, ◌+◌, ◌*◌, ◌^◌, ◌≤◌, ◌<◌, leb, Option, Some, None}
use Rattle.exact.specs.Least.{least}
use Rattle.exact.specs.Numbers.{largest_order}
use Rattle.exact.specs.Series.{factorial}
use Rattle.advice.specs.Orders.{largest_M, tail_odds, Least}

-- whether both conditions of Orders.antt hold, the second multiplied out; f is (N + 1)!
unfoldable pub is_enough : (M N f : ℕ) → Bool
is_enough M N f = leb (2 * M) (N + 2) && leb (2 * M ^ N * tail_odds) f

-- the least order for which both hold: claim `entries`, Claims.antt
unfoldable pub order_for : ℕ → ℕ
order_for M = least (λ N. is_enough M N (factorial (suc N))) largest_order

-- what each case says of a whole M
abbrev pub IsEntry : ℕ → Option ℕ → Type 0
IsEntry M (Some N) = (M ≤ largest_M) × Least M N
IsEntry M None = largest_M < M
