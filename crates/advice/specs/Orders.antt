-- Request #106 of document 02, the table of orders: "The entry is the least N with 2M ≤ N + 2 and 2 × M^N/(N+1)! ≤ 2^-32".
use Rattle.std.specs.Prelude.{List, ℕ, suc, ◌+◌, ◌-◌, ◌*◌, ◌^◌, ◌≤◌, get_or}
use Rattle.exact.specs.Fraction.{◌≼◌, ◌over◌}
use Rattle.exact.specs.Series.{factorial}

-- "one for each whole M from 1 to 256"
abbrev pub largest_M : ℕ
largest_M = 256

-- 2^-32 is 1 over this
abbrev pub tail_odds : ℕ
tail_odds = 2 ^ 32

-- both conditions; by the first a read passes test 23
pub record Enough (M N : ℕ) : Type 0 where
  pub passes : 2 * M ≤ N + 2
  pub small : (2 * M ^ N) over factorial (suc N) ≼ 1 over tail_odds

-- "the least N"
pub record Least (M N : ℕ) : Type 0 where
  pub enough : Enough M N
  pub least : (n : ℕ) → Enough M n → N ≤ n

-- the table: the entry for M stands at M − 1
pub record Orders (table : List ℕ) : Type 0 where
  pub entry : (M : ℕ) → 1 ≤ M → M ≤ largest_M → Least M (get_or table (M - 1) 0)
