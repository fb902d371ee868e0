-- The two parts of an integer, each a natural number, so that 2^z is 2^(pos_part z) / 2^(neg_part z).
use Rattle.std.specs.Prelude.{ℕ, suc, ℤ, pos, negsuc}

-- z where z is above 0, else 0
abbrev pub pos_part : ℤ → ℕ
pos_part (pos n) = n
pos_part (negsuc n) = 0

-- -z where z is below 0, else 0
abbrev pub neg_part : ℤ → ℕ
neg_part (pos n) = 0
neg_part (negsuc n) = suc n
