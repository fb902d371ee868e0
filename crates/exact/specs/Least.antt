-- The least number for which a test is true: the power of request #103, the count of request #105, the order of request #106.
use Rattle.std.specs.Prelude.{Bool, cond, ℕ, zero, suc}

-- the least of 0, .., n − 1 for which f is true; n where there is none
unfoldable pub least : (ℕ → Bool) → ℕ → ℕ
least f zero = 0
least f (suc n) = cond (f 0) 0 (suc (least (λ k. f (suc k)) n))
