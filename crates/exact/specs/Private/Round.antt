-- D and U of Scaled.antt, computed. Nobody has to believe it: proofs/Rounding.antt shows that `round` is the one solution of `IsRound`, which the claims of crate
-- encounter promise.
use Rattle.std.specs.Prelude.{Bool, true, false, cond, ◌&&◌, ◌||◌, ℕ, zero, suc, ◌+◌, ◌-◌, ◌*◌, ◌/◌, ◌%◌, ◌^◌, ltb, eqb, ℤ, pos, ◌+ℤ◌}
use Rattle.std.proofs.Math.IntN.{sub_ℕ}
use Rattle.std.specs.Float.Ieee.{size}
use Rattle.exact.specs.declared.Scaled.{Scaled}
use Rattle.exact.specs.Fraction.{Frac}

-- m × 2^e, or where on is true the next scaled number above it: past 2^32 - 1 comes 2^31 with the next e
unfoldable pub finish : ℕ → ℕ → ℤ → Bool → Scaled
finish bits m e false = record { m = m; e = e }
finish bits m e true = cond (eqb (suc m) (2 ^ bits)) (record { m = 2 ^ bits / 2; e = e +ℤ pos 1 }) (record { m = suc m; e = e })

-- how many bits n has past the highest ones that are kept
unfoldable pub spare : ℕ → ℕ → ℕ
spare bits n = size n - bits

-- whether something positive is dropped: a bit of n past the highest ones, or, where s is true, something below n already
unfoldable pub inexact : ℕ → ℕ → Bool → Bool
inexact bits n s = s || ltb 0 (n % 2 ^ spare bits n)

-- n × 2^e and, where s is true, a positive rest below 2^e, rounded: for n with as many bits as are kept or more, or 0 with no rest
unfoldable pub pack : Bool → ℕ → ℕ → ℤ → Bool → Scaled
pack up bits zero e s = record { m = 0; e = pos 0 }
pack up bits (suc n) e s = finish bits (suc n / 2 ^ spare bits (suc n)) (e +ℤ pos (spare bits (suc n))) (up && inexact bits (suc n) s)

-- num × 2^k / (den × 2^j) has the bits wanted, or one more, before the point, for j the bits of num and k those of den and the bits wanted
unfoldable pub round : Bool → ℕ → Frac → Scaled
round up bits q =
    let j = size q.num in
    let k = bits + size q.den in
    pack up bits (q.num * 2 ^ k / (q.den * 2 ^ j)) (sub_ℕ j k) (ltb 0 (q.num * 2 ^ k % (q.den * 2 ^ j)))
