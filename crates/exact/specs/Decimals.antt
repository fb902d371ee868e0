-- Request #103 of document 02, 'Decimals for the controllers': a number as four significant digits and a power of ten. up is false for a lower end and true for
-- an upper.
use Rattle.std.specs.Prelude.{◌≡◌, Bool, true, false, cond, ℕ, suc, ◌+◌, ◌-◌, ◌/◌, ◌^◌, ◌≤◌, ◌<◌, ltb, eqb}
use Rattle.exact.specs.declared.Scaled.{Scaled}
use Rattle.exact.specs.declared.Decimal.{Decimal}
use Rattle.exact.specs.Fraction.{Frac, ◌≼◌, ◌⊕◌, ◌⊗◌, ◌over◌, whole, at_most, above}
use Rattle.exact.specs.Scaled.{value}
use Rattle.exact.specs.Least.{least}
use Rattle.exact.specs.Private.Round.{round}

-- "A table of 10^0 to 10^46": the number of its entries
abbrev pub table_length : ℕ
table_length = 47

-- "each as D and as U": D(10^k), or U(10^k) where up is true
unfoldable pub entry : Bool → ℕ → Scaled
entry up k = round up 32 (whole (10 ^ k))

-- "the end times the table's 10^k [..], rounding down throughout for the lower end and up for the upper"
unfoldable pub times_power : Bool → Scaled → ℕ → Scaled
times_power up x k = round up 32 (value x ⊗ value (entry up k))

-- whether that "is at least 1,000"
unfoldable pub reaches : Bool → Scaled → ℕ → Bool
reaches up x k = at_most (whole 1000) (value (times_power up x k))

-- "take the least k for which the end times the table's 10^k is at least 1,000"; 47 where the table has none
unfoldable pub least_power : Bool → Scaled → ℕ
least_power up x = least (reaches up x) table_length

-- the whole part
unfoldable pub floor : Frac → ℕ
floor q = q.num / q.den

-- "The lower digits are the whole part, or 9,999 where that is 10,000. The upper digits are the whole part plus one"
unfoldable pub digits_of : Bool → ℕ → ℕ
digits_of false w = cond (eqb w 10000) 9999 w
digits_of true w = suc w

-- the digits n at the power k: "d.ddd, then `e-` and k − 3"; "10,000 prints as 1.000 and 10,001 as 1.001, with the power one higher"
unfoldable pub at_power : (k n : ℕ) → Decimal
at_power k n = cond (ltb n 10000) (record { digits = n; power = k - 3 }) (record { digits = n - 9000; power = k - 4 })

-- "An end of 1 or more prints as 1.000e-00."
abbrev pub one_or_more : Decimal
one_or_more = record { digits = 1000; power = 0 }

-- 0.000e-00, and the least decimal above it, 1.000e-43
abbrev pub zero_decimal : Decimal
zero_decimal = record { digits = 0; power = 0 }

abbrev pub least_decimal : Decimal
least_decimal = record { digits = 1000; power = 43 }

-- A number for which the table has no k, which is below 10^-43 or next to it, and no end of an accepted read. Zero is 0.000e-00; another one is 0.000e-00 as a
-- lower end and 1.000e-43 as an upper.
unfoldable pub too_small : Bool → Scaled → Decimal
too_small false x = zero_decimal
too_small true x = cond (eqb x.m 0) zero_decimal least_decimal

-- whether x is below 1
unfoldable pub below_1 : Scaled → Bool
below_1 x = above (whole 1) (value x)

-- x in decimal
unfoldable pub decimal_of : Bool → Scaled → Decimal
decimal_of up x =
    let k = least_power up x in
    cond (below_1 x) (cond (ltb k table_length) (at_power k (digits_of up (floor (value (times_power up x k))))) (too_small up x)) one_or_more

-- ---- what is promised of a decimal

-- its value: d.ddd × 10^-power
unfoldable pub worth : Decimal → Frac
worth d = d.digits over (10 ^ (d.power + 3))

-- two in its last digit
unfoldable pub two_units : Decimal → Frac
two_units d = 2 over (10 ^ (d.power + 3))

-- what holds of any number x, where d is x in decimal
pub record Printed (up : Bool) (x : Scaled) (d : Decimal) : Type 0 where
  -- four digits, and a power of two digits
  pub few_digits : d.digits < 10000
  pub small_power : d.power ≤ 43
  -- "A printed lower end is never above its end"
  pub lower : up ≡ false → worth d ≼ value x
  -- "a printed upper end below 1 never below it"
  pub upper : up ≡ true → below_1 x ≡ true → value x ≼ worth d

-- the table has a power for x, where one is looked for
pub record Found (up : Bool) (x : Scaled) : Type 0 where
  pub found : below_1 x ≡ true → least_power up x < table_length

-- what holds besides where it has one, as for every end of an accepted read (claim `decimals`, encounter/specs/Claims.antt)
pub record Near (x : Scaled) (d : Decimal) : Type 0 where
  -- "four significant digits"
  pub significant : 1000 ≤ d.digits
  -- "each print of an end below 1 is off by at most two in the last digit"
  pub close : below_1 x ≡ true → (worth d ≼ value x ⊕ two_units d) × (value x ≼ worth d ⊕ two_units d)
