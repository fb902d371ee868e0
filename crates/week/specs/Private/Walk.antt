-- The ends of a week as code gathers them, bracket by bracket, by the sum and the greater that take any numbers. proofs/Walking.antt shows that they are `week_ends` of every
-- week from these calls.
use Rattle.std.specs.Prelude.{true}
use Rattle.exact.specs.Scaled.{nought}
use Rattle.encounter.specs.Sums.{sum_in_limits, greater_in_limits}
use Rattle.week.specs.declared.Ends.{Ends}

abbrev pub no_ends : Ends
no_ends = record { lower = nought; upper = nought }

-- a held bracket's ends beside those so far
abbrev pub with_bracket : Ends → Ends → Ends
with_bracket e b = record { lower = greater_in_limits e.lower b.lower; upper = sum_in_limits true e.upper b.upper }
