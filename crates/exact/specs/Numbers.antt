-- The limits that documents 01 and 02 set, each once. src/lib.rt has the same for code, but for the last, which code has as the scaled number U(1/10,000).
use Rattle.std.specs.Prelude.{ℕ}

-- centimetres: tests 3, 4 and 6
abbrev pub largest_length : ℕ
largest_length = 10000000

-- test 7
abbrev pub largest_t : ℕ
largest_t = 64

-- the terms of the rounded exponential: k to 255
abbrev pub exponential_cut : ℕ
exponential_cut = 256

-- test 22, by request #109 in place of 4,096; and test 11, of that request
abbrev pub largest_order : ℕ
largest_order = 1024

-- bytes: refusal 8
abbrev pub largest_script : ℕ
largest_script = 65536

-- test 10, of request #107: the lowest e of a number that is divided is minus this
abbrev pub lowest_exponent : ℕ
lowest_exponent = 1000000000

-- request #111: the days of a week, tested by 13, and the places of a day, tested by 24
abbrev pub days_a_week : ℕ
days_a_week = 7

abbrev pub places_a_day : ℕ
places_a_day = 8

-- the class: the threshold is 1 over this. Alert is at the threshold or above, clear is below it
abbrev pub threshold_odds : ℕ
threshold_odds = 10000
