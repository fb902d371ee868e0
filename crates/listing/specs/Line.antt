-- Document 01, 'What the program prints': the text of one line, as bytes.
use Rattle.std.specs.Prelude.{ℕ, zero, suc, ◌+◌, ◌/◌, ◌%◌, Bool, cond, ◌||◌, List, [], ◌∷◌, ◌++◌, ltb, eqb, ℤ, pos, negsuc}
use Prim.Native.Char.{code}
use Prim.Native.String.{String, [] as none, ◌∷◌ as ◌then◌}
use Rattle.exact.specs.declared.Scaled.{Scaled}
use Rattle.exact.specs.declared.Decimal.{Decimal}
use Rattle.encounter.specs.declared.state.Class.{Class}
use Rattle.encounter.specs.declared.state.Class.TheVariants.{Clear, Alert, Open}
use Rattle.encounter.specs.declared.state.Answer.{Answer}
use Rattle.encounter.specs.Session.{lower_decimal, upper_decimal}

-- the bytes of a text, all of whose characters are ASCII
abbrev pub ascii : String → List ℕ
ascii none = []
ascii (c then s) = code c ∷ ascii s

-- the last decimal digit of n
abbrev pub last_digit : ℕ → ℕ
last_digit n = 48 + n % 10

-- "All numbers are decimal without leading zeros": where n is below 10, its digit; otherwise the digits of n / 10 and then that of n % 10. k is to be
-- at least the number of digits, which n + 1 is
unfoldable pub decimal_digits : ℕ → ℕ → List ℕ
decimal_digits zero n = []
decimal_digits (suc k) n = cond (ltb n 10) [] (decimal_digits k (n / 10)) ++ (last_digit n ∷ [])

unfoldable pub number_text : ℕ → List ℕ
number_text n = decimal_digits (suc n) n

-- "a negative e has a minus sign before it"
unfoldable pub integer : ℤ → List ℕ
integer (pos n) = number_text n
integer (negsuc n) = ascii "-" ++ number_text (suc n)

-- "m and e"
unfoldable pub scaled_text : Scaled → List ℕ
scaled_text x = number_text x.m ++ ascii " " ++ integer x.e

-- "`alert` or `clear`", and by request #101 "`open`, printed in the class field"
unfoldable pub class_text : Class → List ℕ
class_text Clear = ascii "clear"
class_text Alert = ascii "alert"
class_text Open = ascii "open"

-- "`ml el mh eh class` (m and e of both ends, then `alert` or `clear`)", or `open`
unfoldable pub ends_and_class : Answer → List ℕ
ends_and_class a = scaled_text a.lower ++ ascii " " ++ scaled_text a.upper ++ ascii " " ++ class_text a.class

-- request #103: "d.ddd, then `e-` and k − 3 in two decimal digits"
unfoldable pub decimal_text : Decimal → List ℕ
decimal_text d =
    (last_digit (d.digits / 1000) ∷ ascii ".") ++ (last_digit (d.digits / 100) ∷ last_digit (d.digits / 10) ∷ last_digit d.digits ∷ ascii "e-") ++
    (last_digit (d.power / 10) ∷ last_digit d.power ∷ [])

-- request #103: "each end as four significant digits and a power of ten", the lower end and then the upper
unfoldable pub ends_in_decimal : Answer → List ℕ
ends_in_decimal a = decimal_text (lower_decimal a) ++ ascii " " ++ decimal_text (upper_decimal a)

-- request #104: "a read answers both", the object number and then the time
unfoldable pub object_and_time : Answer → List ℕ
object_and_time a = number_text a.object ++ ascii " " ++ number_text a.time

-- request #103: "Anything a ticket adds to the read line or to a read's answer is printed at the line's end, in ticket order." The last is the count of request #105.
unfoldable pub added_fields : Answer → List ℕ
added_fields a = ends_in_decimal a ++ ascii " " ++ object_and_time a ++ ascii " " ++ number_text a.exact

-- "`read N ml el mh eh class`", and what requests add
unfoldable pub read_text : Answer → List ℕ
read_text a = ascii "read " ++ number_text a.N ++ ascii " " ++ ends_and_class a ++ ascii " " ++ added_fields a

-- the kinds of a begin: 1, and by request #104 kind 4
unfoldable pub is_begin : ℕ → Bool
is_begin kind = eqb kind 1 || eqb kind 4

-- "`begun 1`, `added N` (the order after the add), [..] or `read N ml el mh eh class`": by the kind byte, that of a begin, 2 of an add and any other of a
-- read
unfoldable pub taken_text : ℕ → Answer → List ℕ
taken_text kind a = cond (is_begin kind) (ascii "begun 1") (cond (eqb kind 2) (ascii "added " ++ number_text a.N) (read_text a))

-- "`refused r`" where the record was refused
unfoldable pub outcome_text : ℕ → Answer → List ℕ
outcome_text kind a = cond (eqb a.refusal 0) (taken_text kind a) (ascii "refused " ++ number_text a.refusal)

-- "One line a record: decimal offset of its kind byte, then `begun 1`, `added N` (the order after the add), `refused r`, or `read N ml el mh eh class`"
unfoldable pub line : (offset kind : ℕ) → Answer → List ℕ
line offset kind a = number_text offset ++ ascii " " ++ outcome_text kind a ++ ascii "\n"

-- the bytes that put_line asks for, from the line's first index on, whatever the line; no line has more
abbrev pub room : ℕ
room = 150
