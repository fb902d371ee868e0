-- Document 01, 'Script records': both tables of refusals, in their order, each test once, with tests 9, 11 and 12 of requests #104, #109 and #110 of document 02; then
-- tests 13 and 24 of request #111, of the week, and test 10 of request #107, of the division. A test is true where it refuses.
use Rattle.std.specs.Prelude.{◌≡◌, Bool, true, not, cond, ◌&&◌, ◌||◌, List, ℕ, ◌+◌, ◌^◌, ltb, leb, eqb, ℤ, nat_abs, length, get_or}
use Rattle.exact.specs.declared.Encounter.{Encounter}
use Rattle.exact.specs.declared.Conjunction.{Conjunction}
use Rattle.exact.specs.declared.Scaled.{Scaled}
use Rattle.exact.specs.Integer.{neg_part}
use Rattle.exact.specs.Fraction.{whole, ◌⊗◌, above}
use Rattle.exact.specs.Numbers.{largest_length, largest_t, largest_order, largest_script, lowest_exponent, days_a_week, places_a_day}
use Rattle.exact.specs.Scaled.{value}
use Rattle.exact.specs.Steps.{side_letters, M}
use Rattle.exact.specs.Records.{is_kind, body_length, Request, begin, begin_conjunction, add, read, bad, request_of}

-- ---- "From the input, tested in this order:"

-- 8: script file longer than 65,536 bytes (program only, before all else)
unfoldable pub refuses_8 : List ℕ → Bool
refuses_8 script = ltb largest_script (length script)

module _ (script : List ℕ) (position : ℕ) where
  -- 1: no kind byte, or kind is not 1, 2, 3 or 4; 4 by request #104
  unfoldable pub refuses_1 : Bool
  refuses_1 = leb (length script) position || not (is_kind (get_or script position 0))

  -- 2: body shorter than its kind needs
  unfoldable pub refuses_2 : Bool
  refuses_2 = ltb (length script) (position + 1 + body_length (get_or script position 0))

  -- what the record at a position of a script asks for
  unfoldable pub request_at : Request
  request_at = cond refuses_1 (bad 1) (cond refuses_2 (bad 2) (request_of (get_or script position 0) script (position + 1)))

-- 0 or above 10,000,000
unfoldable pub outside : ℕ → Bool
outside n = eqb n 0 || ltb largest_length n

-- outside −10,000,000 to 10,000,000
unfoldable pub miss_outside : ℤ → Bool
miss_outside z = ltb largest_length (nat_abs z)

-- 2M above n: tests 11 and 23
abbrev pub twice_M_above : Encounter → (n : ℕ) → Bool
twice_M_above E n = above (whole 2 ⊗ value (M E)) (whole n)

module _ (E : Encounter) where
  -- 3: R is 0 or above 10,000,000
  unfoldable pub refuses_3 : Bool
  refuses_3 = outside E.R

  -- 4: sx or sy is 0 or above 10,000,000
  unfoldable pub refuses_4 : Bool
  refuses_4 = outside E.sx || outside E.sy

  -- 5: sy above sx
  unfoldable pub refuses_5 : Bool
  refuses_5 = ltb E.sx E.sy

  -- 6: a miss outside −10,000,000 to 10,000,000
  unfoldable pub refuses_6 : Bool
  refuses_6 = miss_outside E.xm || miss_outside E.ym

  -- 7: upper t above 64
  unfoldable pub refuses_7 : Bool
  refuses_7 = above (value (side_letters true E).t) (whole largest_t)

  -- 11: begin: 2M above 1,026; by request #109, "after test 7 and before 9". 1,026 is N + 2 at the largest order: where 2M is above it, test 23 refuses a read at that
  -- order and at each smaller one
  unfoldable pub refuses_11 : Bool
  refuses_11 = twice_M_above E (largest_order + 2)

  -- the number of the first of tests 3 to 7 and 11 that refuses the encounter, or 0
  unfoldable pub begin_refusal : ℕ
  begin_refusal = cond refuses_3 3 (cond refuses_4 4 (cond refuses_5 5 (cond refuses_6 6 (cond refuses_7 7 (cond refuses_11 11 0)))))

-- 9: kind 4: object number is 0; by request #104
unfoldable pub refuses_9 : (object : ℕ) → Bool
refuses_9 object = eqb object 0

-- request #104: "as 9 after test 7", and after 11; earlier is the number that the tests before give
unfoldable pub test_9 : (earlier object : ℕ) → ℕ
test_9 earlier object = cond (eqb earlier 0) (cond (refuses_9 object) 9 0) earlier

-- 12: add: count is 0; by request #110, "after test 2 and before 21"
unfoldable pub refuses_12 : (count : ℕ) → Bool
refuses_12 count = eqb count 0

-- none of tests 3 to 7 and 11 refuses the encounter
pub record Accepted (E : Encounter) : Type 0 where
  pub passes : begin_refusal E ≡ 0

-- ---- "From the state, after 1 and 2:"

-- the state that these tests look at, told from the calls before: no encounter begun, or one with its object number and its time, at order N
pub data History : Type 0 where
  no_encounter : History
  encounter_at : Conjunction → ℕ → History

-- 21: add or read with no encounter begun; rest E N is the number that the tests after it give
abbrev pub test_21 : History → (Encounter → ℕ → ℕ) → ℕ
test_21 no_encounter rest = 21
test_21 (encounter_at C N) rest = rest C.encounter N

-- 22: add: N + count above 1,024; by request #109, in place of 4,096
unfoldable pub refuses_22 : (N count : ℕ) → Bool
refuses_22 N count = ltb largest_order (N + count)

-- 23: read: 2M above N + 2
unfoldable pub refuses_23 : Encounter → (N : ℕ) → Bool
refuses_23 E N = twice_M_above E (N + 2)

-- the number under which a request is refused, or 0 where no test written for it refuses it
unfoldable pub refusal : History → Request → ℕ
refusal w (begin E) = begin_refusal E
refusal w (begin_conjunction C) = test_9 (begin_refusal C.encounter) C.object
refusal w (add count) = cond (refuses_12 count) 12 (test_21 w (λ E N. cond (refuses_22 N count) 22 0))
refusal w read = test_21 w (λ E N. cond (refuses_23 E N) 23 0)
refusal w (bad r) = r

-- ---- request #111: "A bracket enters the week only through a read of a session, into the next empty place of the day named."

-- 13: enter: day number above 6; by request #111, "before the read's own tests". The days are 0 to 6
unfoldable pub refuses_13 : (day : ℕ) → Bool
refuses_13 day = leb days_a_week day

-- 24: enter: a ninth bracket for a day; by request #111, "after those tests". The places are 0 to 7; place is the next empty one, or 8 where the day has none
unfoldable pub refuses_24 : (place : ℕ) → Bool
refuses_24 place = leb places_a_day place

-- earlier is the number that the read's tests give
unfoldable pub test_24 : (earlier place : ℕ) → ℕ
test_24 earlier place = cond (eqb earlier 0) (cond (refuses_24 place) 24 0) earlier

-- the number under which an entry is refused, or 0: 13, the read's 21 and 23, 24
unfoldable pub entry_refusal : History → (day place : ℕ) → ℕ
entry_refusal w day place = cond (refuses_13 day) 13 (test_24 (refusal w read) place)

-- ---- request #107: "It refuses, as 10 and with zero as the result, a divisor of 0, a number not in the scaled form, or one whose e is below −1,000,000,000."

-- document 01, 'Scaled numbers': "The unsigned m is at least 2^31 and below 2^32", and "Zero has m = 0 and e = 0 and no other form." It is true just where IsScaled 32
-- holds (claim `form`, division/specs/Claims.antt)
unfoldable pub scaled_form : Scaled → Bool
scaled_form x = cond (eqb x.m 0) (eqb (nat_abs x.e) 0) (leb (2 ^ 31) x.m && ltb x.m (2 ^ 32))

-- 10: divide: divisor 0, number not in the scaled form, or e below −1,000,000,000
unfoldable pub refuses_10 : Scaled → (divisor : ℕ) → Bool
refuses_10 x divisor = eqb divisor 0 || not (scaled_form x) || ltb lowest_exponent (neg_part x.e)
