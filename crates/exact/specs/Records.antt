-- Document 01, 'Script records': the kinds of a record, their bodies, and what a record asks for; kind 4 by request #104 of document 02. "One byte of kind, then a
-- fixed body, numbers little-endian."
use Rattle.std.specs.Prelude.{Bool, cond, ◌||◌, List, ℕ, ◌+◌, ◌-◌, ◌*◌, ltb, eqb, ℤ, pos, negsuc, get_or}
use Rattle.exact.specs.declared.Encounter.{Encounter}
use Rattle.exact.specs.declared.Conjunction.{Conjunction}

-- kinds 1, 2 and 3; request #104: "Kind 4 joins the accepted kinds in refusal 1."
unfoldable pub is_kind : ℕ → Bool
is_kind kind = eqb kind 1 || (eqb kind 2 || (eqb kind 3 || eqb kind 4))

-- the bytes of a body: "Kind 1, begin: 20 bytes", "Kind 2, add: a 16-bit count of terms", "Kind 3, read: no body"; request #104: "A begin of kind 4 has the body of kind 1,
-- then an object number and a time of closest approach, both unsigned 32-bit"
unfoldable pub body_length : ℕ → ℕ
body_length kind = cond (eqb kind 1) 20 (cond (eqb kind 2) 2 (cond (eqb kind 4) 28 0))

-- "numbers little-endian"
abbrev pub u16_at : List ℕ → ℕ → ℕ
u16_at l i = get_or l i 0 + 256 * get_or l (i + 1) 0

abbrev pub u32_at : List ℕ → ℕ → ℕ
u32_at l i = u16_at l i + 65536 * u16_at l (i + 2)

-- "the misses are two's complement"
unfoldable pub signed : ℕ → ℤ
signed n = cond (ltb n 2147483648) (pos n) (negsuc (4294967295 - n))

-- "five 32-bit numbers R, sx, sy, xm, ym"
abbrev pub begin_at : List ℕ → ℕ → Encounter
begin_at l i = record { R = u32_at l i; sx = u32_at l (i + 4); sy = u32_at l (i + 8); xm = signed (u32_at l (i + 12)); ym = signed (u32_at l (i + 16)) }

-- request #104: "the body of kind 1, then an object number and a time of closest approach"
abbrev pub conjunction_at : List ℕ → ℕ → Conjunction
conjunction_at l i = record { encounter = begin_at l i; object = u32_at l (i + 20); time = u32_at l (i + 24) }

-- what a call asks for; `bad r` is a record that is refused as r, which is 1 or 2
pub data Request : Type 0 where
  begin : Encounter → Request
  begin_conjunction : Conjunction → Request
  add : ℕ → Request
  read : Request
  bad : ℕ → Request

-- what a record of one of the four kinds asks for, whose body has the bytes from i on
unfoldable pub request_of : (kind : ℕ) → List ℕ → ℕ → Request
request_of kind l i = cond (eqb kind 1) (begin (begin_at l i)) (cond (eqb kind 2) (add (u16_at l i)) (cond (eqb kind 3) read (begin_conjunction (conjunction_at l i))))
