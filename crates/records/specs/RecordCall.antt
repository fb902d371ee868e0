-- Document 01, 'Script records': the call of the record at a position of a script, with the position after it.
use Rattle.std.specs.Prelude.{cond, ◌||◌, List, ℕ, ◌+◌, get_or}
use Rattle.exact.specs.Records.{body_length}
use Rattle.exact.specs.Refusals.{refuses_1, refuses_2}
use Rattle.encounter.specs.declared.state.Session.{Session}
use Rattle.encounter.specs.Calls.{takes, call}
use Rattle.records.specs.declared.Taken.{Taken}

-- the position past a record; after refusal 1 or 2 the record's own, since the script ends there
unfoldable pub next_at : List ℕ → ℕ → ℕ
next_at l i = cond (refuses_1 l i || refuses_2 l i) i (i + 1 + body_length (get_or l i 0))

-- the call of the record at a position of a script
unfoldable pub record_call : List ℕ → ℕ → Session → Taken
record_call l i s = record { answer = (call (takes l i) s).answer; next = next_at l i; session = (call (takes l i) s).session }
