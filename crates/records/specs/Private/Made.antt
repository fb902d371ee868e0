-- What a record's call comes to where its body lies within the script. Private functions promise it.
use Rattle.std.specs.Prelude.{ℕ}
use Rattle.encounter.specs.declared.state.Called.{Called}
use Rattle.records.specs.declared.Taken.{Taken}

-- a record's call, from the call that it asks for
abbrev pub made_of : Called → ℕ → Taken
made_of c next = record { answer = c.answer; next = next; session = c.session }
