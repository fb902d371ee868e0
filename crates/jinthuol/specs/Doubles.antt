-- Ends as doubles, and the record that the plotting tool stores, as programs in other languages get them: request #108 of document 02.
use Rattle.std.specs.Prelude.{false, cond, ℕ, eqb, pos, Float, Option, Some, None, Result, Ok, Err}
use Rattle.std.specs.Float.{fin}
use Rattle.exact.specs.declared.refusals.Refusal.{Refusal}
use Rattle.exact.specs.Kinds.{number_of}
use Rattle.host.specs.declared.Doubles.{Doubles as WithCases}
use Rattle.host.specs.declared.Doubles.TheVariants.{Both, Unbounded}
use Rattle.host.specs.declared.PlotRecord.{PlotRecord}
use Rattle.exact.specs.Kinds.{refusal_of}
use Rattle.jinthuol.specs.declared.Doubles.{Doubles}
use Rattle.jinthuol.specs.declared.Plotted.{Plotted}

-- 0, for a double that is not there
abbrev pub no_double : Float
no_double = fin false 0 (pos 0)

-- the refusal's number, or 0; the tag, which is how many ends there are: 0 refused, 1 unbounded, 2 both; the ends
unfoldable pub doubles_numbers : Result WithCases Refusal → Doubles
doubles_numbers (Ok (Both lower upper)) = record { refusal = 0; tag = 2; lower = lower; upper = upper }
doubles_numbers (Ok (Unbounded lower)) = record { refusal = 0; tag = 1; lower = lower; upper = no_double }
doubles_numbers (Err e) = record { refusal = number_of e; tag = 0; lower = no_double; upper = no_double }

-- the case that the numbers tell
unfoldable pub doubles_told : Doubles → Result WithCases Refusal
doubles_told d = cond (eqb d.tag 2) (Ok (Both d.lower d.upper)) (cond (eqb d.tag 1) (Ok (Unbounded d.lower)) (Err (refusal_of d.refusal)))

-- no record
abbrev pub no_record : (refusal tag : ℕ) → Plotted
no_record refusal tag = record { refusal = refusal; tag = tag; plot = record { object = 0; lower = no_double; upper = no_double; difference = no_double } }

-- the refusal's number, or 0; the tag, as above; the record, where both ends are there
unfoldable pub plotted_numbers : Result (Option PlotRecord) Refusal → Plotted
plotted_numbers (Ok (Some p)) = record { refusal = 0; tag = 2; plot = p }
plotted_numbers (Ok None) = no_record 0 1
plotted_numbers (Err e) = no_record (number_of e) 0

-- the case that the numbers tell
unfoldable pub plotted_told : Plotted → Result (Option PlotRecord) Refusal
plotted_told p = cond (eqb p.tag 2) (Ok (Some p.plot)) (cond (eqb p.tag 1) (Ok None) (Err (refusal_of p.refusal)))
