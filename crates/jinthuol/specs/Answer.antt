-- An answer as programs in other languages get it.
use Rattle.std.specs.Prelude.{ℕ}
use Rattle.encounter.specs.declared.state.Answer.{Answer as WithClass}
use Rattle.encounter.specs.declared.state.Class.{Class}
use Rattle.encounter.specs.declared.state.Class.TheVariants.{Clear, Alert, Open}
use Rattle.jinthuol.specs.declared.Answer.{Answer}

-- the number of a class: 0 clear, 1 alert, 2 open
unfoldable pub class_number : Class → ℕ
class_number Clear = 0
class_number Alert = 1
class_number Open = 2

-- the answer, with its class as a number
unfoldable pub numbered : WithClass → Answer
numbered a = record { refusal = a.refusal; N = a.N; lower = a.lower; upper = a.upper; class = class_number a.class; object = a.object; time = a.time; exact = a.exact }
