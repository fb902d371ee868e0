-- What a program hands over for standard output.
use Rattle.std.specs.Prelude.{◌≡◌, List, ℕ, length, IfOk, OnOk}
use Rattle.std.specs.Io.KnownBytes.{Appends}
use Rattle.std.specs.declared.option.Option.{Option}
use Rattle.std.specs.declared.result.Result.{Result}

-- As many bytes were handed over as are due, unless a write failed. Which bytes, and that they reach standard output, no contract over the system's write can say:
-- that is tested. Of a writer whose bytes are known, as a list in memory, `Appended` says it.
abbrev pub Handed : {E : Type 0} → List ℕ → Result ℕ E → Type 0
Handed due r = IfOk r (λ n. n ≡ length due)

-- those that are due came after the bytes that such a writer had before
abbrev pub Appended : {E : Type 0} → (before after : Option (List ℕ)) → List ℕ → Result ℕ E → Type 0
Appended before after due r = OnOk r (Appends before after due)
