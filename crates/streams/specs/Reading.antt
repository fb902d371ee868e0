-- "It reads the script from standard input": what reading came to. That the bytes are those of standard input, no contract over the system's read can say: that is
-- tested. Of an input whose bytes are known, as a list in memory, it is said.
use Rattle.std.specs.Prelude.{◌≡◌, List, ℕ, ◌≤◌, ◌<◌, length, take, IfOk}
use Rattle.std.specs.Io.KnownBytes.{Consumes, IsAtEnd}
use Rattle.std.specs.declared.option.Option.{Option}
use Rattle.std.specs.declared.result.Result.{Result}
use Rattle.exact.specs.Numbers.{largest_script}

-- the bytes that were read lie within the buffer
abbrev pub ReadInto : {E : Type 0} → List ℕ → Result ℕ E → Type 0
ReadInto buffer r = IfOk r (λ n. n ≤ length buffer)

-- so many bytes lie within the buffer, and where they fill it, so that more may follow, they are too many for a script
abbrev pub ScriptIn : {E : Type 0} → List ℕ → Result ℕ E → Type 0
ScriptIn buffer r = IfOk r (λ n. (n ≤ length buffer) × (n ≡ length buffer → largest_script < n))

-- the bytes that were read are the next ones of an input whose bytes are known; there are none only at its end or where the buffer has no room
abbrev pub NextBytes : {E : Type 0} → (before after : Option (List ℕ)) → List ℕ → Result ℕ E → Type 0
NextBytes before after buffer r = IfOk r (λ n. Consumes before after (take n buffer) × (n ≡ 0 → 0 < length buffer → IsAtEnd after))

-- they are the next bytes of such an input, and all of them where they leave room in the buffer
abbrev pub AllBytes : {E : Type 0} → (before after : Option (List ℕ)) → List ℕ → Result ℕ E → Type 0
AllBytes before after buffer r = IfOk r (λ n. Consumes before after (take n buffer) × (n < length buffer → IsAtEnd after))
