-- The version of the functions that programs in other languages call.
use Rattle.std.specs.Prelude.{ℕ}

-- one more with each landing that changes a struct or a function of bindings/c/jinthuol.h, or what a function answers
abbrev pub version : ℕ
version = 11
