-- Request #103: both ends of an accepted read in decimal.
use mathlib.Core.Bool.{Bool, true, false}
use Prim.Native.Nat.{◌^◌}
use Rattle.exact.specs.declared.Scaled.{Scaled}
use Rattle.exact.specs.Fraction.{◌≼◌, ◌⊗◌, whole}
use Rattle.exact.specs.Scaled.{value}
use Rattle.exact.specs.Decimals.{decimal_of}
use Rattle.exact.proofs.Decimals.{found_from, printed, near}
use Rattle.exact.proofs.SmallestEnd.{lower_end_least, upper_end_least}
use Rattle.encounter.specs.declared.state.Session.{Session}
use Rattle.encounter.specs.Session.{lower_decimal, upper_decimal, bracket}
use Rattle.encounter.specs.Calls.{reads, call}
use Rattle.encounter.specs.Claims.{Readable, PrintedEnd}
use Rattle.encounter.proofs.calls.AcceptedReads.{read_of}

of_end : (up : Bool) (x : Scaled) → whole 8 ≼ value x ⊗ whole (10 ^ 43) → PrintedEnd up x (decimal_of up x)
of_end up x h = let f = found_from up x h in record { found = f; printed = printed up x; near = near up x f }

pub decimals :
    {s : Session} →
    Readable s →
    PrintedEnd false (call reads s).answer.lower (lower_decimal (call reads s).answer) × PrintedEnd true (call reads s).answer.upper (upper_decimal (call reads s).answer)
unfolding bracket lower_decimal upper_decimal
decimals {s} r =
    let f = read_of r in
    rw f.is (of_end false _ (lower_end_least f.fine s.N), of_end true _ (upper_end_least f.fine s.N f.low f.passes))
