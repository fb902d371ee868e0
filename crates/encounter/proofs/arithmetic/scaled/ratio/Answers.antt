use mathlib.Core.Path.{◌≡◌}
use Prim.Native.Nat.{◌+◌}
use native.Mathlib.Omega.{arith}
use lib.Dec.{lit<, lit≤}
use lib.IntN.{pos, ◌-ℤ◌}
use lib.Ieee.Digits.{size-le}
use mir.Syntax.{w64}
use mir.Val.{to_z}
use Rattle.std.proofs.lemmas.Int.{ints}
use Rattle.exact.specs.Fraction.{◌over◌}
use Rattle.exact.specs.Arithmetic.{rounding}
use Rattle.exact.proofs.Rounding.{lost_nought}
use Rattle.exact.proofs.Operations.{ratio_none}
use Rattle.exact.proofs.Ranges.{widen}
use Rattle.encounter.specs.Private.Loops.{Rounds}
use Rattle.encounter.proofs.arithmetic.Fitting.{ratio_of}
use Rattle.encounter.proofs.arithmetic.Results.{read, fitted_rounds, traced_is}
use Rattle.encounter.proofs.arithmetic.LongDivision.{filled, full, divides}
use Rattle.encounter.proofs.arithmetic.WholeParts.{whole_le}
use Rattle.encounter.proofs.arithmetic.scaled.ratio.Goals as goal

pub returns-then-n-eq0 : goal.returns-then-n-eq0
unfolding rounding
returns-then-n-eq0 c =
    let e = ratio_none c.args.up 32 c.args.n c.args.d c.if-n-eq0.true in
    rw (e, lost_nought c.args.up 32 _ (lit< tt) e)

pub overflow_sub-s : goal.overflow_sub-s
overflow_sub-s c = omega (arith, c.bits-s.ensures, size-le c.args.d 48 c.requires.1)

pub followed-k-requires : goal.followed-k-requires
followed-k-requires c =
    let f = filled c.args.d 48 c.requires.2 c.requires.1 in
    (omega arith, rw c.bits-s.ensures (omega (arith, f.high)))

pub room-t-requires : goal.room-t-requires
room-t-requires c =
    let f = full c.args.n c.args.d _ 0 _ c.requires.2 c.requires.1 c.bits-s.ensures c.followed-k.ensures in
    (omega (arith, c.if-n-eq0.false), c.requires.0, f.0, f.1)

pub overflow_add-s : goal.overflow_add-s
overflow_add-s c = record { fits = omega (arith, c.bits-s.ensures, size-le c.args.d 48 c.requires.1, c.room-t.ensures.0) }

pub overflow_cast-s : goal.overflow_cast-s
overflow_cast-s c = let l = size-le c.args.d 48 c.requires.1 in omega (arith, ints, c.bits-s.ensures, c.room-t.ensures.0)

pub overflow_sub-s-2 : goal.overflow_sub-s-2
overflow_sub-s-2 c = let l = size-le c.args.d 48 c.requires.1 in omega (arith, ints, c.bits-s.ensures, c.room-t.ensures.0)

pub long_division-requires : goal.long_division-requires
long_division-requires c =
    ((full c.args.n c.args.d _ 0 _ c.requires.2 c.requires.1 c.bits-s.ensures c.followed-k.ensures).1, c.room-t.ensures.0, c.room-t.ensures.2)

pub fit-requires : goal.fit-requires
fit-requires c =
    let l = size-le c.args.d 48 c.requires.1 in
    let r = c.room-t.ensures in
    let f = full c.args.n c.args.d _ 0 _ c.requires.2 c.requires.1 c.bits-s.ensures c.followed-k.ensures in (
      omega (arith, whole_le _ _ _ 4294967296 _ (omega (arith, f)) (omega (arith, r)) c.long_division.ensures.0),
      omega (arith, ints, c.bits-s.ensures, r.0),
    )

rounds : (c : goal.After-fit) → Rounds c.args.up (c.args.n over c.args.d) c.fit.result
rounds c =
    let l = size-le c.args.d 48 c.requires.1 in
    let r = c.room-t.ensures in
    let e : read (pos 32 -ℤ to_z w64 (c.bits-s.result + c.room-t.result)) ≡ pos 32 -ℤ pos (c.bits-s.result + c.room-t.result) = omega (arith, ints, c.bits-s.ensures, r.0) in
    let q = divides c.args.n c.args.d _ _ _ c.requires.2 c.requires.1 c.bits-s.ensures c.followed-k.ensures c.args.up r.1 in
    fitted_rounds (rw e at c.fit.ensures) q.0 c.long_division.ensures q.1

pub narrowed-requires : goal.narrowed-requires
narrowed-requires c = widen (lit≤ tt) (ratio_of c.args.up c.args.n c.args.d (rounds c).0 c.requires.0 c.requires.1 c.requires.2)

pub returns : goal.returns
returns c = traced_is _ _ (rounds c.before) c.narrowed.ensures
