use mathlib.Core.Path.{◌≡◌}
use Prim.Native.Nat.{◌^◌}
use native.Mathlib.Omega.{arith}
use mir.Facts.{to_z-of_z}
use mir.Syntax.{w64}
use mir.Val.{to_z, of_z}
use borrow.Author.Rules.{rules}
use Rattle.exact.specs.declared.Scaled.{Scaled}
use Rattle.exact.specs.Private.Ranges.{InRange}
use Rattle.exact.proofs.Signed.{fits}
use Rattle.encounter.specs.Private.Loops.{narrow}
use Rattle.encounter.proofs.decimals.Cases.{with_promises, zero_is, one_is, tiny_is, same_is}
use Rattle.encounter.proofs.decimals.to_decimal.Goals as goal

-- an exponent in range, read back from its bits
read : {y : Scaled} → InRange 32 (2 ^ 32) y → to_z w64 (of_z w64 y.e) ≡ y.e
read {y} r = to_z-of_z {w = w64} (fits y.e (omega (arith, r.above)) (omega (arith, r.below)))

pub returns-then-x-eq0 : goal.returns-then-x-eq0
returns-then-x-eq0 c = let a = c.args in with_promises a.up a.x (zero_is a.up a.x c.if-x-eq0.true)

pub returns-then-n-lt32 : goal.returns-then-n-lt32
returns-then-n-lt32 c =
    let a = c.args in
    let y = c.normal-y in
    let n = y.ensures in
    with_promises a.up a.x (one_is a.up a.x (narrow y.result) c.below_point-n.result n.0 n.2 (rw (read n.1) at c.below_point-n.ensures) c.if-n-lt32.true)

pub returns-then-n-gt174 : goal.returns-then-n-gt174
returns-then-n-gt174 c =
    let a = c.args in
    let y = c.normal-y in
    let g = c.below_point-n in
    let n = y.ensures in
    with_promises a.up a.x (tiny_is a.up a.x (narrow y.result) g.result n.0 n.2 (rw (read n.1) at g.ensures) c.if-n-lt32.false c.if-n-gt174.true (search rules) c.below_the_table.ensures)

pub returns : goal.returns
returns c =
    let a = c.args in
    let y = c.normal-y in
    let g = c.below_point-n in
    let n = y.ensures in
    with_promises a.up a.x (same_is a.up a.x (narrow y.result) g.result n.0 n.2 (rw (read n.1) at g.ensures) (search rules) c.below_one.ensures)
