use mathlib.Core.Path.{◌≡◌, sym, ◌∙◌}
use native.Mathlib.Omega.{arith}
use lib.IntN.{◌-ℤ◌}
use Rattle.std.proofs.lemmas.Int.{ints}
use Rattle.exact.proofs.Operations.{none}
use Rattle.exact.proofs.Order.{exponent_none, exponent_some}
use Rattle.encounter.specs.Private.Loops.{narrow}
use Rattle.encounter.proofs.arithmetic.Results.{read}
use Rattle.encounter.proofs.arithmetic.wide.moved.Goals as goal

pub returns-then-a-eq0 : goal.returns-then-a-eq0
returns-then-a-eq0 c = none c.requires.0.is_scaled c.if-a-eq0.true ∙ sym (exponent_none (narrow c.args.a) _ c.if-a-eq0.true)

pub returns : goal.returns
returns c =
    let e : read (read c.args.a.e -ℤ read c.args.k) ≡ c.args.a.e -ℤ c.args.k = omega (arith, ints) in
    rw e (sym (exponent_some (narrow c.args.a) _ c.if-a-eq0.false))
