use mathlib.Core.Path.{sym}
use native.Mathlib.Omega.{arith}
use Rattle.encounter.specs.Private.Loops.{narrow}
use Rattle.encounter.proofs.decimals.Searching.{below_one}
use Rattle.encounter.proofs.decimals.Cases.{whole_fine, digits_fine, found_is, none_is}
use Rattle.encounter.proofs.decimals.below_one.Goals as goal

pub digits-requires : goal.digits-requires
digits-requires c =
    let (l, k, w) = c.in-Some.ensures in
    let x = narrow c.args.x in
    whole_fine c.args.up x (below_one c.args.up x c.args.s c.requires) k l w

pub decimal_at-requires : goal.decimal_at-requires
decimal_at-requires c =
    let (l, k, w) = c.in-Some.ensures in
    let x = narrow c.args.x in
    digits_fine c.args.up x (below_one c.args.up x c.args.s c.requires) k l w c.digits.ensures

pub returns-in-Some : goal.returns-in-Some
returns-in-Some c =
    let (l, k, w) = c.in-Some.ensures in
    let x = narrow c.args.x in
    found_is c.args.up x (below_one c.args.up x c.args.s c.requires) k l w c.digits.ensures c.decimal_at.ensures

pub returns-in-None : goal.returns-in-None
returns-in-None c =
    let x = narrow c.args.x in
    none_is c.args.up x (below_one c.args.up x c.args.s c.requires) (sym c.in-None.ensures) (omega (arith, c.requires.bits.low)) (omega arith) c.below_the_table.ensures
