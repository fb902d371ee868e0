use mathlib.Core.Path.{◌∙◌}
use native.Mathlib.Omega.{arith}
use lib.Pow.{pow_pos}
use Rattle.encounter.proofs.arithmetic.Shift.{same_quotient, same_rest, left_over}
use Rattle.encounter.proofs.arithmetic.WholeParts.{quotient_after, whole_down}
use Rattle.encounter.proofs.arithmetic.wide.shifted.Goals as goal

pub returns-then-up : goal.returns-then-up
returns-then-up c =
    let s = c.min-s.ensures in (
      rw (s, c.if-up.true, ← same_quotient c.args.y c.args.g (omega (arith, c.requires.1)), ← same_rest c.args.y c.args.g (omega (arith, c.requires.1)))
          (quotient_after c.args.y _ (pow_pos _) c.requires.0),
      rw (c.followed.ensures, s) (left_over c.args.y _ ∙ rw (same_rest c.args.y c.args.g (omega (arith, c.requires.1)))),
    )

pub returns : goal.returns
returns c =
    let s = c.min-s.ensures in (
      rw (s, c.if-up.false, whole_down) (same_quotient c.args.y c.args.g (omega (arith, c.requires.1))),
      rw (c.followed.ensures, s) (left_over c.args.y _ ∙ rw (same_rest c.args.y c.args.g (omega (arith, c.requires.1)))),
    )
