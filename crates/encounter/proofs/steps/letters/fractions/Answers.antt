use native.Mathlib.Omega.{arith}
use Rattle.exact.specs.Series.{square, u, b, zx, zy, g}
use Rattle.exact.proofs.Signed.{back}
use Rattle.encounter.proofs.steps.letters.fractions.Goals as goal

pub returns : goal.returns
unfolding square u b zx zy g
returns c = (
  c.squares.ensures,
  c.squares-2.ensures,
  rw (c.squares-3.ensures, c.unsigned_abs.ensures.value, back c.args.E.xm (omega (arith, c.requires.xm_max))),
  rw (c.squares-4.ensures, c.unsigned_abs-2.ensures.value, back c.args.E.ym (omega (arith, c.requires.ym_max))),
  c.excess.ensures,
)
