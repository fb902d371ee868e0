use mir.Facts.{to_z-of_z}
use Rattle.exact.proofs.Packing.{scaled_high}
use Rattle.exact.proofs.Ranges.{in_fits}
use Rattle.encounter.specs.Private.Loops.{narrow}
use Rattle.encounter.proofs.decimals.Wholes.{part, no_part}
use Rattle.encounter.proofs.decimals.whole_part.Goals as goal

pub returns-else-n-lt64 : goal.returns-else-n-lt64
returns-else-n-lt64 c =
    no_part (narrow c.args.p) c.below_point-n.result c.requires.1 (rw (to_z-of_z (in_fits c.requires.0)) at c.below_point-n.ensures) (scaled_high c.requires.0.is_scaled) c.if-n-lt64.false

pub returns-then-n-lt64 : goal.returns-then-n-lt64
returns-then-n-lt64 c =
    part (narrow c.args.p) c.below_point-n.result c.requires.1 (rw (to_z-of_z (in_fits c.requires.0)) at c.below_point-n.ensures)
