use Prim.Native.Nat.{ℕ}
use mathlib.Core.Path.{◌∙◌, ap}
use mathlib.Core.List.{List, ◌++◌}
use native.Mathlib.Omega.{arith}
use lib.ListN.{length}
use Rattle.listing.specs.Line.{line}
use Rattle.listing.proofs.Lengths.{line_short, answer_range}
use Rattle.listing.proofs.Putting.{put_over}
use Rattle.listing.proofs.put_line.Goals as goal

pub record-requires : goal.record-requires
record-requires c =
    let r = answer_range c.args.a _ c.well_formed.1.1.1.1.0 in
    rw c.new-line.ensures (omega (arith, line_short c.args.offset c.args.kind c.args.a c.ranges.offset.fits r))

pub returns : goal.returns
returns c =
    let text = line c.args.offset c.args.kind c.args.a in
    let is = c.as_bytes-text.ensures.value ∙ c.record.ensures ∙ ap (λ (l : List ℕ). l ++ text) c.new-line.ensures in
    let e = ap length is in
    rw (c.copy_from_slice.ensures.after, is)
    (record { full = λ h. absurd (omega arith); written = λ h. put_over c.args.out.now c.args.at text (omega arith); short = omega arith })
