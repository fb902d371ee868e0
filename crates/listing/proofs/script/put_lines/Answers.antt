use mathlib.Core.Path.{sym, ◌∙◌}
use native.Mathlib.Omega.{arith}
use Rattle.listing.proofs.Lines.{going_on, going_stop}
use Rattle.listing.proofs.script.put_lines.Goals as goal

pub loop-piece-preserved : goal.loop-piece-preserved
loop-piece-preserved c =
    let r = c.take_record-taken in
    going_on _ _ _ _ _ _ _ _ r.result c.loop-piece.invariant c.loop-piece-test.true r.ensures.0 c.put_line.ensures (omega arith) (sym c.is_final.ensures ∙ c.if-is_final.false) r.ensures.1

pub returns-then-is_final : goal.returns-then-is_final
returns-then-is_final c =
    let r = c.take_record-taken in
    going_stop _ _ _ _ _ _ _ _ r.result c.loop-piece.invariant c.loop-piece-test.true r.ensures.0 c.put_line.ensures (omega arith) (sym c.is_final.ensures ∙ c.if-is_final.true) r.ensures.1
