use Rattle.jinthuol.proofs.Running.{run_piece}
use Rattle.jinthuol.proofs.jinthuol_run.Goals as goal

pub returns : goal.returns
returns c = run_piece _ _ _ c.put_lines-piece.result c.if-script-gt-LARGEST_SCRIPT.false (rw c.empty.ensures.value.0 at c.put_lines-piece.ensures)
