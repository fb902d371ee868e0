use Rattle.std.proofs.Common.{[], ◌++◌, take, ap, ◌∙◌}
use Rattle.std.proofs.KnownBytes.{Appends-nil, Appends-trans}
use Rattle.screen.specs.Printing.{printed_from}
use Rattle.screen.proofs.Pieces.{going_start, going_on, start_is, bytes_on}
use Rattle.screen.proofs.run.Goals as goal

pub loop-done-init : goal.loop-done-init
loop-done-init g c =
    let e = c.empty-session.ensures.value in
    (going_start _ _ e.0 e.1, [], Appends-nil _, ap (printed_from c.args.script.now 0) e.0 ∙ start_is _)

pub loop-done-preserved : goal.loop-done-preserved
loop-done-preserved g c =
    let (z, bs, w, e) = c.loop-done.invariant in
    let p = c.put_piece-piece in
    let ended = c.if-piece.false in (
      going_on _ _ _ _ _ p.result z p.ensures ended,
      bs ++ take p.result.used p.new.out,
      Appends-trans _ _ _ _ _ w c.in_ok-write_all.ensures.bytes,
      bytes_on _ _ _ _ _ p.result z p.ensures bs e ended,
    )
