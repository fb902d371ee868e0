use mathlib.Core.Path.{◌≡◌, ◌∙◌}
use Rattle.std.proofs.lemmas.Result.{err_from_is_err_and}
use Rattle.exact.specs.declared.refusals.Refusal.TheVariants.{ShortBody}
use Rattle.records.proofs.Requests.{short_body, whole_body}
use Rattle.records.proofs.record_at.Goals as goal

pub returns-in_err-body : goal.returns-in_err-body
returns-in_err-body c =
    let p = err_from_is_err_and c.from_residual-in_err-body.result c.from_residual-in_err-body.ensures.1 in
    let b = rw c.in_ok-byte.ensures.ok_part at c.get.ensures.lookup in
    let m = rw c.in_err-body.ensures.ok_part at c.get-2.ensures.lookup in
    let v = rw c.in_err-body.ensures.ok_part at c.in_err-body.ensures.value in
    let e : c.in_err-body.field-0.0 ≡ ShortBody = cc v in
    rw (p.1, p.2, e) (short_body c.args.script.now c.args.at c.in_ok-kind.kind _ (c.in_ok-kind.ensures ∙ b.3.1 0) b.3.0 c.body_length.ensures m.0)

pub returns : goal.returns
returns c =
    let b = rw c.in_ok-byte.ensures.ok_part at c.get.ensures.lookup in
    let m = rw c.in_ok-body.ensures.ok_part at c.get-2.ensures.lookup in
    whole_body c.args.script.now c.args.at c.in_ok-kind.kind _ (c.in_ok-kind.ensures ∙ b.3.1 0) b.3.0 c.body_length.ensures _ m.0.2 m.0.3 m.0.1
