use Rattle.encounter.proofs.steps.NextLosses.{clean_terms_are, clean_losses_are}
use Rattle.encounter.proofs.steps.losses.side_step.Goals as goal

pub returns : goal.returns
returns c =
    let l = c.clean_letters-w.ensures in
    let s = c.clean_terms.ensures in (
      clean_terms_are c.args.up c.args.n l s c.next_terms-next.ensures c.term_numbers.ensures,
      clean_losses_are c.args.up c.args.n l s c.next_terms-next.ensures c.losses_at.ensures,
    )
