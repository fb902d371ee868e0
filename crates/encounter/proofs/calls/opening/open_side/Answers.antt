use Rattle.encounter.proofs.steps.Opening.{letters_fine, start_fine, opens}
use Rattle.encounter.proofs.calls.opening.open_side.Goals as goal

pub first_terms-s-requires : goal.first_terms-s-requires
first_terms-s-requires c =
    ((letters_fine c.args.up c.args.E c.requires.0 c.requires.1).1.u, start_fine c.args.up c.args.E c.requires.0 c.start.ensures)

pub returns : goal.returns
returns c =
    opens c.args.up c.args.E c.requires.1 c.requires.2 c.start.ensures c.first_terms-s.ensures
    c.letter_numbers.ensures c.term_numbers.ensures c.losses_at.ensures
