use lib.Dec.{lit≤}
use Rattle.exact.specs.Losses.{traced_letters}
use Rattle.exact.specs.Steps.{letters}
use Rattle.exact.proofs.Ranges.{widen}
use Rattle.encounter.proofs.steps.Tracing.{parts_fine, two_fine}
use Rattle.encounter.proofs.steps.Opening.{letters_fine}
use Rattle.encounter.proofs.steps.letters.letters.Goals as goal

pub product-requires : goal.product-requires
product-requires c = let i = parts_fine c.args.up c.requires c.fractions-f.ensures in (widen (lit≤ tt) i.0, widen (lit≤ tt) i.4)

pub product-requires-2 : goal.product-requires-2
product-requires-2 c = let i = parts_fine c.args.up c.requires c.fractions-f.ensures in (widen (lit≤ tt) i.2, widen (lit≤ tt) i.1)

pub product-requires-3 : goal.product-requires-3
product-requires-3 c = let i = parts_fine c.args.up c.requires c.fractions-f.ensures in (widen (lit≤ tt) i.3, widen (lit≤ tt) i.0)

pub sum-requires : goal.sum-requires
sum-requires c = let i = parts_fine c.args.up c.requires c.fractions-f.ensures in (widen (lit≤ tt) i.2, widen (lit≤ tt) i.3)

pub sum-requires-2 : goal.sum-requires-2
sum-requires-2 c =
    let i = parts_fine c.args.up c.requires c.fractions-f.ensures in
    (two_fine c.args.up _ _ c.sum.ensures i.2 i.3, widen (lit≤ tt) i.0)

pub returns : goal.returns
unfolding traced_letters letters
returns c =
    let e = c.fractions-f.ensures in
    letters_fine c.args.up c.args.E c.requires
    (rw (c.sum-2.ensures, c.sum.ensures, c.product-3.ensures, c.product-2.ensures, c.product.ensures, e.0, e.1, e.2, e.3, e.4))
