use mathlib.Core.Path.{◌∙◌}
use lib.Dec.{lit≤}
use Rattle.exact.proofs.Ranges.{widen}
use Rattle.encounter.specs.Private.Loops.{narrow}
use Rattle.encounter.proofs.decimals.Searching.{entry_range, times_is, times_range, times_flat}
use Rattle.encounter.proofs.decimals.whole_at.Goals as goal

pub product-p-requires : goal.product-p-requires
product-p-requires c =
    (widen (lit≤ tt) c.requires.0, rw (c.from.ensures, c.power_of_ten.ensures) (widen (lit≤ tt) (entry_range _ c.args.k c.requires.2)))

pub whole_part-requires : goal.whole_part-requires
whole_part-requires c =
    let a = c.args in
    let x = narrow a.x in
    let e = times_is a.up x a.k (c.from.ensures ∙ c.power_of_ten.ensures) c.product-p.ensures.0 in
    (times_range a.up x a.k e c.requires.2 c.requires.0, times_flat a.up x a.k c.requires.1 e c.requires.3)

pub returns : goal.returns
returns c =
    let a = c.args in
    rw (← times_is a.up (narrow a.x) a.k (c.from.ensures ∙ c.power_of_ten.ensures) c.product-p.ensures.0) c.whole_part.ensures
