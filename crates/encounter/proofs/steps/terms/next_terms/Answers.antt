use native.Mathlib.Numerals.{add-two}
use lib.Dec.{lit≤}
use Rattle.exact.specs.Steps.{next_p, next_v, next_y, next}
use Rattle.encounter.proofs.steps.TermRanges.{times, times_fine, over_fine, plus_over_fine, next_in}
use Rattle.encounter.proofs.steps.terms.next_terms.Goals as goal

pub product-hv-requires : goal.product-hv-requires
product-hv-requires g c =
    let K = g.met.A.Operations.keeps c.args.x in
    (K.more (lit≤ tt) c.requires.1.h, K.more (lit≤ tt) c.requires.2.v)

pub sum-requires : goal.sum-requires
sum-requires g c =
    let K = g.met.A.Operations.keeps c.args.x in
    let (n, i, k) = c.requires in
    rw (c.over_by.ensures, c.divisor-by.ensures.0) (K.more (lit≤ tt) (next_in K i k n c.next_term-c.ensures), over_fine K n (K.more (lit≤ tt) k.p))

pub product-p-requires : goal.product-p-requires
product-p-requires g c =
    let K = g.met.A.Operations.keeps c.args.x in
    let (n, i, k) = c.requires in
    rw (c.sum.ensures, c.over_by.ensures, c.divisor-by.ensures.0)
    (K.more (lit≤ tt) i.u, plus_over_fine K n (next_in K i k n c.next_term-c.ensures) (K.more (lit≤ tt) k.p))

pub over_by-requires-2 : goal.over_by-requires-2
over_by-requires-2 g c =
    let K = g.met.A.Operations.keeps c.args.x in
    (times_fine K c.product-hv.ensures c.requires.1.h c.requires.2.v, c.divisor-by.ensures.1)

pub sum-v-requires : goal.sum-v-requires
sum-v-requires g c =
    let K = g.met.A.Operations.keeps c.args.x in
    let (n, i, k) = c.requires in
    rw (c.over_by-2.ensures, c.product-hv.ensures, c.divisor-by.ensures.0)
    (K.more (lit≤ tt) (next_in K i k n c.next_term-c.ensures), over_fine K n (times K i.h k.v))

pub over_by-requires-3 : goal.over_by-requires-3
over_by-requires-3 g c =
    let K = g.met.A.Operations.keeps c.args.x in
    (times_fine K c.product-hy.ensures c.requires.1.h c.requires.2.y, c.divisor-by.ensures.1)

pub sum-y-requires : goal.sum-y-requires
sum-y-requires g c =
    let K = g.met.A.Operations.keeps c.args.x in
    let (n, i, k) = c.requires in
    rw (c.over_by-3.ensures, c.product-hy.ensures, c.sum-v.ensures, c.over_by-2.ensures, c.product-hv.ensures, c.divisor-by.ensures.0)
    (plus_over_fine K n (next_in K i k n c.next_term-c.ensures) (times K i.h k.v), over_fine K n (times K i.h k.y))

pub sum-requires-2 : goal.sum-requires-2
sum-requires-2 g c =
    let K = g.met.A.Operations.keeps c.args.x in
    let (n, i, k) = c.requires in
    (K.more (lit≤ tt) k.sum, K.more (lit≤ tt) (next_in K i k n c.next_term-c.ensures))

pub returns : goal.returns
unfolding next next_p next_v next_y
returns g c =
    rw (
      c.sum-2.ensures,
      c.sum-y.ensures,
      c.over_by-3.ensures,
      c.product-hy.ensures,
      c.sum-v.ensures,
      c.over_by-2.ensures,
      c.product-hv.ensures,
      c.product-p.ensures,
      c.sum.ensures,
      c.over_by.ensures,
      c.divisor-by.ensures.0,
      c.next_term-c.ensures,
      add-two,
    )
