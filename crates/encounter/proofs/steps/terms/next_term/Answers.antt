use lib.Dec.{lit≤}
use Rattle.exact.specs.Steps.{next_c}
use Rattle.encounter.proofs.steps.Divisors.{divisor, divisor_low, divisor_max}
use Rattle.encounter.proofs.steps.TermRanges.{times, times_fine, two, three, four}
use Rattle.encounter.proofs.steps.terms.next_term.Goals as goal

pub half-requires : goal.half-requires
half-requires g c =
    let K = g.met.A.Operations.keeps c.args.x in
    let (_, i, k, e) = c.requires in
    times_fine K e i.h k.v

pub sum-a-requires : goal.sum-a-requires
sum-a-requires g c =
    let K = g.met.A.Operations.keeps c.args.x in
    let (_, i, k, e) = c.requires in
    rw (c.half.ensures, e) (K.more (lit≤ tt) k.p, K.more (lit≤ tt) (K.half (times K i.h k.v)))

pub sum-b-requires : goal.sum-b-requires
sum-b-requires g c =
    let K = g.met.A.Operations.keeps c.args.x in
    let (_, i, k, e) = c.requires in
    rw (c.product.ensures, c.sum-a.ensures, c.half.ensures, e) (K.more (lit≤ tt) (two K i k), K.more (lit≤ tt) (times K i.X k.y))

pub sum-all-requires : goal.sum-all-requires
sum-all-requires g c =
    let K = g.met.A.Operations.keeps c.args.x in
    let (_, i, k, e) = c.requires in
    rw (c.product-2.ensures, c.sum-b.ensures, c.product.ensures, c.sum-a.ensures, c.half.ensures, e) (K.more (lit≤ tt) (three K i k), K.more (lit≤ tt) (times K i.Y k.c))

pub over-requires : goal.over-requires
over-requires g c =
    let K = g.met.A.Operations.keeps c.args.x in
    let (n, i, k, e) = c.requires in
    rw (c.sum-all.ensures, c.product-2.ensures, c.sum-b.ensures, c.product.ensures, c.sum-a.ensures, c.half.ensures, e)
    (K.more (lit≤ tt) (four K i k), divisor_low c.args.n, divisor_max c.args.n n)

pub returns : goal.returns
unfolding next_c
returns g c =
    rw (
      c.over.ensures,
      c.sum-all.ensures,
      c.product-2.ensures,
      c.sum-b.ensures,
      c.product.ensures,
      c.sum-a.ensures,
      c.half.ensures,
      divisor c.args.n,
      c.requires.3,
    )
