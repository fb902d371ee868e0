use lib.Dec.{lit≤}
use mathlib.Core.Bool.{true}
use Rattle.exact.specs.Arithmetic.{rounded}
use Rattle.exact.specs.Steps.{bound}
use Rattle.exact.proofs.Ranges.{widen}
use Rattle.encounter.proofs.arithmetic.Fitting.{sum_of, half_of}
use Rattle.encounter.proofs.arithmetic.Results.{number_of}
use Rattle.encounter.proofs.steps.letters.bound.Goals as goal

pub halved-requires : goal.halved-requires
halved-requires c = widen (lit≤ tt) c.requires.h

pub sum-a-requires : goal.sum-a-requires
sum-a-requires c = (widen (lit≤ tt) c.requires.u, widen (lit≤ tt) (half_of c.halved.ensures c.requires.h))

pub sum-b-requires : goal.sum-b-requires
sum-b-requires c =
    let a = sum_of true (number_of true _ _ c.sum-a.ensures) (widen (lit≤ tt) c.requires.u) (half_of c.halved.ensures c.requires.h) in
    (widen (lit≤ tt) a, widen (lit≤ tt) c.requires.X)

pub sum-requires : goal.sum-requires
sum-requires c =
    let a = sum_of true (number_of true _ _ c.sum-a.ensures) (widen (lit≤ tt) c.requires.u) (half_of c.halved.ensures c.requires.h) in
    let b = sum_of true (number_of true _ _ c.sum-b.ensures) a (widen (lit≤ tt) c.requires.X) in
    (widen (lit≤ tt) b, widen (lit≤ tt) c.requires.Y)

pub returns : goal.returns
unfolding bound rounded
returns c =
    rw (
      number_of true _ _ c.sum.ensures,
      number_of true _ _ c.sum-b.ensures,
      number_of true _ _ c.sum-a.ensures,
      c.halved.ensures,
    )
