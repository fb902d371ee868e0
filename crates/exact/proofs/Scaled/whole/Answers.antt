use Rattle.std.proofs.Common.{◌≡◌, sym, false, ℕ, ◌+◌, ◌^◌, ◌<◌, arith}
use Rattle.std.proofs.Math.Nat.{mod-eq_of_lt}
use lib.Count.{count_leading_zeros}
use lib.Dec.{lit<}
use lib.Ieee.{size}
use Rattle.exact.proofs.Signed.{back}
use Rattle.exact.proofs.Bits.{leading_size, size_pos}
use Rattle.exact.proofs.Operations.{whole_none, whole_round, whole_normal, whole_exact}
use Rattle.exact.proofs.Scaled.whole.Goals as goal

module _ (n : ℕ) (some : n ≡ 0 → ⊥) (fits : n < 2 ^ 32) where
  np : 0 < n
  np = omega (arith, some)

  bits : size n + count_leading_zeros 32 n ≡ 32
  bits = omega (arith, leading_size 32 n np fits)

  few : count_leading_zeros 32 n < 32
  few = omega (arith, bits, size_pos n np)

pub returns-then-n-eq0 : goal.returns-then-n-eq0
returns-then-n-eq0 c = rw c.if-n-eq0.true (sym (whole_none false 32), rw (← whole_none false 32) (whole_exact false 32 0 (lit< tt) (lit< tt)))

pub negated-requires : goal.negated-requires
negated-requires c = omega (arith, few c.args.n c.if-n-eq0.false c.ranges.n.fits)

pub returns : goal.returns
returns c =
    let n = c.args.n in
    let some = c.if-n-eq0.false in
    let fits = c.ranges.n.fits in
    let e = bits n some fits in
    let w = whole_round false 32 n (count_leading_zeros 32 n) (lit< tt) (np n some fits) fits e in
    rw (back c.negated.result c.negated.type_inv, c.negated.ensures, mod-eq_of_lt (whole_normal 32 n (np n some fits) fits (count_leading_zeros 32 n) e).high)
    (sym w, rw (← w) (whole_exact false 32 n (lit< tt) fits))
