-- No division by a whole number in the steps is refused as 10: beside each number of the steps, its test passes, and the number is the side's own.
use mathlib.Core.Path.{◌≡◌, refl}
use mathlib.Core.Bool.{Bool, true, false, ◌||◌}
use Prim.Native.Nat.{ℕ, ◌+◌, ◌*◌, ◌^◌, ◌≤◌}
use native.Mathlib.Nat.{le_trans}
use native.Mathlib.Omega.{arith}
use lib.Dec.{lit<}
use Rattle.exact.specs.declared.Encounter.{Encounter}
use Rattle.exact.specs.declared.Scaled.{Scaled}
use Rattle.exact.specs.Numbers.{exponential_cut, largest_order}
use Rattle.exact.specs.Scaled.{one}
use Rattle.exact.specs.Private.Ranges.{InRange, LettersAll}
use Rattle.exact.specs.Arithmetic.{rounded}
use Rattle.exact.specs.Steps.{start, side_letters, side_start, side_terms, side_powers, M, d}
use Rattle.exact.specs.Refusals.{Accepted}
use Rattle.exact.proofs.Accepted.{facts}
use Rattle.exact.proofs.Exponents.{in_range, one_in}
use Rattle.exact.proofs.Growth.{Keeps, letters_in, start_in, terms_in, bound_in, tail_in, powers_in}
use Rattle.exact.proofs.Parallel.{Within, CloseLetters, letters_close, start_close, terms_close, bound_close, tail_close, powers_close}
use Rattle.exact.proofs.Ranges.{widen}
use Rattle.division.specs.Tested.{Tested, tested, passed, passed_terms, passed_powers, tested_letters, tested_terms, tested_powers, tested_d}
use Rattle.division.specs.Claims.{NeverMet}
use Rattle.division.proofs.Refusing.{in_range_passes}

-- the numbers are the side's
numbers : (up : Bool) → Within (tested up) (rounded up 32) (λ w x x'. x.number ≡ x')
unfolding tested
numbers up = record {
  fraction = λ q. refl;
  more = λ l h. h;
  sum = λ h k. λ i. (rounded up 32).sum (h i) (k i);
  product = λ h k. λ i. (rounded up 32).product (h i) (k i);
  quotient = λ n h. λ i. (rounded up 32).quotient (h i) n;
  half = λ h. λ i. (rounded up 32).half (h i);
}

-- exponents within B, and no division on the way refused where B is at most 2^28
record Fine (B : ℕ) (x : Tested) : Type 0 where
  range : InRange 32 B x.number
  passes : B ≤ 2 ^ 28 → x.refused ≡ false

neither_is : {a b : Bool} → a ≡ false → b ≡ false → (a || b) ≡ false
neither_is h k = rw (h, k)

fine : (up : Bool) → Keeps (tested up) Fine
unfolding tested
fine up = record {
  more = λ l h. record { range = widen l h.range; passes = λ k. h.passes (le_trans l k) };
  fraction = λ n d nl dl dp. record { range = (in_range up).fraction n d nl dl dp; passes = λ k. refl };
  sum = λ h g. record { range = (in_range up).sum h.range g.range; passes = λ k. neither_is (h.passes (omega (arith, k))) (g.passes (omega (arith, k))) };
  product = λ h g. record { range = (in_range up).product h.range g.range; passes = λ k. neither_is (h.passes (omega (arith, k))) (g.passes (omega (arith, k))) };
  quotient = λ n p l h. record {
    range = (in_range up).quotient n p l h.range;
    passes = λ k. neither_is (h.passes (omega (arith, k))) (in_range_passes _ (omega (arith, p)) (widen (omega (arith, k)) h.range));
  };
  half = λ h. record { range = (in_range up).half h.range; passes = λ k. neither_is (h.passes (omega (arith, k))) (in_range_passes _ (lit< tt) (widen (omega (arith, k)) h.range)) };
}

both : {B : ℕ} {x : Tested} {y : Scaled} → B ≤ 2 ^ 28 → Fine B x → x.number ≡ y → x ≡ passed y
both l f e = let r = f.passes l in λ i. record { number = e i; refused = r i }

module _ (E : Encounter) (a : Accepted E) where
  module _ (up : Bool) where
    letters_same : CloseLetters (numbers up) (tested_letters up E) (side_letters up E)
    unfolding tested_letters side_letters
    letters_same = letters_close (numbers up) E

    start_same : (start (tested up) E).number ≡ side_start up E
    unfolding side_start
    start_same = start_close (numbers up) E

    letters_fine : LettersAll Fine (tested_letters up E)
    unfolding tested_letters
    letters_fine = letters_in (fine up) (facts a).bounds

    start_fine : Fine 177 (start (tested up) E)
    start_fine = start_in (fine up) (facts a).bounds

    one_fine : Fine 400 (passed one)
    one_fine = record { range = one_in; passes = λ k. refl }

    terms_passed : (n : ℕ) → n ≤ largest_order → tested_terms up E n ≡ passed_terms (side_terms up E n)
    unfolding tested_terms side_terms
    terms_passed n l =
        let b : 700 * n + 400 ≤ 2 ^ 28 = omega (arith, l) in
        let s = terms_close (numbers up) _ _ letters_same start_same n in
        let f = terms_in (fine up) _ letters_fine start_fine n l in
        let c = both b f.c s.c in
        let p = both b f.p s.p in
        let v = both b f.v s.v in
        let y = both b f.y s.y in
        let t = both b f.sum s.sum in
        λ i. record { c = c i; p = p i; v = v i; y = y i; sum = t i }

    powers_passed : (k : ℕ) → k ≤ exponential_cut → tested_powers up E k ≡ passed_powers (side_powers up E k)
    unfolding tested_powers side_powers
    powers_passed k l =
        let s = powers_close (numbers up) (passed one) (tested_letters up E).t one (side_letters up E).t refl letters_same.t k in
        let f = powers_in (fine up) (passed one) (tested_letters up E).t one_fine letters_fine.t k (omega (arith, l)) in
        let b : 700 * k + 400 ≤ 2 ^ 28 = omega (arith, l) in
        let r = both b f.r s.r in
        let t = both b f.sum s.sum in
        λ i. record { r = r i; sum = t i }

  d_passed : (n : ℕ) → n ≤ largest_order → tested_d E n ≡ passed (d E n)
  unfolding tested_d d M
  d_passed n l =
      let b : 700 * n + 400 ≤ 2 ^ 28 = omega (arith, l) in
      both b (tail_in (fine true) (start_fine true) (bound_in (fine true) _ (letters_fine true)) n l)
      (tail_close (numbers true) (start_same true) (bound_close (numbers true) _ _ (letters_same true)) n)

  pub never_met : NeverMet E
  never_met = record { terms = terms_passed; tail = d_passed; exponential = powers_passed }
