use mathlib.Core.Path.{◌≡◌, refl, sym, ◌∙◌, ap}
use mathlib.Core.Bool.{Bool, true, false, not}
use Prim.Native.Nat.{◌+◌}
use Rattle.std.proofs.lemmas.Result.{err_from_is_err_and}
use Rattle.exact.specs.Fraction.{whole, ◌⊗◌, at_most, above}
use Rattle.exact.specs.Scaled.{value}
use Rattle.exact.specs.declared.Encounter.{Encounter}
use Rattle.exact.specs.Numbers.{largest_t, largest_order}
use Rattle.exact.specs.declared.Scaled.{Scaled}
use Rattle.exact.specs.declared.Traced.{Traced}
use Rattle.exact.specs.Arithmetic.{rounded}
use Rattle.exact.specs.Losses.{letter_numbers, traced_letters}
use Rattle.exact.specs.Steps.{LettersOf, side_letters, bound, M}
use Rattle.exact.specs.Refusals.{refuses_7, refuses_11}
use Rattle.exact.specs.Private.Ranges.{tests_3_to_6}
use Rattle.exact.proofs.Growth.{bound_in}
use Rattle.exact.proofs.Exponents.{in_range}
use Rattle.exact.proofs.Losses.{letters_number}
use Rattle.encounter.specs.declared.state.Letters.{Letters}
use Rattle.encounter.specs.declared.steps.numbers.LetterSet.{LetterSet}
use Rattle.encounter.specs.declared.state.Session.{Session}
use Rattle.encounter.specs.Session.{state, counted}
use Rattle.encounter.specs.Private.Held.{held_letters, step_letters, set_letters}
use Rattle.encounter.proofs.steps.Opening.{numbers_fine, bound_is}
use Rattle.encounter.proofs.calls.Answering.{begin_early, begin_7, begin_11, begin_taken, passed_bounds, accepted, positive}
use borrow.Author.Rules.{rules}
use Rattle.encounter.proofs.calls.begun.Goals as goal

-- the upper t, without what was lost on its way
upper-t : (E : Encounter) {l : LetterSet Traced} → set_letters l ≡ traced_letters true E → l.t.number ≡ (side_letters true E).t
upper-t E e = ap (λ (l : LettersOf Traced). l.t.number) e ∙ ap (λ (l : LettersOf Scaled). l.t) (letters_number true E)

-- tests 7 and 11, as the code makes them
module _ (E : Encounter) {r x : Bool} (k : r ≡ x) where
  test-7 : {l : LetterSet Traced} → set_letters l ≡ traced_letters true E → r ≡ at_most (value l.t.number) (whole largest_t) → refuses_7 E ≡ not x
  unfolding refuses_7 above
  test-7 {l} e g =
      let same : at_most (value l.t.number) (whole largest_t) ≡ at_most (value (side_letters true E).t) (whole largest_t) = rw (upper-t E e) in
      ap not (sym same ∙ sym g ∙ k)

  test-11 : {m : Scaled} → m ≡ M E → r ≡ at_most (whole 2 ⊗ value m) (whole (largest_order + 2)) → refuses_11 E ≡ not x
  unfolding refuses_11 above
  test-11 {m} e g =
      let same : at_most (whole 2 ⊗ value m) (whole (largest_order + 2)) ≡ at_most (whole 2 ⊗ value (M E)) (whole (largest_order + 2)) = rw e in
      ap not (sym same ∙ sym g ∙ k)

-- the encounter passes tests 3 to 7, and m is its M
record Formed (E : Encounter) (m : Scaled) : Type 0 where
  inputs : tests_3_to_6 E 0 ≡ 0
  t-passes : refuses_7 E ≡ false
  M_is : m ≡ M E

formed : (E : Encounter) {l : LetterSet Traced} {ln : Letters} {m : Scaled} {r : Bool} → 0 ≡ tests_3_to_6 E 0
    → set_letters l ≡ traced_letters true E → r ≡ at_most (value l.t.number) (whole largest_t) → r ≡ true
    → ln ≡ held_letters (letter_numbers (set_letters l)) → m ≡ bound (rounded true 32) (step_letters ln) → Formed E m
formed E en el et t eln em = record { inputs = sym en; t-passes = test-7 E t el et; M_is = bound_is E el eln em }

pub returns-in_err-test_inputs : goal.returns-in_err-test_inputs
returns-in_err-test_inputs c =
    let p = err_from_is_err_and c.from_residual.result c.from_residual.ensures.1 in
    rw (p.1, p.2) (λ s. begin_early c.args.E s (c.in_err-test_inputs.ensures) (positive c.in_err-test_inputs.field-0.0) refl)

pub letters-above-requires : goal.letters-above-requires
letters-above-requires c = passed_bounds c.args.E (sym (c.in_ok-test_inputs.ensures))

pub returns-then-not-passes_test_7 : goal.returns-then-not-passes_test_7
returns-then-not-passes_test_7 c = λ s.
    begin_7 c.args.E s (sym (c.in_ok-test_inputs.ensures)) (test-7 c.args.E c.if-not-passes_test_7.true c.letters-above.ensures.0 c.passes_test_7.ensures) refl

pub letters-below-requires : goal.letters-below-requires
letters-below-requires c = passed_bounds c.args.E (sym (c.in_ok-test_inputs.ensures))

pub passes_test_11-requires : goal.passes_test_11-requires
passes_test_11-requires c = rw c.bound-M.ensures (bound_in (in_range true) _ (numbers_fine c.letter_numbers.ensures (search rules)))

pub returns-then-not-passes_test_11 : goal.returns-then-not-passes_test_11
returns-then-not-passes_test_11 c =
    let f = formed c.args.E (c.in_ok-test_inputs.ensures) c.letters-above.ensures.0 c.passes_test_7.ensures c.if-not-passes_test_7.false c.letter_numbers.ensures c.bound-M.ensures in
    let b = test-11 c.args.E c.if-not-passes_test_11.true f.M_is c.passes_test_11.ensures in
    λ s. begin_11 c.args.E s f.inputs f.t-passes b refl

pub opened-requires : goal.opened-requires
opened-requires c =
    let f = formed c.args.E (c.in_ok-test_inputs.ensures) c.letters-above.ensures.0 c.passes_test_7.ensures c.if-not-passes_test_7.false c.letter_numbers.ensures c.bound-M.ensures in
    (accepted c.args.E f.inputs f.t-passes (test-11 c.args.E c.if-not-passes_test_11.false f.M_is c.passes_test_11.ensures), c.letters-below.ensures.0, c.letters-above.ensures.0, f.M_is)

pub returns : goal.returns
unfolding state
returns c =
    let f = formed c.args.E (c.in_ok-test_inputs.ensures) c.letters-above.ensures.0 c.passes_test_7.ensures c.if-not-passes_test_7.false c.letter_numbers.ensures c.bound-M.ensures in
    let b = test-11 c.args.E c.if-not-passes_test_11.false f.M_is c.passes_test_11.ensures in
    λ s. begin_taken c.args.E s f.inputs f.t-passes b (ap (λ (t : Session). counted t.N) c.opened.ensures) c.opened.ensures
