-- What a begin forms, and that it is the session at order 1.
use mathlib.Core.Path.{◌≡◌, sym, ◌∙◌, ap, subst}
use mathlib.Core.Bool.{Bool, true, false, cond, not, ◌||◌, not-not}
use Prim.Native.Nat.{ℕ}
use Rattle.std.specs.Int.{from_bool}
use Rattle.exact.specs.declared.Scaled.{Scaled}
use Rattle.exact.specs.declared.Traced.{Traced}
use Rattle.exact.specs.Arithmetic.{rounded, traced}
use Rattle.exact.specs.Losses.{letter_numbers, term_numbers, traced_letters, traced_terms, term_lost, operand_lost, either_lost, exact_terms, lossless}
use Rattle.exact.specs.Private.Ranges.{InRange, Bounds, LettersIn}
use Rattle.exact.specs.declared.Encounter.{Encounter}
use Rattle.exact.specs.Refusals.{Accepted}
use Rattle.exact.specs.Steps.{LettersOf, start, first, terms, next_d, tail_term, bound, side_letters, side_start, side_terms, exponential_sum, r256, M, d}
use Rattle.exact.proofs.Growth.{letters_in, start_in}
use Rattle.exact.proofs.Exponents.{in_range}
use Rattle.exact.proofs.Losses.{letters_number, start_number, terms_number, first_exact}
use Rattle.encounter.specs.declared.state.Letters.{Letters}
use Rattle.encounter.specs.declared.state.Side.{Side}
use Rattle.encounter.specs.declared.state.Terms.{Terms}
use Rattle.encounter.specs.declared.steps.losses.Losses.{Losses}
use Rattle.encounter.specs.declared.steps.numbers.LetterSet.{LetterSet}
use Rattle.encounter.specs.declared.steps.numbers.TermSet.{TermSet}
use Rattle.encounter.specs.Session.{state, no_object, side}
use Rattle.encounter.specs.Private.Held.{held_letters, step_letters, held_terms, set_letters, set_terms, HasT}

-- ---- the letters and c(0), as they are formed with their losses

module _ (up : Bool) (E : Encounter) where
  -- their numbers are the side's
  letters_are : {l : LetterSet Traced} → set_letters l ≡ traced_letters up E → letter_numbers (set_letters l) ≡ side_letters up E
  letters_are e = ap letter_numbers e ∙ letters_number up E

  -- with the ranges of these
  pub letters_fine : {l : LetterSet Traced} → Bounds E → set_letters l ≡ traced_letters up E → (set_letters l ≡ traced_letters up E) × LettersIn (letter_numbers (set_letters l))
  unfolding side_letters
  letters_fine f e = (e, subst LettersIn (sym (letters_are e)) (letters_in (in_range up) f))

  pub start_fine : {c : Traced} → Bounds E → c ≡ start (traced up 32) E → InRange 32 177 c.number
  unfolding side_start
  start_fine f e = rw (e, start_number up E) (start_in (in_range up) f)

-- both t, as the exponential takes them
pub t_are : (E : Encounter) {lo hi : LetterSet Traced} → Accepted E → set_letters lo ≡ traced_letters false E → set_letters hi ≡ traced_letters true E → HasT E lo.t.number hi.t.number
t_are E a el eh = (a, ap (λ (l : LettersOf Scaled). l.t) (letters_are false E el), ap (λ (l : LettersOf Scaled). l.t) (letters_are true E eh))

-- ---- a side at order 1

-- x is the side, with its losses
abbrev pub Opened : Bool → Encounter → Side → Losses → Type 0
Opened up E x r = (x ≡ side up E 1) × (r.term ≡ term_lost up E 0) × (r.operand ≡ operand_lost (traced_letters up E) (traced_terms up E 0))

module _ (up : Bool) (E : Encounter) where
  terms_at : {l : LetterSet Traced} {c : Traced} {s : TermSet Traced} → set_letters l ≡ traced_letters up E → c ≡ start (traced up 32) E → set_terms s ≡ first (traced up 32) (set_letters l) c
      → set_terms s ≡ traced_terms up E 0
  unfolding traced_terms terms
  terms_at el ec es = es ∙ (λ i. first (traced up 32) (el i) (ec i))

  pub opens : {l : LetterSet Traced} {c : Traced} {s : TermSet Traced} {ln : Letters} {sn : Terms} {x : Scaled} {r : Losses}
      → set_letters l ≡ traced_letters up E → x ≡ exponential_sum up E → c ≡ start (traced up 32) E → set_terms s ≡ first (traced up 32) (set_letters l) c
      → ln ≡ held_letters (letter_numbers (set_letters l)) → sn ≡ held_terms (term_numbers (set_terms s))
      → (r.term ≡ (set_terms s).c.lost) × (r.operand ≡ operand_lost (set_letters l) (set_terms s))
      → Opened up E (record { letters = ln; exponential = x; terms = sn }) r
  unfolding side term_lost
  opens el ex ec es eln esn er =
      let t = terms_at el ec es in
      let a = eln ∙ ap held_letters (letters_are up E el) in
      let b = esn ∙ ap held_terms (ap term_numbers t ∙ terms_number up E 0) in (
        (λ i. record { letters = a i; exponential = ex i; terms = b i }),
        er.0 ∙ (λ i. (t i).c.lost),
        er.1 ∙ (λ i. operand_lost (el i) (t i)),
      )

-- ---- M and d(1)

-- letters without their losses
pub numbers_fine : {x : LettersOf Scaled} {ln : Letters} → ln ≡ held_letters x → LettersIn x → LettersIn (step_letters ln)
numbers_fine e i = rw e i

-- from the upper letters
module _ (E : Encounter) {l : LetterSet Traced} (e : set_letters l ≡ traced_letters true E) {ln : Letters} (eln : ln ≡ held_letters (letter_numbers (set_letters l))) where
  numbers_are : step_letters ln ≡ side_letters true E
  numbers_are = ap step_letters eln ∙ letters_are true E e

  pub bound_is : {m : Scaled} → m ≡ bound (rounded true 32) (step_letters ln) → m ≡ M E
  unfolding M
  bound_is em = em ∙ ap (bound (rounded true 32)) numbers_are

-- from the upper side at order 1
module _ (E : Encounter) {hi : Side} (eh : hi ≡ side true E 1) where
  start_is : hi.terms.c ≡ side_start true E
  unfolding side side_terms terms first
  start_is = ap (λ (x : Side). x.terms.c) eh

  pub side_start_fine : Bounds E → InRange 32 177 hi.terms.c
  unfolding side_start
  side_start_fine f = rw start_is (start_in (in_range true) f)

  tail_is : {m x : Scaled} → m ≡ M E → x ≡ next_d (rounded true 32) m 0 hi.terms.c → x ≡ d E 1
  unfolding d tail_term
  tail_is em ex = rw (ex, em, start_is)

-- ---- the count of exact terms and the losses

pub none_lost : (b : Bool) {n : ℕ} → n ≡ from_bool (not b) → n ≡ cond b 0 1
none_lost true e = e
none_lost false e = e

pub opposite : (b : Bool) {o : Bool} {n : ℕ} → n ≡ from_bool (not o) → o ≡ not b → n ≡ cond b 1 0
opposite true f e = rw e at f
opposite false f e = rw e at f

-- on either side
pub either_are : (E : Encounter) {lo hi : Side} {l₀ l₁ l : Losses} → Opened false E lo l₀ → Opened true E hi l₁
    → (l.term ≡ (l₀.term || l₁.term)) × (l.operand ≡ (l₀.operand || l₁.operand))
    → (l.term ≡ either_lost E 0) × (l.operand ≡ not (lossless E 1))
unfolding either_lost lossless
either_are E a b e = (rw (e.0, a.1, b.1), rw (e.1, a.2, b.2) (sym (not-not _)))

-- ---- the session

pub opened_is : (E : Encounter) {lo hi : Side} {r : Losses} {m q x : Scaled} {n k : ℕ}
    → lo ≡ side false E 1 → hi ≡ side true E 1 → (r.term ≡ either_lost E 0) × (r.operand ≡ not (lossless E 1)) → q ≡ r256 E
    → m ≡ M E → x ≡ next_d (rounded true 32) m 0 hi.terms.c
    → n ≡ from_bool (not r.term) → k ≡ from_bool (not r.operand)
    → record { encounter = E; object = 0; time = 0; N = 1; lower = lo; upper = hi; r256 = q; M = m; d = x; exact = n; lossless = k } ≡ state (no_object E) 1
unfolding state
opened_is E {n = n} el eh er eq em ex en ek =
    let g = tail_is E eh em ex in
    let c : n ≡ exact_terms E 1 = rw (none_lost _ en, er.0, first_exact E) in
    let l = opposite (lossless E 1) ek er.1 in
    λ i. record { encounter = E; object = 0; time = 0; N = 1; lower = el i; upper = eh i; r256 = eq i; M = em i; d = g i; exact = c i; lossless = l i }
