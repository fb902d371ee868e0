-- An encounter's next terms and their losses, where nothing was lost before.
use mathlib.Core.Path.{◌≡◌, sym, ◌∙◌, ap, subst}
use mathlib.Core.Bool.{Bool, true, false, not, ◌||◌, not-not}
use Prim.Native.Nat.{ℕ, suc}
use borrow.Author.Tests.{not-true}
use Rattle.exact.specs.declared.Encounter.{Encounter}
use Rattle.exact.specs.declared.Traced.{Traced}
use Rattle.exact.specs.Arithmetic.{rounded, rounding, traced}
use Rattle.exact.specs.Losses.{letter_numbers, term_numbers, traced_letters, traced_terms, term_lost, operand_lost, either_lost, lossless}
use Rattle.exact.specs.Private.Ranges.{largest_exponent, LettersIn, TermsIn}
use Rattle.exact.specs.Private.Clean.{clean_letters, clean_terms}
use Rattle.exact.specs.Steps.{LettersOf, TermsOf, next_c, next_p, next_v, next_y, next, terms, side_letters, side_terms}
use Rattle.exact.proofs.Accepted.{neither}
use Rattle.exact.proofs.Losses.{clean_term, clean_operand}
use Rattle.encounter.specs.declared.state.Letters.{Letters}
use Rattle.encounter.specs.declared.state.Terms.{Terms}
use Rattle.encounter.specs.declared.steps.losses.Losses.{Losses}
use Rattle.encounter.specs.declared.steps.numbers.LetterSet.{LetterSet}
use Rattle.encounter.specs.declared.steps.numbers.TermSet.{TermSet}
use Rattle.encounter.specs.Private.Held.{step_letters, step_terms, held_terms, set_letters, set_terms, CleanLosses}

-- ---- clean numbers keep their ranges

pub clean_letters_fine : {l : Letters} {w : LetterSet Traced} → set_letters w ≡ clean_letters (step_letters l) → LettersIn (step_letters l) → LettersIn (letter_numbers (set_letters w))
clean_letters_fine e i = subst (λ (x : LettersOf Traced). LettersIn (letter_numbers x)) (sym e) i

pub clean_terms_fine : {s : Terms} {w : TermSet Traced} → set_terms w ≡ clean_terms (step_terms s) → TermsIn largest_exponent (step_terms s) → TermsIn largest_exponent (term_numbers (set_terms w))
clean_terms_fine e i = subst (λ (x : TermsOf Traced). TermsIn largest_exponent (term_numbers x)) (sym e) i

-- ---- a side's losses one index on, from clean numbers

pub clean_losses_are : (up : Bool) (n : ℕ) {l : Letters} {s : Terms} {w : LetterSet Traced} {t x : TermSet Traced} {r : Losses}
    → set_letters w ≡ clean_letters (step_letters l) → set_terms t ≡ clean_terms (step_terms s) → set_terms x ≡ next (traced up 32) (set_letters w) n (set_terms t)
    → (r.term ≡ (set_terms x).c.lost) × (r.operand ≡ operand_lost (set_letters w) (set_terms x))
    → CleanLosses up (step_letters l) (step_terms s) n r
clean_losses_are up n ew et ex e =
    let p = ex ∙ (λ i. next (traced up 32) (ew i) n (et i)) in
    record { term_is = e.0 ∙ (λ i. (p i).c.lost); operand_is = e.1 ∙ (λ i. operand_lost (ew i) (p i)) }

-- the numbers are those formed without losses
pub clean_terms_are : (up : Bool) (n : ℕ) {l : Letters} {s r : Terms} {w : LetterSet Traced} {t x : TermSet Traced}
    → set_letters w ≡ clean_letters (step_letters l) → set_terms t ≡ clean_terms (step_terms s) → set_terms x ≡ next (traced up 32) (set_letters w) n (set_terms t)
    → r ≡ held_terms (term_numbers (set_terms x)) → r ≡ held_terms (next (rounded up 32) (step_letters l) n (step_terms s))
unfolding next next_c next_p next_v next_y traced rounded rounding
clean_terms_are up n ew et ex er = er ∙ ap (λ (x : TermsOf Traced). held_terms (term_numbers x)) (ex ∙ (λ i. next (traced up 32) (ew i) n (et i)))

-- ---- where the numbers are an encounter's

-- of a side at index n
module _ (up : Bool) (E : Encounter) (n : ℕ) {l : Letters} {t : Terms} (p : step_letters l ≡ side_letters up E) (q : step_terms t ≡ side_terms up E n) where
  side_losses_are : {r : Losses} → operand_lost (traced_letters up E) (traced_terms up E n) ≡ false → CleanLosses up (step_letters l) (step_terms t) n r
      → (r.term ≡ term_lost up E (suc n)) × (r.operand ≡ operand_lost (traced_letters up E) (traced_terms up E (suc n)))
  side_losses_are o k = (
    k.term_is ∙ (λ i. (next (traced up 32) (clean_letters (p i)) n (clean_terms (q i))).c.lost) ∙ clean_term up E n o,
    k.operand_is ∙ (λ i. operand_lost (clean_letters (p i)) (next (traced up 32) (clean_letters (p i)) n (clean_terms (q i)))) ∙ clean_operand up E n o,
  )

  -- its terms one index on
  pub side_terms_are : {r : Terms} → r ≡ held_terms (next (rounded up 32) (step_letters l) n (step_terms t)) → r ≡ held_terms (side_terms up E (suc n))
  unfolding side_terms terms
  side_terms_are er = er ∙ (λ i. held_terms (next (rounded up 32) (p i) n (q i)))

-- both sides' losses, from letters l₀ and l₁ and terms t₀ and t₁
module _ (E : Encounter) (n : ℕ) {l₀ l₁ : Letters} {t₀ t₁ : Terms} where
  pub next_losses_are : {a b r : Losses} → step_letters l₀ ≡ side_letters false E → step_letters l₁ ≡ side_letters true E
      → step_terms t₀ ≡ side_terms false E n → step_terms t₁ ≡ side_terms true E n
      → lossless E (suc n) ≡ true
      → CleanLosses false (step_letters l₀) (step_terms t₀) n a
      → CleanLosses true (step_letters l₁) (step_terms t₁) n b
      → (r.term ≡ (a.term || b.term)) × (r.operand ≡ (a.operand || b.operand))
      → (r.term ≡ either_lost E (suc n)) × (r.operand ≡ not (lossless E (suc (suc n))))
  unfolding either_lost lossless
  next_losses_are p₀ p₁ q₀ q₁ h k₀ k₁ e =
      let (o₀, o₁) = neither _ _ (not-true _ h) in
      let (x₀, y₀) = side_losses_are false E n p₀ q₀ o₀ k₀ in
      let (x₁, y₁) = side_losses_are true E n p₁ q₁ o₁ k₁ in
      (rw (e.0, x₀, x₁), rw (e.1, y₀, y₁) (sym (not-not _)))
