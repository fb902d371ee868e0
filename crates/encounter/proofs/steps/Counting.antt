-- The count of exact terms from index to index: one term more where nothing was lost before, and all others together where something was.
use mathlib.Core.Path.{◌≡◌, refl, sym, ◌∙◌, ap}
use mathlib.Core.Bool.{Bool, true, false, not, cond, ◌||◌}
use mathlib.Core.Logic.{◌⊎◌, inl, inr}
use Prim.Native.Nat.{ℕ, suc, ◌+◌, ◌-◌, ◌≤◌, ◌<◌}
use native.Mathlib.Omega.{arith}
use Rattle.std.specs.Int.{from_bool}
use Rattle.exact.specs.declared.Encounter.{Encounter}
use Rattle.exact.specs.Arithmetic.{rounded}
use Rattle.exact.specs.Losses.{either_lost, exact_terms, lossless}
use Rattle.exact.specs.Numbers.{largest_order}
use Rattle.exact.specs.Private.Ranges.{largest_exponent, LettersIn, TermsIn}
use Rattle.exact.specs.Steps.{next, side_letters, side_terms}
use Rattle.exact.proofs.Accepted.{facts}
use Rattle.exact.proofs.Growth.{letters_in}
use Rattle.exact.proofs.Exponents.{in_range}
use Rattle.exact.proofs.Losses.{exact_le, lossless_all, exact_more, exact_ends, later_same}
use Rattle.encounter.specs.declared.state.Letters.{Letters}
use Rattle.encounter.specs.declared.state.Terms.{Terms}
use Rattle.encounter.specs.declared.state.Session.{Session}
use Rattle.encounter.specs.declared.steps.counts.Counting.{Counting}
use Rattle.encounter.specs.declared.steps.losses.Losses.{Losses}
use Rattle.encounter.specs.Session.{side, state}
use Rattle.encounter.specs.Private.Held.{step_letters, step_terms, held_terms, counts, counting, CleanLosses, Begun}
use Rattle.encounter.proofs.steps.NextLosses.{side_terms_are, next_losses_are}
use Rattle.encounter.proofs.steps.Progressing.{lower_letters_are, upper_letters_are, terms_fine}
use Rattle.encounter.proofs.steps.Opening.{none_lost, opposite}

-- ---- the count and the losses

module _ (E : Encounter) where
  -- one term more, where nothing was lost before; t says whether something is lost on its way
  more_exact : (n : ℕ) (t : Bool) → lossless E (suc n) ≡ true → t ≡ either_lost E (suc n) → exact_terms E (suc n) + cond t 0 1 ≡ exact_terms E (suc (suc n))
  more_exact n true h e = omega (arith, lossless_all E n h, exact_ends E n h (sym e))
  more_exact n false h e = omega (arith, lossless_all E n h, exact_more E n h (sym e))

  -- k terms more, where something was
  all_lost : (n k : ℕ) → lossless E (suc n) ≡ false → counts E (suc n) ≡ counts E (suc n + k)
  all_lost n k h = let (x, y) = later_same E n h k in rw (x, y, h)

-- a test as a number
is_some : (b : Bool) → 0 < cond b 1 0 → b ≡ true
is_some true l = refl
is_some false l = let f : ⊥ = omega (arith, l) in absurd f

is_none : (b : Bool) → cond b 1 0 ≤ 0 → b ≡ false
is_none true l = let f : ⊥ = omega (arith, l) in absurd f
is_none false l = refl

pub one_at_most : (b : Bool) {n : ℕ} → n ≡ from_bool (not b) → n ≤ 1
one_at_most true e = omega (arith, e)
one_at_most false e = omega (arith, e)

-- ---- the numbers of a session, taken on

module _ (s : Session) (b : Begun s) where
  abbrev E : Encounter
  E = s.encounter

  lower_letters : step_letters s.lower.letters ≡ side_letters false E
  lower_letters = ap step_letters (lower_letters_are s b)

  upper_letters : step_letters s.upper.letters ≡ side_letters true E
  upper_letters = ap step_letters (upper_letters_are s b)

  -- before the loop
  pub counting_starts : (n : ℕ) → s.N ≡ suc n → record { lower = s.lower.terms; upper = s.upper.terms; counts = record { exact = s.exact; lossless = s.lossless } } ≡ counting E n
  unfolding state side
  counting_starts n e =
      ap (λ (x : Session). record { lower = x.lower.terms; upper = x.upper.terms; counts = record { exact = x.exact; lossless = x.lossless } }) b.is
      ∙ rw e

  module _ (n : ℕ) (nl : n < largest_order) {w : Counting} (e : w ≡ counting E n) where
    lower_terms : step_terms w.lower ≡ side_terms false E n
    lower_terms = ap (λ (w : Counting). step_terms w.lower) e

    upper_terms : step_terms w.upper ≡ side_terms true E n
    upper_terms = ap (λ (w : Counting). step_terms w.upper) e

    -- what a side's step asks for
    side_fine : (up : Bool) {l : Letters} {t : Terms} → step_letters l ≡ side_letters up E → step_terms t ≡ side_terms up E n
        → (n < largest_order) × (LettersIn (step_letters l)) × (TermsIn largest_exponent (step_terms t))
    unfolding side_letters
    side_fine up p q = (nl, rw p (letters_in (in_range up) (facts b.fine).bounds), rw q (terms_fine s b n (omega (arith, nl)) up))

    pub lower_fine : (n < largest_order) × (LettersIn (step_letters s.lower.letters)) × (TermsIn largest_exponent (step_terms w.lower))
    lower_fine = side_fine false lower_letters lower_terms

    pub upper_fine : (n < largest_order) × (LettersIn (step_letters s.upper.letters)) × (TermsIn largest_exponent (step_terms w.upper))
    upper_fine = side_fine true upper_letters upper_terms

    pub exact_high : w.counts.exact ≤ largest_order
    exact_high = let x : w.counts.exact ≡ exact_terms E (suc n) = ap (λ (w : Counting). w.counts.exact) e in omega (arith, x, exact_le E (suc n), nl)

    nothing_lost : 0 < w.counts.lossless → lossless E (suc n) ≡ true
    nothing_lost l = is_some _ (rw e at l)

    -- one index on, from the steps of both sides, x and y being what is added to the count and whether nothing was lost
    pub next_is : {lo hi : Terms} {a b r : Losses} {x y : ℕ} → 0 < w.counts.lossless
        → lo ≡ held_terms (next (rounded false 32) (step_letters s.lower.letters) n (step_terms w.lower))
        → hi ≡ held_terms (next (rounded true 32) (step_letters s.upper.letters) n (step_terms w.upper))
        → CleanLosses false (step_letters s.lower.letters) (step_terms w.lower) n a
        → CleanLosses true (step_letters s.upper.letters) (step_terms w.upper) n b
        → (r.term ≡ (a.term || b.term)) × (r.operand ≡ (a.operand || b.operand))
        → x ≡ from_bool (not r.term)
        → y ≡ from_bool (not r.operand)
        → record { lower = lo; upper = hi; counts = record { exact = w.counts.exact + x; lossless = y } } ≡ counting E (suc n)
    next_is {r = r} {x} {y} l el eh ka kb er ex ey =
        let h = nothing_lost l in
        let k = next_losses_are E n lower_letters upper_letters lower_terms upper_terms h ka kb er in
        let u = side_terms_are false E n lower_letters lower_terms el in
        let v = side_terms_are true E n upper_letters upper_terms eh in
        let c : w.counts.exact + x ≡ exact_terms E (suc (suc n)) = rw (e, none_lost _ ex) (more_exact E n r.term h k.0) in
        let o = opposite (lossless E (suc (suc n))) ey k.1 in
        λ i. record { lower = u i; upper = v i; counts = record { exact = c i; lossless = o i } }

    -- after the loop, which ends at m or where something was lost
    pub counting_ends : (m : ℕ) → n ≤ m → (m ≤ n) ⊎ (w.counts.lossless ≡ 0) → w.counts ≡ counts E (suc m)
    counting_ends m k (inl l) = let i : n ≡ m = omega (arith, k, l) in ap (λ (w : Counting). w.counts) e ∙ rw i
    counting_ends m k (inr z) =
        let i : suc n + (m - n) ≡ suc m = omega (arith, k) in
        let o : cond (lossless E (suc n)) 1 0 ≤ 0 = omega (arith, rw e at z) in
        ap (λ (w : Counting). w.counts) e ∙ all_lost E n (m - n) (is_none _ o) ∙ rw i
