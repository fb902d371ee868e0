-- One term more on both sides: what the loop of `advance` holds at index n is the progress there.
use mathlib.Core.Path.{◌≡◌, ◌∙◌, ap}
use mathlib.Core.Bool.{Bool, true, false}
use Prim.Native.Nat.{ℕ, zero, suc, pred, ◌+◌, ◌-◌, ◌*◌, ◌≤◌, ◌<◌}
use native.Mathlib.Numerals.{add-one}
use native.Mathlib.Omega.{arith}
use Rattle.exact.specs.declared.Scaled.{Scaled}
use Rattle.exact.specs.Private.Ranges.{largest_exponent, InRange, LettersIn, TermsIn}
use Rattle.exact.specs.Numbers.{largest_order}
use Rattle.exact.specs.declared.Encounter.{Encounter}
use Rattle.exact.specs.Arithmetic.{rounded}
use Rattle.exact.specs.Losses.{exact_terms}
use Rattle.exact.specs.Steps.{LettersOf, TermsOf, next, next_d, terms, tail_term, side_letters, side_start, side_terms, M, d}
use Rattle.exact.proofs.Accepted.{facts}
use Rattle.exact.proofs.Ranges.{widen}
use Rattle.exact.proofs.Growth.{terms_in, tail_in, letters_in, start_in}
use Rattle.exact.proofs.Exponents.{in_range, M_in}
use Rattle.encounter.specs.declared.state.Terms.{Terms}
use Rattle.encounter.specs.declared.state.Session.{Session}
use Rattle.encounter.specs.declared.steps.counts.Counts.{Counts}
use Rattle.encounter.specs.declared.steps.progress.Progress.{Progress}
use Rattle.encounter.specs.declared.arithmetic.wide.Wide.{Wide}
use Rattle.encounter.specs.declared.steps.numbers.LetterSet.{LetterSet}
use Rattle.encounter.specs.declared.steps.sides.Pair.{Pair}
use Rattle.encounter.specs.declared.steps.numbers.TermSet.{TermSet}
use Rattle.encounter.specs.Session.{side, state, conjunction_of}
use Rattle.encounter.specs.Private.Held.{held_letters, step_letters, held_terms, step_terms, progress, counts, at_order, Begun}
use Rattle.encounter.specs.Private.Loops.{narrow, letters_of, terms_of}
use Rattle.encounter.specs.Private.Operations.{by_side}

module _ (s : Session) (b : Begun s) where
  abbrev pub E : Encounter
  E = s.encounter

  pub lower_letters_are : s.lower.letters ≡ held_letters (side_letters false E)
  unfolding state side
  lower_letters_are = ap (λ (x : Session). x.lower.letters) b.is

  pub upper_letters_are : s.upper.letters ≡ held_letters (side_letters true E)
  unfolding state side
  upper_letters_are = ap (λ (x : Session). x.upper.letters) b.is

  pub exact_is : s.exact ≡ exact_terms E s.N
  unfolding state
  exact_is = ap (λ (x : Session). x.exact) b.is

  pub M_is : s.M ≡ M E
  unfolding state
  M_is = ap (λ (x : Session). x.M) b.is

  pub M_range : InRange 32 400 (M E)
  M_range = M_in (facts b.fine).bounds

  pub M_fine : InRange 32 400 s.M
  M_fine = rw M_is M_range

  -- at index n
  module _ (n : ℕ) (nl : n ≤ largest_order) where
    small : 700 * n + 400 ≤ largest_exponent
    small = omega arith

    pub terms_fine : (up : Bool) → TermsIn largest_exponent (side_terms up E n)
    unfolding side_terms side_letters side_start
    terms_fine up =
        let q = terms_in (in_range up) _ (letters_in (in_range up) (facts b.fine).bounds) (start_in (in_range up) (facts b.fine).bounds) n nl in
        record { c = widen small q.c; p = widen small q.p; v = widen small q.v; y = widen small q.y; sum = widen small q.sum }

  pub d_range : (n : ℕ) → n ≤ largest_order → InRange 32 largest_exponent (d E n)
  unfolding d side_start
  d_range n nl = widen (omega arith) (tail_in (in_range true) (start_in (in_range true) (facts b.fine).bounds) M_range n nl)

-- ---- both sides together, as the loop holds them

-- an encounter's numbers at index n
pub record Holds (E : Encounter) (l : LetterSet Pair) (m : Wide) (t : TermSet Pair) (x : Wide) (n : ℕ) : Type 0 where
  pub letters_are : (up : Bool) → letters_of up l ≡ side_letters up E
  pub bound_is : narrow m ≡ M E
  pub terms_are : (up : Bool) → terms_of up t ≡ side_terms up E n
  pub tail_is : narrow x ≡ d E (suc n)

module _ (s : Session) (b : Begun s) where
  index : pred s.N ≡ s.N - 1
  index = omega arith

  order : s.N ≡ suc (s.N - 1)
  order = omega (arith, b.low)

  lower_terms_are : step_terms s.lower.terms ≡ side_terms false s.encounter (s.N - 1)
  unfolding state side
  lower_terms_are = ap (λ (x : Session). step_terms x.lower.terms) b.is ∙ ap (side_terms false s.encounter) index

  upper_terms_are : step_terms s.upper.terms ≡ side_terms true s.encounter (s.N - 1)
  unfolding state side
  upper_terms_are = ap (λ (x : Session). step_terms x.upper.terms) b.is ∙ ap (side_terms true s.encounter) index

  pub tail_at : s.d ≡ d s.encounter (suc (s.N - 1))
  unfolding state
  tail_at = ap (λ (x : Session). x.d) b.is ∙ ap (d s.encounter) order

  pub start_holds : {l : LetterSet Pair} {m : Wide} {t : TermSet Pair} {x : Wide}
      → (letters_of false l ≡ step_letters s.lower.letters) × (letters_of true l ≡ step_letters s.upper.letters) → narrow m ≡ s.M
      → (terms_of false t ≡ step_terms s.lower.terms) × (terms_of true t ≡ step_terms s.upper.terms) → narrow x ≡ s.d
      → Holds s.encounter l m t x (s.N - 1)
  start_holds el em et ex = record {
    letters_are = by_side _ (el.0 ∙ ap step_letters (lower_letters_are s b)) (el.1 ∙ ap step_letters (upper_letters_are s b));
    bound_is = em ∙ M_is s b;
    terms_are = by_side _ (et.0 ∙ lower_terms_are) (et.1 ∙ upper_terms_are);
    tail_is = ex ∙ tail_at;
  }

-- the ranges
module _ {s : Session} (b : Begun s) {l : LetterSet Pair} {m : Wide} {t : TermSet Pair} {x : Wide} {n : ℕ} (h : Holds s.encounter l m t x n) where
  pub letters_held : (up : Bool) → LettersIn (letters_of up l)
  unfolding side_letters
  letters_held up = rw (h.letters_are up) (letters_in (in_range up) (facts b.fine).bounds)

  pub bound_held : InRange 32 400 (narrow m)
  bound_held = rw h.bound_is (M_range s b)

  pub terms_held : n < largest_order → (up : Bool) → TermsIn largest_exponent (terms_of up t)
  terms_held nl up = rw (h.terms_are up) (terms_fine s b n (omega arith) up)

  pub tail_held : n < largest_order → InRange 32 largest_exponent (narrow x)
  tail_held nl = rw h.tail_is (d_range s b (suc n) (omega arith))

module _ (E : Encounter) (n : ℕ) where
  next_side : (up : Bool) {l : LettersOf Scaled} {t r : TermsOf Scaled} → l ≡ side_letters up E → t ≡ side_terms up E n
      → r ≡ next (rounded up 32) l n t → r ≡ side_terms up E (n + 1)
  unfolding side_terms terms
  next_side up el et er = er ∙ rw (el, et, add-one)

  next_d_is : {m x r : Scaled} → m ≡ M E → x ≡ d E (suc n) → r ≡ next_d (rounded true 32) m (n + 1) x → r ≡ d E (suc (n + 1))
  unfolding d tail_term
  next_d_is em ex er = er ∙ rw (em, ex, add-one)

  -- one term more
  pub next_holds : {l : LetterSet Pair} {m : Wide} {t t' : TermSet Pair} {x x' : Wide} → Holds E l m t x n
      → ((up : Bool) → terms_of up t' ≡ next (rounded up 32) (letters_of up l) n (terms_of up t))
      → narrow x' ≡ next_d (rounded true 32) (narrow m) (n + 1) (narrow x)
      → Holds E l m t' x' (n + 1)
  next_holds h et ex = record {
    letters_are = h.letters_are;
    bound_is = h.bound_is;
    terms_are = λ up. next_side up (h.letters_are up) (h.terms_are up) (et up);
    tail_is = next_d_is h.bound_is h.tail_is ex;
  }

  -- after the loop
  pub holds_progress : {l : LetterSet Pair} {m : Wide} {t : TermSet Pair} {x : Wide} {lo hi : Terms} {y : Scaled} → Holds E l m t x n
      → lo ≡ held_terms (terms_of false t) → hi ≡ held_terms (terms_of true t) → y ≡ narrow x
      → record { lower = lo; upper = hi; d = y } ≡ progress E n
  unfolding progress
  holds_progress h el eh ey =
      let a = el ∙ ap held_terms (h.terms_are false) in
      let b = eh ∙ ap held_terms (h.terms_are true) in
      let c = ey ∙ h.tail_is in
      λ i. record { lower = a i; upper = b i; d = c i }

-- the session after an add, by its fields
module _ (s : Session) (b : Begun s) where
  at_index : (n : ℕ) (p : Progress) (k : Counts) → p ≡ progress s.encounter n → k ≡ counts s.encounter (suc n) → at_order s (suc n) p k ≡ state (conjunction_of s) (suc n)
  unfolding state side progress
  at_index n p k e f =
      let le = ap (λ (x : Session). x.lower.exponential) b.is in
      let he = ap (λ (x : Session). x.upper.exponential) b.is in
      let r = ap (λ (x : Session). x.r256) b.is in
      rw (e, f, lower_letters_are s b, upper_letters_are s b, le, he, r, M_is s b)

  pub added_is : (N : ℕ) (p : Progress) (k : Counts) → 1 ≤ N → p ≡ progress s.encounter (N - 1) → k ≡ counts s.encounter N → at_order s N p k ≡ state (conjunction_of s) N
  added_is zero p k l e f = let f : ⊥ = omega arith in absurd f
  added_is (suc n) p k l e f = let i : suc n - 1 ≡ n = omega arith in at_index n p k (rw i at e) f
