-- What is lost on the ways of the terms (request #105 of document 02). The numbers beside the losses are the side's own. Where nothing was lost before, the losses of
-- the next terms are found from the numbers alone. How the count of exact terms goes on from term to term; that each term counted is the exact series' own; and that
-- what is lost on one side is lost on the other.
use mathlib.Core.Path.{◌≡◌, refl, sym, ◌∙◌, ap}
use mathlib.Core.Bool.{Bool, true, false, cond, not, ◌||◌, true≢false}
use mathlib.Core.Logic.{◌⊎◌, inl, inr}
use Prim.Native.Nat.{ℕ, zero, suc, ◌+◌, ◌≤◌, ◌<◌}
use native.Mathlib.Nat.{add-zero, add-suc, suc-add, lt_irrefl, le_dest, le_of_suc-le-suc}
use native.Mathlib.Omega.{arith}
use lib.Dec.{lit<}
use borrow.Author.Tests.{not-true, not-false}
use Rattle.exact.specs.declared.Encounter.{Encounter}
use Rattle.exact.specs.declared.Scaled.{Scaled}
use Rattle.exact.specs.declared.Traced.{Traced}
use Rattle.exact.specs.Fraction.{Frac, ◌≈◌, ◌⊕◌, ◌⊗◌, ◌÷◌}
use Rattle.exact.specs.Scaled.{value, lost, half}
use Rattle.exact.specs.Private.Round.{round}
use Rattle.exact.specs.Private.Clean.{clean, clean_letters, clean_terms}
use Rattle.exact.specs.Arithmetic.{unrounded, rounded, rounding, traced}
use Rattle.exact.specs.Series.{a₀, c}
use Rattle.exact.specs.Steps.{LettersOf, TermsOf, start, first, next_c, next_p, next_v, next_y, next, terms, side_letters, side_start, side_terms}
use Rattle.exact.specs.Least.{least}
use Rattle.exact.specs.Losses.{traced_letters, traced_terms, letter_numbers, term_numbers, term_lost, operand_lost, either_lost, exact_terms, lossless}
use Rattle.exact.proofs.Fractions.{lt_or_le, ≈_refl, ≈_trans, add_cong, mul_cong, div_cong}
use Rattle.exact.proofs.Rounding.{round_is, round_exact, lost_none, lost_not}
use Rattle.exact.proofs.Order.{half_exact}
use Rattle.exact.proofs.Unrounded.{exact_letters, letters_are, term_is}
use Rattle.exact.proofs.Accepted.{neither}
use Rattle.exact.proofs.Least.{least_le, least_before, least_here, least_is}
use Rattle.exact.proofs.Parallel.{Within, CloseLetters, letters_close, start_close, CloseTerms, terms_close}

-- ---- the numbers are the side's

-- a number beside a loss is the one formed without losses
numbers : (up : Bool) → Within (traced up 32) (rounded up 32) (λ w x x'. x.number ≡ x')
unfolding traced rounded rounding
numbers up = record {
  fraction = λ q. refl;
  more = λ l h. h;
  sum = λ h k. λ i. round up 32 (value (h i) ⊕ value (k i));
  product = λ h k. λ i. round up 32 (value (h i) ⊗ value (k i));
  quotient = λ n h. λ i. round up 32 (value (h i) ÷ n);
  half = λ h. ap half h;
}

module _ (up : Bool) (E : Encounter) where
  letters_same : CloseLetters (numbers up) (traced_letters up E) (side_letters up E)
  unfolding traced_letters side_letters
  letters_same = letters_close (numbers up) E

  pub letters_number : letter_numbers (traced_letters up E) ≡ side_letters up E
  letters_number = let k = letters_same in λ i. record { u = k.u i; h = k.h i; X = k.X i; Y = k.Y i; t = k.t i }

  pub start_number : (start (traced up 32) E).number ≡ side_start up E
  unfolding side_start
  start_number = start_close (numbers up) E

  terms_same : (n : ℕ) → CloseTerms (numbers up) n (traced_terms up E n) (side_terms up E n)
  unfolding traced_terms side_terms
  terms_same n = terms_close (numbers up) _ _ letters_same start_number n

  pub terms_number : (n : ℕ) → term_numbers (traced_terms up E n) ≡ side_terms up E n
  terms_number n = let k = terms_same n in λ i. record { c = k.c i; p = k.p i; v = k.v i; y = k.y i; sum = k.sum i }

-- ---- where nothing was lost on a result's way, nothing was lost on its operands'

-- a and b say what was lost on the operands' ways, own what the result's own rounding lost
two_clean : (a b own : Bool) → (a || b || own) ≡ false → (a ≡ false) × (b ≡ false)
two_clean a b own h = neither a b (neither (a || b) own h).0

-- nothing was lost on the way of any number that the next term is formed of
record Clean (l : LettersOf Traced) (s : TermsOf Traced) : Type 0 where
  h : l.h.lost ≡ false
  X : l.X.lost ≡ false
  Y : l.Y.lost ≡ false
  p : s.p.lost ≡ false
  v : s.v.lost ≡ false
  y : s.y.lost ≡ false
  c : s.c.lost ≡ false

to_clean : (l : LettersOf Traced) (s : TermsOf Traced) → operand_lost l s ≡ false → Clean l s
unfolding operand_lost
to_clean l s e =
    let (e₆, c) = neither _ s.c.lost e in
    let (e₅, y) = neither _ s.y.lost e₆ in
    let (e₄, v) = neither _ s.v.lost e₅ in
    let (e₃, p) = neither _ s.p.lost e₄ in
    let (e₂, Y) = neither _ l.Y.lost e₃ in
    let (h, X) = neither l.h.lost l.X.lost e₂ in
    record { h = h; X = X; Y = Y; p = p; v = v; y = y; c = c }

of_clean : {l : LettersOf Traced} {s : TermsOf Traced} → Clean l s → operand_lost l s ≡ false
unfolding operand_lost
of_clean w = rw (w.h, w.X, w.Y, w.p, w.v, w.y, w.c)

module _ (up : Bool) where
  -- on the way of a result with no loss nothing was lost on its operands' ways, also where a factor is zero
  pub product_clean : (x y : Traced) → ((traced up 32).product x y).lost ≡ false → (x.lost ≡ false) × (y.lost ≡ false)
  unfolding traced rounding
  product_clean x y e = two_clean x.lost y.lost _ e

  pub sum_clean : (x y : Traced) → ((traced up 32).sum x y).lost ≡ false → (x.lost ≡ false) × (y.lost ≡ false)
  unfolding traced rounding
  sum_clean x y e = two_clean x.lost y.lost _ e

  pub quotient_clean : (x : Traced) (k : ℕ) → ((traced up 32).quotient x k).lost ≡ false → x.lost ≡ false
  unfolding traced rounding
  quotient_clean x k e = (neither x.lost _ e).0

  pub half_clean : (x : Traced) → ((traced up 32).half x).lost ≡ false → x.lost ≡ false
  unfolding traced
  half_clean x e = e

  -- c(n+1)'s way has the ways of all that it is formed of
  c_clean : (l : LettersOf Traced) (n : ℕ) (s : TermsOf Traced) → (next_c (traced up 32) l n s).lost ≡ false → Clean l s
  unfolding next_c
  c_clean l n s e =
      let (r, Yc) = sum_clean _ _ (quotient_clean _ _ e) in
      let (r', Xy) = sum_clean _ _ r in
      let (p, hv) = sum_clean _ _ r' in
      let (h, v) = product_clean _ _ (half_clean _ hv) in
      let (X, y) = product_clean _ _ Xy in
      let (Y, c) = product_clean _ _ Yc in
      record { h = h; X = X; Y = Y; p = p; v = v; y = y; c = c }

  -- p(n) is a product with u
  u_clean : (E : Encounter) (n : ℕ) → (traced_terms up E n).p.lost ≡ false → (traced_letters up E).u.lost ≡ false
  unfolding traced_terms terms first next next_p
  u_clean E zero h = (product_clean _ _ h).0
  u_clean E (suc n) h = (product_clean _ _ h).0

-- ---- where nothing was lost before, clean numbers give the same losses

clean_of : {x : Traced} {y : Scaled} → x.lost ≡ false → x.number ≡ y → clean y ≡ x
clean_of h k = sym (λ i. record { number = k i; lost = h i })

module _ (up : Bool) (E : Encounter) (n : ℕ) where
  -- the next terms, where the last ones and the letters are clean
  abbrev pub clean_next : TermsOf Traced
  clean_next = next (traced up 32) (clean_letters (side_letters up E)) n (clean_terms (side_terms up E n))

  -- the letters and the terms of index n but for t and the sum, which the next c, p, v and y are not formed of
  record Operands : Type 0 where
    u : Traced
    h : Traced
    X : Traced
    Y : Traced
    c : Traced
    p : Traced
    v : Traced
    y : Traced

  letters_of : Operands → LettersOf Traced
  letters_of o = record { u = o.u; h = o.h; X = o.X; Y = o.Y; t = o.u }

  next_of : Operands → TermsOf Traced
  next_of o = next (traced up 32) (letters_of o) n (record { c = o.c; p = o.p; v = o.v; y = o.y; sum = o.c })

  operands_of : LettersOf Traced → TermsOf Traced → Operands
  operands_of l s = record { u = l.u; h = l.h; X = l.X; Y = l.Y; c = s.c; p = s.p; v = s.v; y = s.y }

  module _ (e : operand_lost (traced_letters up E) (traced_terms up E n) ≡ false) where
    all_clean : operands_of (clean_letters (side_letters up E)) (clean_terms (side_terms up E n)) ≡ operands_of (traced_letters up E) (traced_terms up E n)
    unfolding operands_of
    all_clean =
        let w = to_clean _ _ e in
        let l = letters_same up E in
        let s = terms_same up E n in
        let u = clean_of (u_clean up E n w.p) l.u in
        let h = clean_of w.h l.h in
        let X = clean_of w.X l.X in
        let Y = clean_of w.Y l.Y in
        let c = clean_of w.c s.c in
        let p = clean_of w.p s.p in
        let v = clean_of w.v s.v in
        let y = clean_of w.y s.y in
        λ i. record { u = u i; h = h i; X = X i; Y = Y i; c = c i; p = p i; v = v i; y = y i }

    -- the loss of c(n+1), and of what c(n+2) is formed of
    pub clean_term : clean_next.c.lost ≡ term_lost up E (suc n)
    unfolding term_lost traced_terms terms next next_c operands_of next_of letters_of
    clean_term = ap (λ (o : Operands). (next_of o).c.lost) all_clean

    pub clean_operand : operand_lost (clean_letters (side_letters up E)) clean_next ≡ operand_lost (traced_letters up E) (traced_terms up E (suc n))
    unfolding operand_lost traced_terms terms next next_c next_p next_v next_y operands_of next_of letters_of
    clean_operand = ap (λ (o : Operands). operand_lost (letters_of o) (next_of o)) all_clean

-- ---- ways grow

-- where a is false so is a', and where b is false so is b': either test, then
both_false : (a b a' b' : Bool) → (a ≡ false → a' ≡ false) → (b ≡ false → b' ≡ false) → (a || b) ≡ false → (a' || b') ≡ false
both_false a b a' b' h k e = let (x, y) = neither a b e in rw (h x, k y)

-- where b is false so is a: backwards, where a is true so is b
true_by : (a b : Bool) → (b ≡ false → a ≡ false) → a ≡ true → b ≡ true
true_by a true h e = refl
true_by a false h e = sym (h refl) ∙ e

module _ (E : Encounter) where
  -- on the way of what c(n+1) is formed of, on either side
  abbrev operands_lost : ℕ → Bool
  operands_lost n = operand_lost (traced_letters false E) (traced_terms false E n) || operand_lost (traced_letters true E) (traced_terms true E n)

  -- what c(n+1) is formed of has c(n), on each side
  its_term : (up : Bool) (n : ℕ) → operand_lost (traced_letters up E) (traced_terms up E n) ≡ false → term_lost up E n ≡ false
  unfolding term_lost
  its_term up n e = (to_clean _ _ e).c

  -- and c(n+1)'s way has theirs
  its_operands : (up : Bool) (n : ℕ) → term_lost up E (suc n) ≡ false → operand_lost (traced_letters up E) (traced_terms up E n) ≡ false
  unfolding term_lost traced_terms terms next
  its_operands up n e = of_clean (c_clean up _ n _ e)

  -- nothing on either side: nothing on each
  each_side : (n : ℕ) → either_lost E n ≡ false → (up : Bool) → term_lost up E n ≡ false
  unfolding either_lost
  each_side n e false = (neither (term_lost false E n) (term_lost true E n) e).0
  each_side n e true = (neither (term_lost false E n) (term_lost true E n) e).1

  term_exact : (n : ℕ) → operands_lost n ≡ false → either_lost E n ≡ false
  unfolding either_lost
  term_exact n e = both_false _ _ _ _ (its_term false n) (its_term true n) e

  operands_exact : (n : ℕ) → either_lost E (suc n) ≡ false → operands_lost n ≡ false
  unfolding either_lost
  operands_exact n e = both_false _ _ _ _ (its_operands false n) (its_operands true n) e

  -- so where something is lost on the way of an operand, it is lost on the next term's
  next_lost : (n : ℕ) → operands_lost n ≡ true → either_lost E (suc n) ≡ true
  next_lost n h = true_by _ _ (operands_exact n) h

  -- where something is lost on a term's way, it is lost on the way of the term after it
  pub ways_grow : (n : ℕ) → either_lost E n ≡ true → either_lost E (suc n) ≡ true
  ways_grow n h = next_lost n (true_by _ _ (term_exact n) h)

  -- and the other way: before an exact term all are exact
  before_exact : (n j : ℕ) → either_lost E (n + j) ≡ false → either_lost E n ≡ false
  before_exact n zero e = rw add-zero at e
  before_exact n (suc j) e = before_exact n j (term_exact _ (operands_exact _ (rw add-suc at e)))

  all_exact : (n : ℕ) → either_lost E n ≡ false → (j : ℕ) → j < suc n → either_lost E j ≡ false
  all_exact n e j l = let (k, q) = le_dest (le_of_suc-le-suc l) in before_exact j k (rw (← q) at e)

-- ---- the count of exact terms

module _ (E : Encounter) where
  pub exact_le : (N : ℕ) → exact_terms E N ≤ N
  unfolding exact_terms
  exact_le N = least_le (either_lost E) N

  -- the terms counted are exact
  pub counted_are : (N n : ℕ) → n < exact_terms E N → either_lost E n ≡ false
  unfolding exact_terms
  counted_are N n l = least_before (either_lost E) N n l

  -- and the one after them is not
  pub first_lost : (N : ℕ) → exact_terms E N < N → either_lost E (exact_terms E N) ≡ true
  unfolding exact_terms
  first_lost N l = least_here (either_lost E) N l

  -- no other number is like this
  count_is : (N n : ℕ) → n ≤ N → ((j : ℕ) → j < n → either_lost E j ≡ false) → (n < N → either_lost E n ≡ true) → exact_terms E N ≡ n
  unfolding exact_terms
  count_is N n l b h = sym (least_is (either_lost E) N n l b h)

  pub first_exact : exact_terms E 1 ≡ cond (either_lost E 0) 0 1
  unfolding exact_terms least
  first_exact = refl

  all_counted : (n : ℕ) → either_lost E n ≡ false → exact_terms E (suc n) ≡ suc n
  all_counted n e = count_is (suc n) (suc n) (omega arith) (all_exact E n e) (λ l. absurd (lt_irrefl _ l))

  -- where nothing was lost on the way to what c(n+1) is formed of
  lossless_term : (n : ℕ) → lossless E (suc n) ≡ true → either_lost E n ≡ false
  unfolding lossless
  lossless_term n h = term_exact E n (not-true _ h)

  -- all terms so far are exact
  pub lossless_all : (n : ℕ) → lossless E (suc n) ≡ true → exact_terms E (suc n) ≡ suc n
  lossless_all n h = all_counted n (lossless_term n h)

  -- one term more: an exact one
  pub exact_more : (n : ℕ) → lossless E (suc n) ≡ true → either_lost E (suc n) ≡ false → exact_terms E (suc (suc n)) ≡ suc (suc n)
  exact_more n h e = all_counted (suc n) e

  -- or one that is not
  pub exact_ends : (n : ℕ) → lossless E (suc n) ≡ true → either_lost E (suc n) ≡ true → exact_terms E (suc (suc n)) ≡ suc n
  exact_ends n h e = count_is (suc (suc n)) (suc n) (omega arith) (all_exact E n (lossless_term n h)) (λ _. e)

  -- where something was: it is so at every later index, and no more terms are counted
  operands_later : (n k : ℕ) → operands_lost E n ≡ true → operands_lost E (n + k) ≡ true
  operands_later n zero o = rw add-zero o
  operands_later n (suc k) o = rw add-suc (true_by _ _ (term_exact E _) (next_lost E _ (operands_later n k o)))

  count_later : (n k : ℕ) → operands_lost E n ≡ true → exact_terms E (suc n + k) ≡ exact_terms E (suc n)
  count_later n k o = count_is (suc n + k) (exact_terms E (suc n)) (omega (arith, exact_le (suc n))) (counted_are (suc n)) (λ _. here (lt_or_le _ _))
    where
      here : (exact_terms E (suc n) < suc n) ⊎ (suc n ≤ exact_terms E (suc n)) → either_lost E (exact_terms E (suc n)) ≡ true
      here (inl l) = first_lost (suc n) l
      here (inr l) = let e : exact_terms E (suc n) ≡ suc n = omega (arith, exact_le (suc n)) in rw e (next_lost E n o)

  pub later_same : (n : ℕ) → lossless E (suc n) ≡ false → (k : ℕ) → (exact_terms E (suc n + k) ≡ exact_terms E (suc n)) × (lossless E (suc n + k) ≡ false)
  unfolding lossless
  later_same n h k =
      let o : operands_lost E n ≡ true = not-false _ h in
      (count_later n k o, rw suc-add (ap not (operands_later n k o)))

-- ---- an exact term is the series' own

module _ (up : Bool) where
  -- nothing was lost before, nor by the rounding
  rounding_exact : (q q' : Frac) (before : Bool) → (before ≡ false → q ≈ q') → (rounding up 32 q before).lost ≡ false → value (rounding up 32 q before).number ≈ q'
  unfolding rounding
  rounding_exact q q' before h e = let (b, o) = neither before _ e in ≈_trans (lost_not up 32 q o) (h b)

  -- where nothing was lost on the way of a number, it has the value of the one formed with no rounding
  exactly : Within (traced up 32) unrounded (λ w x q. x.lost ≡ false → value x.number ≈ q)
  unfolding traced unrounded
  exactly = record {
    fraction = λ q. rounding_exact q q false (λ _. ≈_refl q);
    more = λ l h. h;
    sum = λ h k. rounding_exact _ _ _ (λ e. let (a, b) = neither _ _ e in add_cong (h a) (k b));
    product = λ h k. rounding_exact _ _ _ (λ e. let (a, b) = neither _ _ e in mul_cong (h a) (k b));
    quotient = λ n h. rounding_exact _ _ _ (λ e. div_cong n (h e));
    half = λ h e. ≈_trans (half_exact _) (div_cong 2 (h e));
  }

  module _ (E : Encounter) where
    letters_exact : CloseLetters exactly (traced_letters up E) (exact_letters E)
    unfolding traced_letters
    letters_exact = rw (← letters_are E) (letters_close exactly E)

    start_exact : (start (traced up 32) E).lost ≡ false → value (start (traced up 32) E).number ≈ a₀ E
    unfolding start unrounded
    start_exact = start_close exactly E

    term_value : (n : ℕ) → term_lost up E n ≡ false → value (traced_terms up E n).c.number ≈ (terms unrounded (exact_letters E) (a₀ E) n).c
    unfolding term_lost traced_terms
    term_value n e = (terms_close exactly _ _ letters_exact start_exact n).c e

-- where nothing was lost on a term's way, the rounded term is the exact one
pub exact_term_is : (E : Encounter) (N n : ℕ) → n < exact_terms E N → (up : Bool) → value (side_terms up E n).c ≈ c E n
exact_term_is E N n l up = ≈_trans (rw (terms_same up E n).c at (term_value up E n (each_side E n (counted_are E N n l) up))) (term_is E n)

-- ---- what is lost on one side is lost on the other

-- two tests that are false together are one
same_false : (a b : Bool) → (a ≡ false → b ≡ false) → (b ≡ false → a ≡ false) → a ≡ b
same_false false b h k = sym (h refl)
same_false true false h k = k refl
same_false true true h k = refl

module _ (up up' : Bool) where
  -- what one side rounds with no loss the other rounds to the same number, with no loss
  same_rounded : (q : Frac) → lost up 32 q ≡ false → round up 32 q ≡ round up' 32 q
  same_rounded q h = sym (round_exact up' 32 (lit< tt) (round_is up 32 q (lit< tt)).is_scaled (lost_not up 32 q h))

  other_kept : (q : Frac) → lost up 32 q ≡ false → lost up' 32 q ≡ false
  other_kept q h = lost_none up' 32 q (rw (same_rounded q h) at (lost_not up 32 q h))

-- lost on both ways or on neither; and where on neither, one number
record Alike (x x' : Traced) : Type 0 where
  loss : x.lost ≡ x'.lost
  number : x.lost ≡ false → x.number ≡ x'.number

rounding_alike : (q q' : Frac) (before before' : Bool) → before ≡ before' → (before ≡ false → q ≡ q') → Alike (rounding false 32 q before) (rounding true 32 q' before')
unfolding rounding
rounding_alike q q' true before' e h = rw (← e) (record { loss = refl; number = λ z. absurd (true≢false z) })
rounding_alike q q' false before' e h = rw (← e, ← h refl) (record { loss = same_false _ _ (other_kept false true q) (other_kept true false q); number = same_rounded false true q })

sides_alike : Within (traced false 32) (traced true 32) (λ w x x'. Alike x x')
unfolding traced
sides_alike = record {
  fraction = λ q. rounding_alike q q false false refl (λ _. refl);
  more = λ l h. h;
  sum = λ h k. rounding_alike _ _ _ _ (λ i. h.loss i || k.loss i) (λ e. let (a, b) = neither _ _ e in λ i. value (h.number a i) ⊕ value (k.number b i));
  product = λ h k. rounding_alike _ _ _ _ (λ i. h.loss i || k.loss i) (λ e. let (a, b) = neither _ _ e in λ i. value (h.number a i) ⊗ value (k.number b i));
  quotient = λ n h. rounding_alike _ _ _ _ h.loss (λ e. λ i. value (h.number e i) ÷ n);
  half = λ h. record { loss = h.loss; number = λ e. ap half (h.number e) };
}

pub same_ways : (E : Encounter) (n : ℕ) → term_lost false E n ≡ term_lost true E n
unfolding term_lost traced_terms traced_letters
same_ways E n = (terms_close sides_alike _ _ (letters_close sides_alike E) (start_close sides_alike E) n).c.loss
