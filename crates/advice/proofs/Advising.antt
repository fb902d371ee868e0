-- What a session from the calls answers, and what holds of it at that order and later.
use mathlib.Core.Path.{◌≡◌, refl, sym, ◌∙◌, ap, subst}
use mathlib.Core.Bool.{Bool, true, false, cond}
use mathlib.Core.List.{List}
use mathlib.Core.Logic.{◌⊎◌, inl, inr, ⊎_elim}
use Prim.Native.Nat.{ℕ, ◌+◌, ◌-◌, ◌*◌, ◌^◌, ◌≤◌, ◌<◌}
use native.Mathlib.Nat.{eq-zero-or-pos}
use native.Mathlib.Omega.{arith}
use borrow.Author.Tests.{ltb-true, ltb-false}
use lib.Dec.{ltb}
use Rattle.std.specs.Prelude.{Option, Some, None, Ok, Err}
use Rattle.exact.specs.declared.refusals.Refusal.TheVariants.{NotBegun}
use Rattle.exact.specs.declared.Encounter.{Encounter}
use Rattle.exact.specs.declared.Scaled.{Scaled}
use Rattle.exact.specs.Fraction.{◌≼◌, ◌⊗◌, ◌over◌, whole}
use Rattle.exact.specs.Scaled.{value}
use Rattle.exact.specs.Steps.{M, sum_to, tail_bound}
use Rattle.exact.specs.Refusals.{refuses_23}
use Rattle.exact.proofs.Fractions.{≼_refl, ≼_trans, mul_mono}
use Rattle.exact.proofs.Accepted.{facts}
use Rattle.exact.proofs.Order.{above_no}
use Rattle.encounter.specs.declared.state.Session.{Session}
use Rattle.encounter.specs.Session.{empty, state, conjunction_of, counted, bracket}
use Rattle.encounter.specs.Calls.{adds, reads, call, Reached, after}
use Rattle.encounter.specs.Enclosure.{Encloses}
use Rattle.encounter.specs.Private.Held.{Begun}
use Rattle.encounter.proofs.calls.Answering.{history_none, history_some, add_taken, read_taken}
use Rattle.encounter.proofs.calls.Invariant.{begun, told, encloses}
use Rattle.advice.specs.Orders.{largest_M, Enough, Orders}
use Rattle.advice.specs.Private.Order.{order_for, IsEntry}
use Rattle.advice.specs.Advice.{taken_up, entry_for, advice, Says}
use Rattle.advice.specs.Claims.{ReadsClose, Claims}
use Rattle.advice.proofs.Enough.{later}
use Rattle.advice.proofs.TakenUp.{not_below, least, one_at_least}
use Rattle.advice.proofs.TailBound.{tail_small}
use Rattle.advice.proofs.Test.{first, range, entries}
use Rattle.advice.specs.Private.Positive.{Positive}
use Rattle.advice.proofs.Upper.{M_is, M_positive}

-- test 23 passes where 2W is at most N + 2, for a whole W not below M
passes : (E : Encounter) (W N : ℕ) → value (M E) ≼ whole W → 2 * W ≤ N + 2 → refuses_23 E N ≡ false
unfolding refuses_23
passes E W N m l = above_no _ _ (≼_trans (mul_mono (≼_refl (whole 2)) m) (unfold ◌⊗◌ whole in record { le = omega (arith, l) }))

-- ---- the answer

pub advice_none : (s : Session) → s.N ≡ 0 → Err NotBegun ≡ advice s
unfolding advice
advice_none s z = rw (history_none s z)

advice_some : (s : Session) → (s.N ≡ 0 → ⊥) → advice s ≡ Ok (entry_for (taken_up (value (M s.encounter))))
unfolding advice
advice_some s some = rw (history_some s some)

not_empty : (s : Session) → Begun s → s.N ≡ 0 → ⊥
not_empty s b z = omega (arith, b.low, z)

-- the code's answer, on a session with an encounter
advice_is : (s : Session) → Begun s → Ok (entry_for (taken_up (value s.M))) ≡ advice s
advice_is s b = ap (λ (x : Scaled). Ok (entry_for (taken_up (value x)))) (M_is s b) ∙ sym (advice_some s (not_empty s b))

-- the same from what the code has
pub held_positive : (s : Session) → Reached s → (s.N ≡ 0 → ⊥) → Positive s.M
held_positive s r some = M_positive s (begun s r some)

pub advice_some_is : (s : Session) (a : Option ℕ) → Reached s → (s.N ≡ 0 → ⊥) → a ≡ entry_for (taken_up (value s.M)) → Ok a ≡ advice s
advice_some_is s a r some e = ap Ok e ∙ advice_is s (begun s r some)

-- a session from the calls is empty or has an encounter
empty_or_begun : (s : Session) → Reached s → (s.N ≡ 0) ⊎ Begun s
empty_or_begun s r = ⊎_elim (λ z. inl z) (λ p. inr (begun s r (λ z. omega (arith, p, z)))) (eq-zero-or-pos s.N)

-- the empty session has no encounter that is begun
mixed : (s s' : Session) → Reached s → s.N ≡ 0 → Begun s' → s.encounter ≡ s'.encounter → ⊥
mixed s s' r z b e =
    let empty-is : empty ≡ s = rw (history_none s z) at (told r) in
    let R : 0 ≡ s'.encounter.R = ap (λ (x : Session). x.encounter.R) empty-is ∙ ap (λ (E : Encounter). E.R) e in
    omega (arith, R, (facts b.fine).bounds.R_pos)

-- ---- the advice is the encounter's

same : {s s' : Session} → Reached s → Reached s' → s.encounter ≡ s'.encounter → advice s ≡ advice s'
same {s} {s'} r r' e = ⊎_elim
    (λ z. ⊎_elim (λ z'. sym (advice_none s z) ∙ advice_none s' z') (λ b'. absurd (mixed s s' r z b' e)) (empty_or_begun s' r'))
    (λ b. ⊎_elim (λ z'. absurd (mixed s' s r' z' b (sym e))) (λ b'. advice_some s (not_empty s b) ∙ ap (λ (E : Encounter). Ok (entry_for (taken_up (value (M E))))) e ∙ sym (advice_some s' (not_empty s' b'))) (empty_or_begun s' r'))
    (empty_or_begun s r)

-- what the entry for the session's M says of the session
entry_says : (s : Session) → Begun s → (a : Option ℕ) → IsEntry (taken_up (value s.M)) a → Says s (Ok a)
entry_says s b (Some n) (l, h) = (b.low, l, h)
entry_says s b None l = (b.low, l)

pub says_entry : (s : Session) (a : Option ℕ) → Reached s → (s.N ≡ 0 → ⊥) → IsEntry (taken_up (value s.M)) a → Says s (Ok a)
says_entry s a r some h = entry_says s (begun s r some) a h

-- ---- by a table of orders

module _ {table : List ℕ} (o : Orders table) where
  entry_is : (W : ℕ) → 1 ≤ W → IsEntry W (entry_for W)
  unfolding entry_for
  entry_is W p = go (ltb largest_M W) refl
    where
      go : (t : Bool) → ltb largest_M W ≡ t → IsEntry W (cond t None (Some (order_for W)))
      go true e = ltb-true largest_M W e
      go false e = let l = ltb-false largest_M W e in (l, entries o W p l)

  says : {s : Session} → Reached s → Says s (advice s)
  says {s} r =
      let W = taken_up (value s.M) in
      ⊎_elim (λ z. rw (← advice_none s z) (z, refl)) (λ b. rw (← advice_is s b) (entry_says s b (entry_for W) (entry_is W (one_at_least (M_positive s b))))) (empty_or_begun s r)

  -- ---- a session that is advised the order n

  module _ {s : Session} {n : ℕ} (r : Reached s) (a : advice s ≡ Ok (Some n)) where
    said : Says s (Ok (Some n))
    said = subst (Says s) a (says r)

    held : Begun s
    held = begun s r (λ z. let f : ⊥ = omega (arith, said.0, z) in f)

    W : ℕ
    W = taken_up (value s.M)

    pub lies : (13 ≤ n) × (n ≤ 708)
    lies = range said.2 (one_at_least (M_positive s held)) said.1

    module _ (l : n ≤ s.N) where
      enough : Enough W s.N
      unfolding W
      enough = later W n s.N l said.2.enough

      M≤ : value (M s.encounter) ≼ whole W
      unfolding W
      M≤ = rw (← M_is s held) (not_below (value s.M))

      passed : refuses_23 s.encounter s.N ≡ false
      passed = passes s.encounter W s.N M≤ enough.passes

      read_is : (call reads s).answer ≡ bracket (conjunction_of s) s.N
      read_is = sym (read_taken s (not_empty s held) passed refl)

      small : tail_bound s.encounter s.N ≼ (1 over (2 ^ 31)) ⊗ value (sum_to false s.encounter s.N)
      small = tail_small s.encounter W s.N M≤ enough held.high

      pub reads_close : ReadsClose s
      reads_close =
          let e : Encloses s.encounter s.N (call reads s).answer = rw read_is (encloses (conjunction_of s) held.fine held.low passed) in
          record { condition = small; readable = record { reached = r; accepted = rw read_is (unfold bracket in refl) }; encloses = e; close = e.close small }

    -- the missing terms
    module _ (l : s.N < n) where
      added : call (adds (n - s.N)) s ≡ record { answer = counted n; session = state (conjunction_of s) n }
      added =
          let e : s.N + (n - s.N) ≡ n = omega arith in
          sym (add_taken s (n - s.N) (λ z. omega arith) (not_empty s held) (rw e (omega (arith, lies))) (rw e) (rw e))

      pub adds_up : ((call (adds (n - s.N)) s).answer.refusal ≡ 0) × ((call (adds (n - s.N)) s).session.N ≡ n) × (advice (call (adds (n - s.N)) s).session ≡ Ok (Some n))
      adds_up = (rw added refl, rw added (unfold state in refl), same (after r (adds (n - s.N))) r (rw added (unfold state in refl)) ∙ a)

  pub claims : Claims
  claims = record {
    taken_up_is = λ q. record { not_below = not_below q; least = least q };
    entries = entries o;
    first = first;
    later = later;
    same = same;
    lies = lies;
    adds_up = adds_up;
    close = reads_close;
  }
