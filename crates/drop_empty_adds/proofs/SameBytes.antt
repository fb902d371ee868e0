-- Records of one kind with the same bytes ask for the same.
use mathlib.Core.Path.{◌≡◌, refl, sym, subst}
use mathlib.Core.Bool.{Bool, true, false, ◌||◌}
use mathlib.Core.List.{List}
use Prim.Native.Nat.{ℕ, ◌+◌, ◌≤◌, ◌<◌}
use native.Mathlib.Omega.{arith}
use borrow.Author.Tests.{eqb-true}
use lib.Dec.{eqb, T}
use lib.ListN.{get_or}
use Rattle.exact.specs.Records.{is_kind, body_length, u16_at, u32_at, begin_at, conjunction_at, request_of}

-- what holds of the four kinds holds of every kind
pub by_kind : (P : ℕ → Type 0) → P 1 → P 2 → P 3 → P 4 → (kind : ℕ) → is_kind kind ≡ true → P kind
unfolding is_kind
by_kind P p q r s kind known = go (eqb kind 1) refl (eqb kind 2) refl (eqb kind 3) refl (eqb kind 4) refl known
  where
    go :
        (a : Bool) → eqb kind 1 ≡ a →
        (b : Bool) → eqb kind 2 ≡ b →
        (c : Bool) → eqb kind 3 ≡ c →
        (d : Bool) → eqb kind 4 ≡ d →
        a || (b || (c || d)) ≡ true →
        P kind
    go true e b f c g d h z = subst P (sym (eqb-true kind 1 e)) p
    go false e true f c g d h z = subst P (sym (eqb-true kind 2 f)) q
    go false e false f true g d h z = subst P (sym (eqb-true kind 3 g)) r
    go false e false f false g true h z = subst P (sym (eqb-true kind 4 h)) s
    go false e false f false g false h z = absurd (subst T (sym z) tt)

module _ (l l' : List ℕ) (i i' : ℕ) where
  -- n bytes are the same, from index i of l and from index i' of l' on
  abbrev pub Same : ℕ → Type 0
  Same n = (k : ℕ) → k < n → get_or l (i + k) 0 ≡ get_or l' (i' + k) 0

  module _ (n : ℕ) (same : Same n) where
    byte : (k j j' : ℕ) → j ≡ i + k → j' ≡ i' + k → k < n → get_or l j 0 ≡ get_or l' j' 0
    byte k j j' e e' h = rw (e, e') (same k h)

    u16 : (k j j' : ℕ) → j ≡ i + k → j' ≡ i' + k → k + 2 ≤ n → u16_at l j ≡ u16_at l' j'
    u16 k j j' e e' h = rw (byte k j j' e e' (omega arith), byte (k + 1) (j + 1) (j' + 1) (omega arith) (omega arith) (omega arith))

    u32 : (k j j' : ℕ) → j ≡ i + k → j' ≡ i' + k → k + 4 ≤ n → u32_at l j ≡ u32_at l' j'
    u32 k j j' e e' h = rw (u16 k j j' e e' (omega arith), u16 (k + 2) (j + 2) (j' + 2) (omega arith) (omega arith) (omega arith))

    begin : 20 ≤ n → begin_at l i ≡ begin_at l' i'
    begin h = rw (
      u32 0 i i' (omega arith) (omega arith) (omega arith),
      u32 4 (i + 4) (i' + 4) refl refl (omega arith),
      u32 8 (i + 8) (i' + 8) refl refl (omega arith),
      u32 12 (i + 12) (i' + 12) refl refl (omega arith),
      u32 16 (i + 16) (i' + 16) refl refl (omega arith),
    )

    conjunction : 28 ≤ n → conjunction_at l i ≡ conjunction_at l' i'
    conjunction h = rw (begin (omega arith), u32 20 (i + 20) (i' + 20) refl refl (omega arith), u32 24 (i + 24) (i' + 24) refl refl (omega arith))

  pub same_request : (kind : ℕ) → is_kind kind ≡ true → Same (body_length kind) → request_of kind l i ≡ request_of kind l' i'
  unfolding request_of body_length
  same_request =
      by_kind (λ kind. Same (body_length kind) → request_of kind l i ≡ request_of kind l' i')
      (λ same. rw (begin 20 same (omega arith)))
      (λ same. rw (u16 2 same 0 i i' (omega arith) (omega arith) (omega arith)))
      (λ same. refl)
      (λ same. rw (conjunction 28 same (omega arith)))
