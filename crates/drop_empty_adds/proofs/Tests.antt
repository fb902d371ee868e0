-- Tests: one of two that is true, and two that come out the same.
use mathlib.Core.Path.{◌≡◌, refl, sym}
use mathlib.Core.Bool.{Bool, true, false, ◌||◌}
use Prim.Native.Nat.{ℕ, ◌≤◌, ◌<◌}
use borrow.Author.Tests.{lt-ltb, le-ltb, ltb-true, ltb-false, le-leb, lt-leb, leb-true, leb-false}
use lib.Dec.{ltb, leb}

pub or_true : (t : Bool) → t || true ≡ true
or_true true = refl
or_true false = refl

module _ (a b c d : ℕ) where
  pub same_ltb : (a < b → c < d) → (b ≤ a → d ≤ c) → ltb a b ≡ ltb c d
  same_ltb f g = go (ltb a b) refl
    where
      go : (t : Bool) → ltb a b ≡ t → t ≡ ltb c d
      go true e = sym (lt-ltb c d (f (ltb-true a b e)))
      go false e = sym (le-ltb c d (g (ltb-false a b e)))

  pub same_leb : (a ≤ b → c ≤ d) → (b < a → d < c) → leb a b ≡ leb c d
  same_leb f g = go (leb a b) refl
    where
      go : (t : Bool) → leb a b ≡ t → t ≡ leb c d
      go true e = sym (le-leb c d (f (leb-true a b e)))
      go false e = sym (lt-leb c d (g (leb-false a b e)))
