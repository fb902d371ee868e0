-- Laws of lists: of a property of every element, and of lists of lists.
use mathlib.Core.Path.{◌≡◌, refl, ap, ◌∙◌}
use mathlib.Core.List.{List, [], ◌∷◌, ◌++◌, map, map-append, flatten}
use Prim.Native.Nat.{ℕ, zero, suc, ◌*◌, ◌≤◌, ◌<◌}
use native.Mathlib.Omega.{arith}
use lib.ListN.{length, get_or, set, replicate, length-append}
use Rattle.encounter.specs.Enclosure.{Every}

-- ---- every element

module _ {A : Type 0} (P : A → Type 0) where
  pub every_set : (l : List A) → Every P l → (i : ℕ) (a : A) → P a → Every P (set l i a)
  every_set [] e i a p = tt
  every_set (x ∷ l) e zero a p = (p, e.1)
  every_set (x ∷ l) e (suc i) a p = (e.0, every_set l e.1 i a p)

  pub every_get : (l : List A) → Every P l → (i : ℕ) (d : A) → P d → P (get_or l i d)
  every_get [] e i d p = p
  every_get (x ∷ l) e zero d p = e.0
  every_get (x ∷ l) e (suc i) d p = every_get l e.1 i d p

  pub every_same : (n : ℕ) (a : A) → P a → Every P (replicate n a)
  every_same zero a p = tt
  every_same (suc n) a p = (p, every_same n a p)

  pub every_append : (k l : List A) → Every P k → Every P l → Every P (k ++ l)
  every_append [] l d e = e
  every_append (x ∷ k) l d e = (d.0, every_append k l d.1 e)

  pub every_map : {B : Type 0} (f : B → A) (l : List B) → Every (λ b. P (f b)) l → Every P (map f l)
  every_map f [] e = tt
  every_map f (b ∷ l) e = (e.0, every_map f l e.1)

pub every_also : {A : Type 0} (P Q : A → Type 0) → ((a : A) → P a → Q a) → (l : List A) → Every P l → Every Q l
every_also P Q f [] e = tt
every_also P Q f (x ∷ l) e = (f x e.0, every_also P Q f l e.1)

-- ---- lists of lists

pub every_flat : {A : Type 0} (P : A → Type 0) (t : List (List A)) → Every (Every P) t → Every P (flatten t)
unfolding flatten
every_flat P [] e = tt
every_flat P (l ∷ t) e = every_append P l (flatten t) e.0 (every_flat P t e.1)

pub flat_length : {A : Type 0} (k : ℕ) (t : List (List A)) → Every (λ (l : List A). length l ≤ k) t → length (flatten t) ≤ length t * k
unfolding flatten
flat_length k [] e = omega arith
flat_length k (l ∷ t) e = omega (arith, length-append l (flatten t), flat_length k t e.1, e.0)

pub map_flat : {A B : Type 0} (f : A → B) (t : List (List A)) → map f (flatten t) ≡ flatten (map (map f) t)
unfolding flatten
map_flat f [] = refl
map_flat {B = B} f (l ∷ t) = map-append f l (flatten t) ∙ ap (λ (r : List B). map f l ++ r) (map_flat f t)

pub map_set : {A B : Type 0} (f : A → B) (l : List A) (i : ℕ) (a : A) → map f (set l i a) ≡ set (map f l) i (f a)
map_set f [] i a = refl
map_set f (x ∷ l) zero a = refl
map_set {B = B} f (x ∷ l) (suc i) a = ap (λ (r : List B). f x ∷ r) (map_set f l i a)

pub get_map : {A B : Type 0} (f : A → B) (l : List A) (i : ℕ) (a : A) (b : B) → i < length l → get_or (map f l) i b ≡ f (get_or l i a)
get_map f [] i a b h = absurd (let z : ⊥ = omega arith in z)
get_map f (x ∷ l) zero a b h = refl
get_map f (x ∷ l) (suc i) a b h = get_map f l i a b (omega arith)
