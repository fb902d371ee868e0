-- An integer is pos_part - neg_part. Bounds on exponents and equations between them are stated on these two naturals, which `omega` reads.
use mathlib.Core.Path.{◌≡◌, refl, ap}
use mathlib.Core.Bool.{Bool, true, false, not, cond}
use Prim.Native.Nat.{ℕ, zero, suc, ◌+◌, ◌-◌, ◌≤◌, ◌<◌}
use native.Mathlib.Omega.{arith}
use lib.Dec.{T, ltb, ltb→lt, nltb→le}
use lib.IntN.{ℤ, pos, negsuc, sub_ℕ, ◌+ℤ◌, ◌-ℤ◌, neg_ℤ}
use Rattle.exact.specs.Integer.{pos_part, neg_part}

-- integers are equal where their parts balance
pub balanced : (z w : ℤ) → pos_part z + neg_part w ≡ pos_part w + neg_part z → z ≡ w
balanced (pos a) (pos b) h = let e : a ≡ b = omega arith in ap pos e
balanced (pos a) (negsuc b) h = let f : ⊥ = omega arith in absurd f
balanced (negsuc a) (pos b) h = let f : ⊥ = omega arith in absurd f
balanced (negsuc a) (negsuc b) h = let e : a ≡ b = omega arith in ap negsuc e

-- the parts of a difference of naturals
pub pos_sub : (a b : ℕ) → pos_part (sub_ℕ a b) ≡ a - b
pos_sub a b = go (ltb a b) (ltb→lt a b) (nltb→le a b)
  where
    go : (t : Bool) → (T t → a < b) → (T (not t) → b ≤ a) → pos_part (cond t (negsuc (b - suc a)) (pos (a - b))) ≡ a - b
    go true h k = let l = h tt in omega arith
    go false h k = refl

pub neg_sub : (a b : ℕ) → neg_part (sub_ℕ a b) ≡ b - a
neg_sub a b = go (ltb a b) (ltb→lt a b) (nltb→le a b)
  where
    go : (t : Bool) → (T t → a < b) → (T (not t) → b ≤ a) → neg_part (cond t (negsuc (b - suc a)) (pos (a - b))) ≡ b - a
    go true h k = let l = h tt in omega arith
    go false h k = let l = k tt in omega arith

-- the parts of a sum
pub pos_add : (z w : ℤ) → pos_part (z +ℤ w) ≡ (pos_part z + pos_part w) - (neg_part z + neg_part w)
pos_add (pos a) (pos b) = omega arith
pos_add (pos a) (negsuc b) = omega (arith, pos_sub a (suc b))
pos_add (negsuc a) (pos b) = omega (arith, pos_sub b (suc a))
pos_add (negsuc a) (negsuc b) = omega arith

pub neg_add : (z w : ℤ) → neg_part (z +ℤ w) ≡ (neg_part z + neg_part w) - (pos_part z + pos_part w)
neg_add (pos a) (pos b) = omega arith
neg_add (pos a) (negsuc b) = omega (arith, neg_sub a (suc b))
neg_add (negsuc a) (pos b) = omega (arith, neg_sub b (suc a))
neg_add (negsuc a) (negsuc b) = omega arith

pos_neg : (z : ℤ) → pos_part (neg_ℤ z) ≡ neg_part z
pos_neg (pos zero) = refl
pos_neg (pos (suc n)) = refl
pos_neg (negsuc n) = refl

neg_neg : (z : ℤ) → neg_part (neg_ℤ z) ≡ pos_part z
neg_neg (pos zero) = refl
neg_neg (pos (suc n)) = refl
neg_neg (negsuc n) = refl

-- the parts of a difference
pub pos_diff : (z w : ℤ) → pos_part (z -ℤ w) ≡ (pos_part z + neg_part w) - (neg_part z + pos_part w)
pos_diff z w = omega (arith, pos_add z (neg_ℤ w), pos_neg w, neg_neg w)

pub neg_diff : (z w : ℤ) → neg_part (z -ℤ w) ≡ (neg_part z + pos_part w) - (pos_part z + neg_part w)
neg_diff z w = omega (arith, neg_add z (neg_ℤ w), pos_neg w, neg_neg w)

-- the same as equations with no subtraction in them, of which `omega` takes any number
pub bal_sub : (a b : ℕ) → pos_part (sub_ℕ a b) + b ≡ a + neg_part (sub_ℕ a b)
bal_sub a b = omega (arith, pos_sub a b, neg_sub a b)

pub bal_add : (z w : ℤ) → pos_part (z +ℤ w) + (neg_part z + neg_part w) ≡ pos_part z + pos_part w + neg_part (z +ℤ w)
bal_add z w = omega (arith, pos_add z w, neg_add z w)

pub bal_diff : (z w : ℤ) → pos_part (z -ℤ w) + (neg_part z + pos_part w) ≡ pos_part z + neg_part w + neg_part (z -ℤ w)
bal_diff z w = omega (arith, pos_diff z w, neg_diff z w)

-- z is the difference of its parts
pub parts : (z : ℤ) → z ≡ sub_ℕ (pos_part z) (neg_part z)
parts z = balanced _ _ (omega (arith, bal_sub (pos_part z) (neg_part z)))

pub sub_add : (a b t : ℕ) → sub_ℕ a b +ℤ pos t ≡ sub_ℕ (a + t) b
sub_add a b t = balanced _ _ (omega (arith, bal_add (sub_ℕ a b) (pos t), bal_sub a b, bal_sub (a + t) b))

-- ---- the larger of two integers is the other and what they are apart

pub gap : (x y : ℤ) → pos_part (y -ℤ x) ≡ 0 → x ≡ y +ℤ pos (pos_part (x -ℤ y))
gap x y h = balanced _ _ (omega (arith, pos_diff y x, pos_diff x y, bal_add y (pos (pos_part (x -ℤ y)))))

pub gap_above : (x y : ℤ) → (pos_part (y -ℤ x) ≡ 0 → ⊥) → y ≡ x +ℤ pos (pos_part (y -ℤ x))
gap_above x y h = balanced _ _ (omega (arith, pos_diff y x, bal_add x (pos (pos_part (y -ℤ x)))))
