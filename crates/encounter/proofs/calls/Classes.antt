-- The class of two ends by cases, that of an accepted read, and two reads of one encounter.
use mathlib.Core.Path.{◌≡◌, refl, sym, ◌∙◌, ap}
use mathlib.Core.Bool.{Bool, true, false, not, ◌&&◌, false≢true, not-not}
use Prim.Native.Nat.{ℕ, ◌+◌, ◌≤◌}
use native.Mathlib.Omega.{arith}
use Rattle.exact.specs.declared.Conjunction.{Conjunction}
use Rattle.exact.specs.declared.Scaled.{Scaled}
use Rattle.exact.specs.Fraction.{Frac, ◌≼◌, above}
use Rattle.exact.specs.Numbers.{exponential_cut}
use Rattle.exact.specs.Scaled.{value}
use Rattle.exact.specs.Series.{quotient}
use Rattle.exact.specs.Steps.{lower_end, upper_end, alert, clear}
use Rattle.exact.specs.Refusals.{Accepted, refuses_23}
use Rattle.exact.proofs.Enclosure.{enclosed}
use Rattle.exact.proofs.LowerEnds.{lower_end_never_falls}
use Rattle.exact.proofs.Fractions.{≼_refl, ≼_trans, mul_mono}
use Rattle.exact.proofs.Order.{at_most_yes, at_most_holds}
use Rattle.encounter.specs.declared.state.Session.{Session}
use Rattle.encounter.specs.declared.state.Class.{Class}
use Rattle.encounter.specs.declared.state.Class.TheVariants.{Clear, Alert, Open}
use Rattle.encounter.specs.Session.{conjunction_of, falls_under, class_of, bracket}
use Rattle.encounter.specs.Calls.{reads, call}
use Rattle.encounter.specs.Claims.{Readable, OneEncounter, Classed}
use Rattle.encounter.proofs.calls.AcceptedReads.{read_of}

-- a fraction is clear just where it is no alert
clear_is : (p : Frac) → clear p ≡ not (alert p)
unfolding clear above alert
clear_is p = refl

alert_is : (p : Frac) → alert p ≡ not (clear p)
alert_is p = sym (not-not (alert p)) ∙ ap not (sym (clear_is p))

module _ (x y : Scaled) where
  pub is_alert : alert (value x) ≡ true → Alert ≡ class_of x y
  unfolding class_of falls_under
  is_alert a = rw a

  module _ (a : alert (value x) ≡ false) where
    pub is_open : alert (value y) ≡ true → Open ≡ class_of x y
    unfolding class_of falls_under
    is_open b = rw (a, clear_is (value y), b)

    pub is_clear : alert (value y) ≡ false → Clear ≡ class_of x y
    unfolding class_of falls_under
    is_clear b = rw (a, clear_is (value y), b)

-- ---- two ends in order

-- above an alert all are alerts and none is clear; below a clear fraction all are clear
alert_up : {p q : Frac} → p ≼ q → alert p ≡ true → alert q ≡ true
unfolding alert
alert_up l a = at_most_yes _ _ (≼_trans (at_most_holds _ _ a) (mul_mono l (≼_refl _)))

not_clear_up : {p q : Frac} → p ≼ q → alert p ≡ true → clear q ≡ false
not_clear_up {q = q} l a = clear_is q ∙ ap not (alert_up l a)

clear_down : {p q : Frac} → p ≼ q → clear q ≡ true → clear p ≡ true
clear_down {p} {q} l c = clear_is p ∙ go (alert p) (not_clear_up l)
  where
    go : (a : Bool) → (a ≡ true → clear q ≡ false) → not a ≡ true
    go true f = absurd (false≢true (sym (f refl) ∙ c))
    go false f = refl

module _ (x y : Scaled) (l : value x ≼ value y) where
  its_own : falls_under x y (class_of x y) ≡ true
  its_own = go (alert (value x)) (alert (value y)) refl refl
    where
      go : (a b : Bool) → alert (value x) ≡ a → alert (value y) ≡ b → falls_under x y (class_of x y) ≡ true
      go true b a e = rw (← is_alert x y a) (unfold falls_under in a)
      go false true a b = rw (← is_open x y a b) (unfold falls_under in rw (a, clear_is (value y), b))
      go false false a b = rw (← is_clear x y a b) (unfold falls_under in rw (clear_is (value y), b))

  no_other : (k : Class) → falls_under x y k ≡ true → k ≡ class_of x y
  unfolding falls_under
  no_other Alert e = is_alert x y e
  no_other Clear e = is_clear x y (alert_is (value x) ∙ ap not (clear_down l e)) (alert_is (value y) ∙ ap not e)
  no_other Open e = go (alert (value x)) (alert (value y)) refl refl (rw (clear_is (value y)) at e)
    where
      go : (a b : Bool) → alert (value x) ≡ a → alert (value y) ≡ b → not a && not (not b) ≡ true → Open ≡ class_of x y
      go true b ea eb e = absurd (false≢true e)
      go false true ea eb e = is_open x y ea eb
      go false false ea eb e = absurd (false≢true e)

-- ---- an accepted read

module _ (C : Conjunction) (h : Accepted C.encounter) (N : ℕ) (l : 1 ≤ N) (r : refuses_23 C.encounter N ≡ false) where
  in_order : value (lower_end C.encounter N) ≼ value (upper_end C.encounter N)
  in_order = let (a, b) = enclosed h N l r N exponential_cut (omega arith) (omega arith) in ≼_trans a b

  of_read : Classed C.encounter N (bracket C N)
  unfolding bracket
  of_read =
      let own = its_own _ _ in_order in
      record {
        its_own = own;
        no_other = no_other _ _ in_order;
        never_both = not_clear_up in_order;
        quotient_alert = λ e N' K n k. alert_up (enclosed h N l r N' K n k).0 (unfold falls_under in rw e at own);
        quotient_clear = λ e N' K n k. clear_down (enclosed h N l r N' K n k).1 (unfold falls_under in rw e at own);
      }

pub classes : {s : Session} → Readable s → Classed s.encounter s.N (call reads s).answer
classes {s} r = let f = read_of r in rw f.is (of_read (conjunction_of s) f.fine s.N f.low f.passes)

-- ---- two reads of one encounter

module _ {s s' : Session} (t : OneEncounter s s') where
  pub no_reversal : (call reads s).answer.class ≡ Alert → (call reads s').answer.class ≡ Clear → ⊥
  no_reversal a c =
      let N = s.N + s'.N in
      let q = quotient s.encounter N exponential_cut in
      let a' : alert q ≡ true = (classes t.first).quotient_alert a N exponential_cut (omega arith) (omega arith) in
      let c' : clear q ≡ true = rw t.same ((classes t.second).quotient_clear c N exponential_cut (omega arith) (omega arith)) in
      false≢true (sym (not_clear_up (≼_refl q) a') ∙ c')

  module _ (l : s.N ≤ s'.N) where
    pub never_falls : value (call reads s).answer.lower ≼ value (call reads s').answer.lower
    unfolding bracket
    never_falls = rw ((read_of t.first).is, (read_of t.second).is, t.same) (lower_end_never_falls s'.encounter s.N s'.N l)

    pub alert_remains : (call reads s).answer.class ≡ Alert → (call reads s').answer.class ≡ Alert
    alert_remains a = sym ((classes t.second).no_other Alert (unfold falls_under in alert_up never_falls (unfold falls_under in rw a at (classes t.first).its_own)))
