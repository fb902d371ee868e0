-- A run of a script, by the two cases of its length.
use mathlib.Core.Path.{◌≡◌, refl, sym, ◌∙◌, subst}
use mathlib.Core.Bool.{Bool, true, false}
use mathlib.Core.List.{List, append-nil}
use Prim.Native.Nat.{ℕ, ◌+◌, ◌*◌, ◌≤◌, ◌<◌}
use native.Mathlib.Omega.{arith}
use borrow.Author.Tests.{lt-ltb, le-ltb, ltb-true, ltb-false}
use lib.Dec.{T, ltb}
use lib.ListN.{length, length-append}
use Rattle.encounter.specs.Session.{empty}
use Rattle.exact.specs.Numbers.{largest_script}
use Rattle.exact.specs.Refusals.{refuses_8}
use Rattle.listing.specs.Line.{line, room}
use Rattle.listing.specs.Put.{PutLine}
use Rattle.listing.specs.Listing.{PieceOf, printed, too_long}
use Rattle.listing.specs.declared.script.Piece.{Piece}
use Rattle.jinthuol.specs.Run.{RunOf}

-- a line is not empty
long_line : 0 < length (line 0 0 too_long)
unfolding line
long_line = simp length-append (omega arith)

module _ (l before after : List ℕ) (used : ℕ) (long : largest_script < length l) (p : PutLine before after 0 0 0 too_long used) where
  -- the line is there just where there was room
  room_used : room ≤ length before → 0 < used
  room_used r = omega (arith, (p.written r).ends, long_line)

  used_room : 0 < used → room ≤ length before
  used_room n = by (ltb (length before) room) refl
    where
      by : (b : Bool) → ltb (length before) room ≡ b → room ≤ length before
      by true e = omega (arith, (p.full (ltb-true (length before) room e)).0)
      by false e = ltb-false (length before) room e

  unused : used ≤ 0 → length before < used + room
  unused n = by (ltb (length before) room) refl
    where
      by : (b : Bool) → ltb (length before) room ≡ b → length before < used + room
      by true e = omega (arith, ltb-true (length before) room e)
      by false e = absurd (omega (arith, room_used (ltb-false (length before) room e)))

  h : refuses_8 l ≡ true
  unfolding refuses_8
  h = lt-ltb largest_script (length l) long

  said : printed l ≡ line 0 0 too_long
  unfolding printed
  said = rw h

  pub run_long : RunOf l before after (record { used = used; ended = ltb 0 used })
  run_long = record {
    whole = λ e. (p.written (used_room (ltb-true 0 used e))).is ∙ sym said;
    full = λ e. unused (ltb-false 0 used e);
    enough = λ e. lt-ltb 0 used (room_used (omega arith));
    piece = λ k. absurd (subst T (sym h ∙ k) tt);
    long = λ k. (p, refl);
  }

pub run_piece : (l before after : List ℕ) (p : Piece) → length l ≤ largest_script → PieceOf l 0 empty before after p → RunOf l before after (record { used = p.used; ended = p.ended })
unfolding printed
run_piece l before after p short q = record {
  whole = λ e. sym (append-nil _) ∙ (rw e at q.is) ∙ rw h;
  full = q.full;
  enough = λ e. all p.ended refl e;
  piece = λ k. (p, q, refl, refl);
  long = λ k. absurd (subst T (sym k ∙ h) tt);
}
  where
    h : refuses_8 l ≡ false
    h = unfold refuses_8 in le-ltb largest_script (length l) short

    all : (b : Bool) → p.ended ≡ b → room * length l ≤ length before → p.ended ≡ true
    all true e h = e
    all false e h = let f : ⊥ = omega (arith, q.full e, q.few e, q.left e) in absurd f
