-- A piece of what is printed, by the two cases of the script's length, and a run of pieces.
use mathlib.Core.Path.{◌≡◌, refl, sym, ap, subst, ◌∙◌}
use mathlib.Core.Bool.{true, false, cond}
use mathlib.Core.List.{List, [], ◌++◌, append-nil, append_assoc}
use Prim.Native.Nat.{ℕ, ◌+◌, ◌*◌, ◌≤◌, ◌<◌}
use native.Mathlib.Omega.{arith}
use borrow.Author.Tests.{lt-ltb, le-ltb}
use lib.Dec.{T}
use lib.ListN.{length, take, length-take, length-append}
use Rattle.encounter.specs.declared.state.Session.{Session}
use Rattle.encounter.specs.Session.{empty}
use Rattle.encounter.specs.Calls.{Reached}
use Rattle.listing.specs.Line.{line, room}
use Rattle.listing.specs.Put.{PutLine}
use Rattle.listing.specs.Listing.{PieceOf, listing, printed, too_long}
use Rattle.listing.specs.declared.script.Piece.{Piece}
use Rattle.screen.specs.Printing.{piece_size, printed_from, NextOf}
use Rattle.exact.specs.Numbers.{largest_script}
use Rattle.exact.specs.Refusals.{refuses_8}

long_is : (l : List ℕ) (i : ℕ) (s : Session) → largest_script < length l → printed_from l i s ≡ line 0 0 too_long
unfolding printed_from refuses_8
long_is l i s h = rw (lt-ltb largest_script (length l) h)

short_is : (l : List ℕ) (i : ℕ) (s : Session) → length l ≤ largest_script → printed_from l i s ≡ listing l i s
unfolding printed_from refuses_8
short_is l i s h = rw (le-ltb largest_script (length l) h)

-- what is left at the start is what is printed
pub start_is : (l : List ℕ) → printed_from l 0 empty ≡ printed l
unfolding printed_from printed
start_is l = refl

-- what follows a script that is too long is not looked at
pub no_further : (l rest : List ℕ) → largest_script < length l → printed (l ++ rest) ≡ printed l
unfolding printed refuses_8
no_further l rest h = rw (lt-ltb largest_script (length l) h, lt-ltb largest_script (length (l ++ rest)) (omega (arith, length-append l rest))) refl

-- the line of refusal 8 is the last piece
pub next_long :
    (l : List ℕ) (i : ℕ) (s : Session) (before after : List ℕ) (used : ℕ) →
    largest_script < length l →
    piece_size ≡ length before →
    Reached s →
    PutLine before after 0 0 0 too_long used →
    NextOf l i s after (record { used = used; next = i; session = s; ended = true })
next_long l i s before after used h n r p =
    let w = p.written (omega (arith, n)) in
    record {
      is = append-nil _ ∙ w.is ∙ sym (long_is l i s h);
      within = omega (arith, simp length-take at (ap length w.is), w.ends);
      size = w.same ∙ sym n;
      more = λ e. absurd (subst T e tt);
      few = λ e. absurd (subst T e tt);
      left = λ e. absurd (subst T e tt);
      reached = r;
    }

-- lines of the listing are a piece
pub next_short :
    (l : List ℕ) (i : ℕ) (s : Session) (before after : List ℕ) (p : Piece) →
    length l ≤ largest_script →
    piece_size ≡ length before →
    PieceOf l i s before after p →
    NextOf l i s after p
next_short l i s before after p h n q = record {
  is = ap (λ (t : List ℕ). take p.used after ++ cond p.ended [] t) (short_is l p.next p.session h) ∙ q.is ∙ sym (short_is l i s h);
  within = q.within;
  size = q.same ∙ sym n;
  more = λ e. omega (arith, q.full e);
  few = λ e. omega (arith, q.few e, q.full e);
  left = λ e. omega (arith, q.left e);
  reached = q.reached;
}

-- a run at position i with session s, after done bytes: with what is left they are as many as are printed
pub record Going (l : List ℕ) (i : ℕ) (s : Session) (done : ℕ) : Type 0 where
  pub total : done + length (printed_from l i s) ≡ length (printed l)
  pub most : done ≤ room * i
  pub near : i ≤ largest_script
  pub reached : Reached s

pub going_start : (l : List ℕ) (s : Session) → s ≡ empty → Reached s → Going l 0 s 0
going_start l s e r = record { total = rw e (omega (arith, ap length (start_is l))); most = omega arith; near = omega arith; reached = r }

module _ (l : List ℕ) (i : ℕ) (s : Session) (done : ℕ) (after : List ℕ) (p : Piece) (g : Going l i s done) (n : NextOf l i s after p) where
  -- the bytes of the piece and those left after it are those that were left
  sizes : p.used + length (cond p.ended [] (printed_from l p.next p.session)) ≡ length (printed_from l i s)
  sizes = omega (arith, n.within, simp (length-append, length-take) at (ap length n.is))

  pub going_on : p.ended ≡ false → Going l p.next p.session (done + p.used)
  going_on e = record {
    total = omega (arith, g.total, rw e at sizes);
    most = omega (arith, g.most, n.few e);
    near = omega (arith, n.left e);
    reached = n.reached;
  }

  -- the bytes handed over, and then those that were left, are what is printed; so they are with the piece
  pub bytes_on : (bs : List ℕ) → bs ++ printed_from l i s ≡ printed l → p.ended ≡ false → (bs ++ take p.used after) ++ printed_from l p.next p.session ≡ printed l
  bytes_on bs h e = append_assoc bs (take p.used after) _ ∙ ap (λ (t : List ℕ). bs ++ t) (rw e at n.is) ∙ h
