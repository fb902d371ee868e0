-- The listing by records.
use mathlib.Core.Path.{◌≡◌, refl, sym, ◌∙◌, ap, subst}
use mathlib.Core.Bool.{Bool, true, false, cond, ◌||◌}
use mathlib.Core.List.{List, [], ◌++◌, append_assoc}
use Prim.Native.Nat.{ℕ, zero, suc, ◌+◌, ◌-◌, ◌*◌, ◌≤◌, ◌<◌}
use native.Mathlib.Omega.{arith}
use borrow.Author.Tests.{lt-ltb, le-ltb}
use lib.Dec.{ltb, T}
use lib.ListN.{length, take, drop, get_or, length-take, length-append}
use lib.Seq.{length-take-le}
use Rattle.encounter.specs.declared.state.Session.{Session}
use Rattle.exact.specs.Records.{body_length, bad, request_of}
use Rattle.exact.specs.Refusals.{refuses_1, refuses_2, request_at, refusal}
use Rattle.encounter.specs.Calls.{history_of, outcome, Reached}
use Rattle.records.specs.declared.Taken.{Taken}
use Rattle.records.specs.RecordCall.{next_at, record_call}
use Rattle.listing.specs.Line.{line, room}
use Rattle.listing.specs.declared.script.Piece.{Piece}
use Rattle.listing.specs.Put.{Put, PutLine}
use Rattle.listing.proofs.Putting.{dropped}
use Rattle.listing.specs.Listing.{is_final, lines, listing, Written, nothing, more, PieceOf}

-- ---- a record that does not end the script lies before the next one

pub next_after : (l : List ℕ) (i : ℕ) (s : Session) → is_final (record_call l i s).answer ≡ false → i < (record_call l i s).next
unfolding record_call next_at request_at outcome refusal is_final
next_after l i s h = go (refuses_1 l i) (refuses_2 l i) h
  where
    go : (a b : Bool) → is_final (outcome (history_of s) (cond a (bad 1) (cond b (bad 2) (request_of (get_or l i 0) l (i + 1)))) s).answer ≡ false → i < cond (a || b) i (i + 1 + body_length (get_or l i 0))
    go true b h = absurd (subst T h tt)
    go false true h = absurd (subst T h tt)
    go false false h = omega arith

pub next_is : (l : List ℕ) (i : ℕ) (s : Session) (t : Taken) → t ≡ record_call l i s → is_final t.answer ≡ false → i < t.next
next_is l i s t e f = rw e (next_after l i s (rw e at f))

-- ---- the listing

pub listing_end : (l : List ℕ) (i : ℕ) (s : Session) → length l ≤ i → listing l i s ≡ []
unfolding listing lines
listing_end l i s h =
    let e : length l - i ≡ 0 = omega arith in
    rw e

unless : (b : Bool) {x y : List ℕ} → (b ≡ false → x ≡ y) → cond b [] x ≡ cond b [] y
unless true f = refl
unless false f = f refl

-- more records than there are bytes change nothing
same : (k j : ℕ) (l : List ℕ) (i : ℕ) (s : Session) → length l ≤ i + k → length l ≤ i + j → lines k l i s ≡ lines j l i s
unfolding lines
same zero zero l i s h g = refl
same zero (suc j) l i s h g = rw (le-ltb i (length l) (omega arith))
same (suc k) zero l i s h g = rw (le-ltb i (length l) (omega arith))
same (suc k) (suc j) l i s h g =
    let t = record_call l i s in
    ap (λ (x : List ℕ). cond (ltb i (length l)) (line i (get_or l i 0) t.answer ++ x) [])
    (unless (is_final t.answer) (λ e. let m = next_after l i s e in same k j l t.next t.session (omega arith) (omega arith)))

pub listing_step :
    (l : List ℕ) (i : ℕ) (s : Session) →
    i < length l →
    listing l i s ≡
    line i (get_or l i 0) (record_call l i s).answer ++
    cond (is_final (record_call l i s).answer) [] (listing l (record_call l i s).next (record_call l i s).session)
unfolding listing lines
listing_step l i s h =
    let e : length l - i ≡ suc (length l - suc i) = omega arith in
    let t = record_call l i s in
    rw (e, lt-ltb i (length l) h)
    (ap (λ (x : List ℕ). line i (get_or l i 0) t.answer ++ x)
    (unless (is_final t.answer) (λ f. let m = next_after l i s f in same (length l - suc i) (length l - t.next) l t.next t.session (omega arith) (omega arith))))

-- ---- the text so far

-- the piece's bytes, then the listing from its next position on, are the listing due, and the piece is not at its end
pub record Going (l : List ℕ) (i₀ : ℕ) (s₀ : Session) (before out : List ℕ) (p : Piece) : Type 0 where
  pub written : Written l (length before) i₀ s₀ (take p.used out) p.next p.session
  pub is : take p.used out ++ listing l p.next p.session ≡ listing l i₀ s₀
  pub reached : Reached p.session
  pub within : p.used ≤ length out
  pub rest : drop p.used out ≡ drop p.used before
  pub same_length : length out ≡ length before
  pub few : p.used + room * i₀ ≤ room * p.next
  pub goes_on : p.ended ≡ false

pub going_start : (l : List ℕ) (i : ℕ) (s : Session) (out : List ℕ) → Reached s → Going l i s out out (record { used = 0; next = i; session = s; ended = false })
going_start l i s out h =
    record { written = nothing; is = refl; reached = h; within = omega arith; rest = refl; same_length = refl; few = omega arith; goes_on = refl }

-- one line more
module _ (l : List ℕ) (i₀ : ℕ) (s₀ : Session) (before out out' : List ℕ) (p : Piece) (end : ℕ) (t : Taken) where
  module _
      (g : Going l i₀ s₀ before out p)
      (h : p.next < length l)
      (e : t ≡ record_call l p.next p.session)
      (put : PutLine out out' p.used p.next (get_or l p.next 0) t.answer end)
      (m : room ≤ length out - p.used)
    where
      r : p.used + room ≤ length out
      r = omega (arith, g.within)

      w : Put out out' p.used (line p.next (get_or l p.next 0) t.answer) end
      w = put.written r

      text : take end out' ++ cond (is_final t.answer) [] (listing l t.next t.session) ≡ listing l i₀ s₀
      text =
          ap (λ (x : List ℕ). x ++ cond (is_final t.answer) [] (listing l t.next t.session)) w.is
          ∙ append_assoc (take p.used out) (line p.next (get_or l p.next 0) t.answer) (cond (is_final t.answer) [] (listing l t.next t.session))
          ∙ ap (λ (x : List ℕ). take p.used out ++ x)
          (ap (λ (x : Taken). line p.next (get_or l p.next 0) x.answer ++ cond (is_final x.answer) [] (listing l x.next x.session)) e ∙ sym (listing_step l p.next p.session h))
          ∙ g.is

      longer : Written l (length before) i₀ s₀ (take end out') t.next t.session
      longer =
          subst (λ (x : List ℕ). Written l (length before) i₀ s₀ x t.next t.session) (sym w.is)
          (subst (λ (x : Taken). Written l (length before) i₀ s₀ (take p.used out ++ line p.next (get_or l p.next 0) x.answer) x.next x.session) (sym e)
          (more g.written h (omega (arith, r, g.same_length, length-take-le p.used out g.within))))

      fits : end ≤ length out'
      fits =
          let text = line p.next (get_or l p.next 0) t.answer in
          let a = sym (length-take end out') ∙ ap length w.is ∙ length-append (take p.used out) text ∙ ap (λ (n : ℕ). n + length text) (length-take-le p.used out g.within) in
          omega (arith, a, w.ends)

      past : drop end out' ≡ drop end before
      past = w.rest ∙ rw w.ends (dropped out before p.used (length (line p.next (get_or l p.next 0) t.answer)) g.rest)

      pub going_on : is_final t.answer ≡ false → Reached t.session → Going l i₀ s₀ before out' (record { used = end; next = t.next; session = t.session; ended = p.ended })
      going_on f q =
          let m = next_is l p.next p.session t e f in
          record { written = longer; is = rw f at text; reached = q; within = fits; rest = past; same_length = w.same ∙ g.same_length; few = omega (arith, g.few, put.short); goes_on = g.goes_on }

      pub going_stop : is_final t.answer ≡ true → Reached t.session → PieceOf l i₀ s₀ before out' (record { used = end; next = t.next; session = t.session; ended = true })
      going_stop f q =
          record { written = longer; is = rw f at text; left = λ z. absurd (subst T z tt); full = λ z. absurd (subst T z tt); few = λ z. absurd (subst T z tt); reached = q; within = fits; rest = past; same = w.same ∙ g.same_length }

pub going_full :
    (l : List ℕ) (i₀ : ℕ) (s₀ : Session) (before out : List ℕ) (p : Piece) →
    Going l i₀ s₀ before out p →
    p.next < length l →
    length out - p.used < room →
    PieceOf l i₀ s₀ before out p
going_full l i₀ s₀ before out p g k h =
    record { written = g.written; is = rw g.goes_on g.is; left = λ n. k; full = λ n. omega (arith, g.same_length, g.within); few = λ n. g.few; reached = g.reached; within = g.within; rest = g.rest; same = g.same_length }

pub going_end :
    (l : List ℕ) (i₀ : ℕ) (s₀ : Session) (before out : List ℕ) (p : Piece) →
    Going l i₀ s₀ before out p →
    length l ≤ p.next →
    PieceOf l i₀ s₀ before out (record p { ended = true })
going_end l i₀ s₀ before out p g h =
    record {
      written = g.written;
      is = rw (listing_end l p.next p.session h) at g.is;
      left = λ z. absurd (subst T z tt);
      full = λ z. absurd (subst T z tt);
      few = λ z. absurd (subst T z tt);
      reached = g.reached;
      within = g.within;
      rest = g.rest;
      same = g.same_length;
    }
