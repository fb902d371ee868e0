-- The listing is the lines of the answers.
use mathlib.Core.Path.{◌≡◌, refl, sym, subst, ap, ◌∙◌}
use mathlib.Core.Bool.{Bool, true, false, cond, ◌||◌}
use mathlib.Core.List.{List, ◌++◌}
use Prim.Native.Nat.{ℕ, ◌+◌}
use native.Mathlib.Omega.{arith}
use lib.Dec.{eqb, T}
use lib.ListN.{length, take, take-append-drop, drop, get_or, length-drop, length-append, get_or-append}
use lib.Seq.{take-length, drop-drop, drop-append_seam}
use Rattle.exact.specs.Records.{is_kind, u16_at, begin_at, conjunction_at, Request, bad, request_of}
use Rattle.exact.specs.Refusals.{refuses_1, refuses_2, refuses_8, refuses_12, request_at, History, refusal}
use Rattle.encounter.specs.declared.state.Session.{Session}
use Rattle.encounter.specs.Session.{empty}
use Rattle.encounter.specs.Calls.{history_of, outcome, takes, call}
use Rattle.encounter.proofs.calls.Answering.{number}
use Rattle.records.specs.RecordCall.{next_at, record_call}
use Rattle.listing.specs.Line.{line}
use Rattle.listing.specs.Listing.{is_final, listing, printed}
use Rattle.listing.proofs.Lengths.{either}
use Rattle.listing.proofs.Lines.{listing_end, listing_step}
use Rattle.drop_empty_adds.specs.Dropping.{first_length}
use Rattle.drop_empty_adds.specs.Answers.{answered, answers, lines_from}
use Rattle.drop_empty_adds.proofs.SameBytes.{by_kind}
use Rattle.drop_empty_adds.proofs.RefusalNumbers.{OfEach, of_begin, of_conjunction, of_add, of_read}
use Rattle.drop_empty_adds.proofs.FirstRecords.{stops, stops_length, parts, Whole, whole_some, asks, goes_on, goes_alone, starts_with, asks_the_same, kind_at, asks_there, next_there}
use Rattle.drop_empty_adds.proofs.Cutting.{Cuts, end, last, more, cuts}

-- ---- which records end a script

-- a refusal's number is not 1 or 2
abbrev GoesOn : ℕ → Type 0
GoesOn r = eqb r 1 || eqb r 2 ≡ false

each_goes_on : OfEach GoesOn
each_goes_on = (refl, refl, refl, refl, refl, refl, refl, refl, refl, refl, refl)

kinds_go_on : (w : History) (l : List ℕ) (kind : ℕ) → is_kind kind ≡ true → GoesOn (refusal w (request_of kind l 1))
unfolding refusal request_of
kinds_go_on w l =
    by_kind (λ kind. GoesOn (refusal w (request_of kind l 1)))
    (of_begin GoesOn each_goes_on (begin_at l 1))
    (either GoesOn (refuses_12 (u16_at l 1)) refl (of_add GoesOn each_goes_on w (u16_at l 1)))
    (of_read GoesOn each_goes_on w)
    (of_conjunction GoesOn each_goes_on (conjunction_at l 1))

whole_goes_on : (b : List ℕ) (s : Session) → Whole b → is_final (call (takes b 0) s).answer ≡ false
unfolding is_final
whole_goes_on b s w =
    rw (number (history_of s) (request_at b 0) s, asks b (goes_alone b w)) (kinds_go_on (history_of s) b (get_or b 0 0) w.known)

stops_finally : (l : List ℕ) (s : Session) → stops l ≡ true → is_final (call (takes l 0) s).answer ≡ true
unfolding is_final request_at outcome refusal
stops_finally l s z = go (refuses_1 l 0) (refuses_2 l 0) z
  where
    go : (a b : Bool) → a || b ≡ true → is_final (outcome (history_of s) (cond a (bad 1) (cond b (bad 2) (request_of (get_or l 0 0) l 1))) s).answer ≡ true
    go true b z = refl
    go false true z = refl
    go false false z = absurd (subst T (sym z) tt)

-- ---- the lines

-- a record's call, told by its bytes
called : (l : List ℕ) (i : ℕ) (s : Session) (b : List ℕ) → request_at (drop i l) 0 ≡ request_at b 0 → call (takes l i) s ≡ call (takes b 0) s
called l i s b e = ap (λ (q : Request). outcome (history_of s) q s) (asks_there l i ∙ e)

-- the bytes of a first record ask for what it asks
alone : (w : List ℕ) → request_at w 0 ≡ request_at (take (first_length w) w) 0
alone w = go (stops w) refl
  where
    go : (t : Bool) → stops w ≡ t → request_at w 0 ≡ request_at (take (first_length w) w) 0
    go true e = ap (λ (x : List ℕ). request_at x 0) (sym (ap (λ (n : ℕ). take n w) (stops_length w e) ∙ take-length w))
    go false e =
        let n = first_length w in
        ap (λ (x : List ℕ). request_at x 0) (sym (take-append-drop n w)) ∙ asks_the_same (take n w) (parts w e) (drop n w)

pub own_bytes : (l : List ℕ) (i : ℕ) (s : Session) → call (takes l i) s ≡ call (takes (take (first_length (drop i l)) (drop i l)) 0) s
own_bytes l i s = called l i s (take (first_length (drop i l)) (drop i l)) (alone (drop i l))

-- the lines of the records from position i on
pub lines_are : {w : List ℕ} {bs : List (List ℕ)} → Cuts w bs → (l : List ℕ) (i : ℕ) (s : Session) → drop i l ≡ w → listing l i s ≡ lines_from i (answered s bs)
unfolding record_call
lines_are end l i s e = listing_end l i s (omega (arith, length-drop i l, ap length e))
lines_are (last {l = w} some z) l i s e =
    let c : call (takes l i) s ≡ call (takes w 0) s = called l i s w (ap (λ (x : List ℕ). request_at x 0) e) in
    let k : get_or l i 0 ≡ get_or w 0 0 = kind_at l i ∙ ap (λ (x : List ℕ). get_or x 0 0) e in
    listing_step l i s (omega (arith, length-drop i l, ap length e)) ∙ rw (c, k, stops_finally w s z)
lines_are (more {b} {r} {bs} w c) l i s e =
    let d : call (takes l i) s ≡ call (takes b 0) s = called l i s b (ap (λ (x : List ℕ). request_at x 0) e ∙ asks_the_same b w r) in
    let k : get_or l i 0 ≡ get_or b 0 0 = kind_at l i ∙ ap (λ (x : List ℕ). get_or x 0 0) e ∙ get_or-append b r 0 0 (whole_some b w) in
    let n : next_at l i ≡ i + length b =
    next_there l i (ap stops e ∙ goes_on b w r) ∙ ap (λ (x : List ℕ). i + first_length x) e ∙ ap (λ (n : ℕ). i + n) (starts_with b w r) in
    let after : drop (i + length b) l ≡ r = sym (drop-drop (length b) i l) ∙ ap (drop (length b)) e ∙ drop-append_seam b r in
    listing_step l i s (omega (arith, length-drop i l, ap length e, length-append b r, whole_some b w))
    ∙ rw (d, k, n, whole_goes_on b s w)
    (ap (λ (x : List ℕ). line i (get_or b 0 0) (call (takes b 0) s).answer ++ x) (lines_are c l (i + length b) (call (takes b 0) s).session after))

pub as_printed : (l : List ℕ) → refuses_8 l ≡ false → printed l ≡ lines_from 0 (answers l)
unfolding printed
as_printed l z = rw z (lines_are (cuts l) l 0 empty refl)
