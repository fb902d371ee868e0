-- The record at a position by cases, as code takes them.
use mathlib.Core.Path.{◌≡◌, refl, sym, ◌∙◌, ap, subst}
use mathlib.Core.Bool.{true, false, cond}
use mathlib.Core.List.{List}
use Prim.Native.Nat.{ℕ, suc, ◌+◌, ◌-◌, ◌≤◌, ◌<◌}
use native.Mathlib.Omega.{arith}
use lib.Dec.{ltb}
use lib.IntN.{pos, negsuc}
use borrow.Author.Tests.{lt-ltb, le-ltb, le-leb, lt-leb}
use lib.ListN.{length, get_or, take, drop, length-drop}
use Rattle.std.proofs.Common.{◌⊎◌, inl, inr}
use Rattle.std.specs.List.{slice_range}
use mir.Syntax.{w32}
use mir.Val.{to_z}
use Rattle.std.proofs.lemmas.List.{take_rest, get_or-take, get_or-drop}
use Rattle.exact.specs.declared.kinds.Kind.{Kind}
use Rattle.exact.specs.declared.kinds.Kind.TheVariants.{Begin, Add, Read, BeginConjunction}
use Rattle.exact.specs.declared.refusals.Refusal.{Refusal}
use Rattle.exact.specs.declared.refusals.Refusal.TheVariants.{NoKind, ShortBody}
use Rattle.exact.specs.Kinds.{kind_byte, number_of}
use Rattle.exact.specs.Records.{is_kind, body_length, u16_at, u32_at, signed, begin_at, Request, begin, add, read, bad, request_of}
use Rattle.exact.specs.Refusals.{refuses_1, refuses_2, request_at, refusal}
use Rattle.encounter.specs.declared.state.Session.{Session}
use Rattle.encounter.specs.declared.state.Answer.{Answer}
use Rattle.encounter.specs.declared.state.Called.{Called}
use Rattle.encounter.specs.Session.{refused}
use Rattle.encounter.specs.Calls.{history_of, outcome, reads, takes, call, Reached, after}
use Rattle.encounter.proofs.calls.Answering.{refused_is, by_cases}
use Rattle.encounter.proofs.calls.Invariant.{told}
use Rattle.records.specs.declared.Taken.{Taken}
use Rattle.records.specs.RecordCall.{next_at, record_call}
use Rattle.records.specs.Private.Made.{made_of}
use Rattle.records.specs.Private.Record.{RecordAt, NoRecordAt}

-- the bits of an i32, read as a signed number
pub signed_is : (x : ℕ) → to_z w32 x ≡ signed x
unfolding signed
signed_is x =
    let e : 4294967296 - suc x ≡ 4294967295 - x = omega arith in
    ap (λ (n : ℕ). cond (ltb x 2147483648) (pos x) (negsuc n)) e

-- ---- a body, and the script that it lies in

known : (kind : Kind) → is_kind (kind_byte kind) ≡ true
unfolding is_kind
known Begin = refl
known Add = refl
known Read = refl
known BeginConjunction = refl

module _ (l : List ℕ) (from : ℕ) (body : List ℕ) (is : body ≡ take (length body) (drop from l)) where
  byte : (j k : ℕ) → k ≡ from + j → j < length body → get_or body j 0 ≡ get_or l k 0
  byte j k e h =
      ap (λ (b : List ℕ). get_or b j 0) is ∙ get_or-take (length body) (drop from l) j 0 h ∙ get_or-drop from l j 0 ∙ ap (λ (n : ℕ). get_or l n 0) (sym e)

  half : (j k : ℕ) → k ≡ from + j → j + 2 ≤ length body → u16_at body j ≡ u16_at l k
  half j k e h = rw (byte j k e (omega arith), byte (j + 1) (k + 1) (omega arith) (omega arith))

  word : (j k : ℕ) → k ≡ from + j → j + 4 ≤ length body → u32_at body j ≡ u32_at l k
  word j k e h =
      let a = half j k e (omega arith) in
      let b = half (j + 2) (k + 2) (omega arith) (omega arith) in
      cc

  five : 20 ≤ length body → begin_at body 0 ≡ begin_at l from
  five h =
      let a = word 0 from (omega arith) (omega arith) in
      let b = word 4 (from + 4) refl (omega arith) in
      let d = word 8 (from + 8) refl (omega arith) in
      let e = word 12 (from + 12) refl (omega arith) in
      let f = word 16 (from + 16) refl (omega arith) in
      cc

  asked : (kind : Kind) → body_length (kind_byte kind) ≤ length body → request_of (kind_byte kind) body 0 ≡ request_of (kind_byte kind) l from
  unfolding body_length request_of
  asked Begin h = ap begin (five h)
  asked Add h = ap add (half 0 from (omega arith) h)
  asked Read h = refl
  asked BeginConjunction h =
      let a = five (omega arith) in
      let b = word 20 (from + 20) refl (omega arith) in
      let d = word 24 (from + 24) refl (omega arith) in
      cc

-- ---- the record at a position

module _ (l : List ℕ) (i : ℕ) where
  pub no_byte : length l ≤ i → NoRecordAt l i NoKind
  unfolding request_at next_at refuses_1
  no_byte h = record { some = omega arith; asks = rw (le-leb (length l) i h); next = rw (le-leb (length l) i h) }

  pub no_kind : i < length l → is_kind (get_or l i 0) ≡ false → NoRecordAt l i NoKind
  unfolding request_at next_at refuses_1
  no_kind h k = record { some = omega arith; asks = rw (lt-leb (length l) i h, k); next = rw (lt-leb (length l) i h, k) }

  -- of a known kind, by what a look for the n bytes of its body in the rest of the script gives
  module _ (kind : Kind) (n : ℕ) (k : kind_byte kind ≡ get_or l i 0) (h : i < length l) (e : n ≡ body_length (kind_byte kind)) where
    abbrev rest : List ℕ
    rest = slice_range l (i + 1) (length l)

    long : length rest ≡ length l - (i + 1)
    long = ap length (take_rest l (i + 1)) ∙ length-drop (i + 1) l

    pub short_body : (n < 0) ⊎ (length rest < n) → NoRecordAt l i ShortBody
    unfolding request_at next_at refuses_1 refuses_2
    short_body (inl m) = absurd (omega arith)
    short_body (inr m) =
        let f = lt-ltb (length l) (i + 1 + body_length (kind_byte kind)) (omega (arith, long)) in
        record { some = omega arith; asks = rw (lt-leb (length l) i h, ← k, known kind, f); next = rw (lt-leb (length l) i h, ← k, known kind, f) }

    pub whole_body : (body : List ℕ) → body ≡ slice_range rest 0 n → length body + 0 ≡ n → n ≤ length rest → RecordAt l i kind body
    unfolding request_at next_at refuses_1 refuses_2
    whole_body body is m w =
        let f = le-ltb (length l) (i + 1 + body_length (kind_byte kind)) (omega (arith, long)) in
        let o : n - 0 ≡ length body = omega arith in
        let b = is ∙ ap (λ (r : List ℕ). take (n - 0) r) (take_rest l (i + 1)) ∙ ap (λ (x : ℕ). take x (drop (i + 1) l)) o in
        let d : length body ≡ body_length (kind_byte kind) = omega arith in
        record {
          asks = rw (lt-leb (length l) i h, ← k, known kind, f) (sym (asked l (i + 1) body b kind (omega arith)));
          next = rw (lt-leb (length l) i h, ← k, known kind, f, d);
          whole = d;
          within = omega (arith, long);
        }

-- ---- its call

module _ (l : List ℕ) (i : ℕ) (s : Session) (h : Reached s) where
  -- a record's call, from the request's
  answered : (q : Request) (j : ℕ) (t : Taken) → request_at l i ≡ q → next_at l i ≡ j
      → t ≡ record { answer = (outcome (history_of s) q s).answer; next = j; session = (outcome (history_of s) q s).session }
      → (t ≡ record_call l i s) × Reached t.session
  unfolding record_call
  answered q j t e f g =
      let k : t ≡ record_call l i s = g ∙ rw (e, f) in
      (k, subst (λ (x : Taken). Reached x.session) (sym k) (after h (takes l i)))

  -- refused as 1 or 2
  pub stopped : {e : Refusal} → NoRecordAt l i e → (record { answer = refused (number_of e); next = i; session = s } ≡ record_call l i s) × Reached s
  stopped {e} n =
      let r = number_of e in
      let g : record { answer = refused r; session = s } ≡ outcome (history_of s) (bad r) s =
      refused_is s (bad r) r (unfold refusal in refl) (λ z. let some = n.some in omega arith) refl
      in
      answered (bad r) i _ n.asks n.next (ap (λ (c : Called). made_of c i) g)

  -- a call that was made
  pub taken : {kind : Kind} {body : List ℕ} {t : Taken} → RecordAt l i kind body → t ≡ made_of (outcome (history_of s) (request_of (kind_byte kind) body 0) s) (i + 1 + length body)
      → (t ≡ record_call l i s) × Reached t.session
  taken {kind} {body} {t} n = answered (request_of (kind_byte kind) body 0) (i + 1 + length body) t n.asks n.next

  -- a read leaves the session
  read_keeps : (outcome (history_of s) read s).session ≡ s
  read_keeps = by_cases (history_of s) read s (λ r _. r.session ≡ s) (λ _. told h) (λ _. refl)

  pub read_at : {kind : Kind} {body : List ℕ} {a : Answer} → RecordAt l i kind body → kind ≡ Read → a ≡ (call reads s).answer
      → (record { answer = a; next = i + 1 + length body; session = s } ≡ record_call l i s) × Reached s
  unfolding request_of
  read_at {kind} {body} {a} n k e =
      let q : request_of (kind_byte kind) body 0 ≡ read = ap (λ (x : Kind). request_of (kind_byte x) body 0) k in
      answered read (i + 1 + length body) _ (n.asks ∙ q) n.next (rw (e, read_keeps))
