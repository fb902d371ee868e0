-- A session from the calls on which a read is accepted: its encounter is accepted, and the answer is the bracket at its order.
use mathlib.Core.Path.{◌≡◌, sym, ◌∙◌, ap}
use mathlib.Core.Bool.{false}
use Prim.Native.Nat.{◌≤◌}
use native.Mathlib.Omega.{arith}
use Rattle.exact.specs.Records.{read}
use Rattle.exact.specs.Refusals.{Accepted, History, refuses_23, refusal}
use Rattle.exact.proofs.Accepted.{passed}
use Rattle.encounter.specs.declared.state.Session.{Session}
use Rattle.encounter.specs.declared.state.Called.{Called}
use Rattle.encounter.specs.Session.{state, conjunction_of, bracket}
use Rattle.encounter.specs.Calls.{history_of, outcome, reads, call, Reached}
use Rattle.encounter.specs.Claims.{Readable}
use Rattle.encounter.proofs.calls.Answering.{number}
use Rattle.encounter.proofs.calls.Invariant.{Whole, nothing, at, by_history, whole}

pub record ReadOf (s : Session) : Type 0 where
  pub fine : Accepted s.encounter
  pub no_time : s.object ≡ 0 → s.time ≡ 0
  pub low : 1 ≤ s.N
  pub passes : refuses_23 s.encounter s.N ≡ false
  pub is : (call reads s).answer ≡ bracket (conjunction_of s) s.N

of_history : {s : Session} {w : History} → Whole s w → refusal w read ≡ 0 → call reads s ≡ outcome w read s → ReadOf s
of_history nothing z e = unfold refusal in absurd (let f : ⊥ = omega (arith, z) in f)
of_history (at {C} {N} h l u) z e = unfold state in record {
  fine = h.fine;
  no_time = h.no_time;
  low = l;
  passes = (passed 22 (refuses_23 C.encounter N) 0 (unfold refusal in z)).0;
  is = ap (λ (r : Called). r.answer) e ∙ unfold outcome in rw z;
}

pub read_of : {s : Session} → Readable s → ReadOf s
read_of {s} r = let (w, h) = whole r.reached in of_history h (sym (number w read s) ∙ rw (by_history h reads) at r.accepted) (by_history h reads)

-- the same, where no test refuses a read
pub accepted_read : {s : Session} → Reached s → refusal (history_of s) read ≡ 0 → ReadOf s
accepted_read {s} r z = read_of (record { reached = r; accepted = number (history_of s) read s ∙ z })

pub no_object_no_time : {s : Session} → Readable s → (call reads s).answer.object ≡ 0 → (call reads s).answer.time ≡ 0
unfolding bracket
no_object_no_time r = let f = read_of r in rw f.is f.no_time
