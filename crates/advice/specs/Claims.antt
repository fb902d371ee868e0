-- What a reader relies on beyond the contracts of this crate, request #106 of document 02: one record of statements, each proved. `orders` promises it, so
-- the crate is taken only where all of it is proved.
use Rattle.std.specs.Prelude.{◌≡◌, false, ℕ, ◌+◌, ◌-◌, ◌*◌, ◌^◌, ◌≤◌, ◌<◌, Some, Ok}
use Rattle.exact.specs.Fraction.{Frac, ◌≼◌, ◌⊗◌, ◌↑◌, ◌over◌, whole}
use Rattle.exact.specs.Scaled.{value}
use Rattle.exact.specs.Steps.{sum_to, tail_bound}
use Rattle.encounter.specs.declared.state.Session.{Session}
use Rattle.encounter.specs.Calls.{adds, reads, call, Reached}
use Rattle.encounter.specs.Claims.{Readable}
use Rattle.encounter.specs.Enclosure.{Encloses}
use Rattle.advice.specs.Orders.{largest_M, Enough, Least}
use Rattle.advice.specs.Private.Order.{order_for}
use Rattle.advice.specs.Advice.{taken_up, advice}

-- n is the least whole number that is not below q
pub record TakenUp (q : Frac) (n : ℕ) : Type 0 where
  pub not_below : q ≼ whole n
  pub least : (v : ℕ) → q ≼ whole v → n ≤ v

-- a session on which a read is accepted and close
pub record ReadsClose (s : Session) : Type 0 where
  -- "the condition under which the upper end is held close to the lower": "Where the tail bound is at most 2^-31 of the lower sum"
  pub condition : tail_bound s.encounter s.N ≼ (1 over (2 ^ 31)) ⊗ value (sum_to false s.encounter s.N)
  pub readable : Readable s
  -- demand 3, all of it
  pub encloses : Encloses s.encounter s.N (call reads s).answer
  -- and so "the upper end is also at most the lower end × (1 + 2^-31)^(18N + 2,600)"
  pub close : value (call reads s).answer.upper ≼ value (call reads s).answer.lower ⊗ ((2 ^ 31 + 1) over (2 ^ 31)) ↑ (18 * s.N + 2600)

pub record Claims : Type 0 where
  pub taken_up_is : (q : Frac) → TakenUp q (taken_up q)
  -- "The entry is the least N": of all N
  pub entries : (M : ℕ) → 1 ≤ M → M ≤ largest_M → Least M (order_for M)
  -- "for M = 1 it is 13"
  pub first : Least 1 13
  -- both conditions pass from an order to every later one
  pub later : (M N N' : ℕ) → N ≤ N' → Enough M N → Enough M N'
  -- no add changes the advice: it is the encounter's
  pub same : {s s' : Session} → Reached s → Reached s' → s.encounter ≡ s'.encounter → advice s ≡ advice s'
  -- an advised order is from 13 to 708
  pub lies : {s : Session} {n : ℕ} → Reached s → advice s ≡ Ok (Some n) → (13 ≤ n) × (n ≤ 708)
  -- it is below the limit of an add: where terms are missing, an add of them is accepted and leads to it
  pub adds_up :
      {s : Session} {n : ℕ} →
      Reached s →
      advice s ≡ Ok (Some n) →
      s.N < n →
      ((call (adds (n - s.N)) s).answer.refusal ≡ 0) × ((call (adds (n - s.N)) s).session.N ≡ n) × (advice (call (adds (n - s.N)) s).session ≡ Ok (Some n))
  -- "a session at that order meets the condition under which the upper end is held close to the lower", and so does one at any later order
  pub close : {s : Session} {n : ℕ} → Reached s → advice s ≡ Ok (Some n) → n ≤ s.N → ReadsClose s
