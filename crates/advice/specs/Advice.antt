-- Request #106 of document 02, what a session answers: "The session answers the entry for its upper M, taken up to a whole number, or `none` above 256; an empty
-- session is refused as 21."
use Rattle.std.specs.Prelude.{◌≡◌, cond, ℕ, pred, ◌+◌, ◌/◌, ◌≤◌, ◌<◌, ltb, Option, Some, None, Result, Ok, Err}
use Rattle.exact.specs.declared.refusals.Refusal.{Refusal}
use Rattle.exact.specs.declared.refusals.Refusal.TheVariants.{NotBegun}
use Rattle.exact.specs.Fraction.{Frac}
use Rattle.exact.specs.Scaled.{value}
use Rattle.exact.specs.Steps.{M}
use Rattle.exact.specs.Refusals.{History, no_encounter, encounter_at}
use Rattle.encounter.specs.declared.state.Session.{Session}
use Rattle.encounter.specs.Calls.{history_of}
use Rattle.advice.specs.Orders.{largest_M, Least}
use Rattle.advice.specs.Private.Order.{order_for}

-- "taken up to a whole number": the least whole number that is not below q (claim `taken_up_is`, Claims.antt)
unfoldable pub taken_up : Frac → ℕ
taken_up q = (q.num + pred q.den) / q.den

-- "the entry for [..] M [..], or `none` above 256"; `order_for` computes the entry (claim `entries`)
unfoldable pub entry_for : ℕ → Option ℕ
entry_for M = cond (ltb largest_M M) None (Some (order_for M))

-- what is answered, told from the history; `NotBegun` is refusal 21
abbrev pub advice_at : History → Result (Option ℕ) Refusal
advice_at no_encounter = Err NotBegun
advice_at (encounter_at C N) = Ok (entry_for (taken_up (value (M C.encounter))))

-- what a session answers
unfoldable pub advice : Session → Result (Option ℕ) Refusal
advice s = advice_at (history_of s)

-- what each case says of the session that answers it; its field M is the upper M of its encounter
abbrev pub Says : Session → Result (Option ℕ) Refusal → Type 0
Says s (Ok (Some n)) = (1 ≤ s.N) × (taken_up (value s.M) ≤ largest_M) × Least (taken_up (value s.M)) n
Says s (Ok None) = (1 ≤ s.N) × (largest_M < taken_up (value s.M))
Says s (Err e) = (s.N ≡ 0) × (e ≡ NotBegun)
