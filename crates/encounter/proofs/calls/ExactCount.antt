-- Request #105: the count of exact terms that an accepted read answers.
use mathlib.Core.Path.{◌≡◌}
use mathlib.Core.Bool.{true}
use Prim.Native.Nat.{ℕ, zero, suc, ◌+◌, ◌≤◌, ◌<◌}
use native.Mathlib.Nat.{add-zero, add-suc, le_dest, lt_of_le_of_lt}
use Rattle.exact.specs.declared.Encounter.{Encounter}
use Rattle.exact.specs.Losses.{either_lost, exact_terms}
use Rattle.exact.proofs.Losses.{exact_le, counted_are, first_lost, ways_grow, exact_term_is}
use Rattle.encounter.specs.declared.state.Session.{Session}
use Rattle.encounter.specs.Session.{bracket}
use Rattle.encounter.specs.Calls.{reads, call}
use Rattle.encounter.specs.Claims.{Readable, CountedTerms}
use Rattle.encounter.proofs.calls.AcceptedReads.{read_of}

module _ (E : Encounter) where
  -- what is lost on a term's way is lost on those of all after it
  lost_after : (n j : ℕ) → either_lost E n ≡ true → either_lost E (n + j) ≡ true
  lost_after n zero h = rw add-zero h
  lost_after n (suc j) h = rw add-suc (ways_grow E (n + j) (lost_after n j h))

  others_lost : (N n : ℕ) → exact_terms E N ≤ n → n < N → either_lost E n ≡ true
  others_lost N n l u = let (j, e) = le_dest l in rw (← e) (lost_after (exact_terms E N) j (first_lost E N (lt_of_le_of_lt l u)))

  counted_terms : (N : ℕ) → CountedTerms E N (exact_terms E N)
  counted_terms N = record { at_most = exact_le E N; nothing_lost = counted_are E N; exact = exact_term_is E N; others_lost = others_lost N }

pub exact_counts : {s : Session} → Readable s → CountedTerms s.encounter s.N (call reads s).answer.exact
unfolding bracket
exact_counts {s} r = rw (read_of r).is (counted_terms s.encounter s.N)
