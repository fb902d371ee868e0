-- The session's structs and the steps' records into each other, what the terms of an add change, both t of an encounter, and what the premise of a call comes to. Private
-- functions ask for these.
use Rattle.std.specs.Prelude.{◌≡◌, Bool, true, false, cond, ℕ, suc, ◌≤◌}
use Rattle.exact.specs.declared.Encounter.{Encounter}
use Rattle.exact.specs.declared.Scaled.{Scaled}
use Rattle.exact.specs.Numbers.{largest_order}
use Rattle.exact.specs.Arithmetic.{traced}
use Rattle.exact.specs.Steps.{LettersOf, TermsOf, next, side_letters, side_terms, d}
use Rattle.exact.specs.Losses.{operand_lost, exact_terms, lossless}
use Rattle.exact.specs.Private.Clean.{clean_letters, clean_terms}
use Rattle.exact.specs.Refusals.{Accepted}
use Rattle.encounter.specs.declared.state.Letters.{Letters}
use Rattle.encounter.specs.declared.state.Terms.{Terms}
use Rattle.encounter.specs.declared.state.Session.{Session}
use Rattle.encounter.specs.declared.steps.counts.Counts.{Counts}
use Rattle.encounter.specs.declared.steps.counts.Counting.{Counting}
use Rattle.encounter.specs.declared.steps.losses.Losses.{Losses}
use Rattle.encounter.specs.declared.steps.numbers.LetterSet.{LetterSet}
use Rattle.encounter.specs.declared.steps.numbers.TermSet.{TermSet}
use Rattle.encounter.specs.declared.steps.progress.Progress.{Progress}
use Rattle.encounter.specs.Session.{state, conjunction_of}

abbrev pub held_letters : LettersOf Scaled → Letters
held_letters l = record { u = l.u; h = l.h; X = l.X; Y = l.Y; t = l.t }

abbrev pub step_letters : Letters → LettersOf Scaled
step_letters l = record { u = l.u; h = l.h; X = l.X; Y = l.Y; t = l.t }

abbrev pub held_terms : TermsOf Scaled → Terms
held_terms s = record { c = s.c; p = s.p; v = s.v; y = s.y; sum = s.sum }

abbrev pub step_terms : Terms → TermsOf Scaled
step_terms s = record { c = s.c; p = s.p; v = s.v; y = s.y; sum = s.sum }

-- letters and terms over any numbers
abbrev pub set_letters : {S : Type 0} → LetterSet S → LettersOf S
set_letters l = record { u = l.u; h = l.h; X = l.X; Y = l.Y; t = l.t }

abbrev pub set_terms : {S : Type 0} → TermSet S → TermsOf S
set_terms s = record { c = s.c; p = s.p; v = s.v; y = s.y; sum = s.sum }

-- one index on, from letters l and terms s of index n on whose way nothing was lost: what was lost on the way to the term, and to what the next one is formed of
pub record CleanLosses (up : Bool) (l : LettersOf Scaled) (s : TermsOf Scaled) (n : ℕ) (r : Losses) : Type 0 where
  pub term_is : r.term ≡ (next (traced up 32) (clean_letters l) n (clean_terms s)).c.lost
  pub operand_is : r.operand ≡ operand_lost (clean_letters l) (next (traced up 32) (clean_letters l) n (clean_terms s))

-- how many of the terms are exact at order N, and whether nothing was lost on the way to what the next one is formed of, as a number
abbrev pub counts : Encounter → ℕ → Counts
counts E N = record { exact = exact_terms E N; lossless = cond (lossless E N) 1 0 }

-- both sides' terms of index n, and the counts there
abbrev pub counting : Encounter → ℕ → Counting
counting E n = record { lower = held_terms (side_terms false E n); upper = held_terms (side_terms true E n); counts = counts E (suc n) }

-- a session at another order
abbrev pub at_order : Session → ℕ → Progress → Counts → Session
at_order s N p k = record {
  encounter = s.encounter;
  object = s.object;
  time = s.time;
  N = N;
  lower = record { letters = s.lower.letters; exponential = s.lower.exponential; terms = p.lower };
  upper = record { letters = s.upper.letters; exponential = s.upper.exponential; terms = p.upper };
  r256 = s.r256;
  M = s.M;
  d = p.d;
  exact = k.exact;
  lossless = k.lossless;
}

-- both sides' terms and d at order n + 1
unfoldable pub progress : Encounter → ℕ → Progress
progress E n = record { lower = held_terms (side_terms false E n); upper = held_terms (side_terms true E n); d = d E (suc n) }

-- a and b are the lower and the upper t of E, which is accepted
abbrev pub HasT : Encounter → Scaled → Scaled → Type 0
HasT E a b = (Accepted E) × (a ≡ (side_letters false E).t) × (b ≡ (side_letters true E).t)

-- a session with an encounter (proofs/calls/Invariant.antt)
pub record Begun (s : Session) : Type 0 where
  pub fine : Accepted s.encounter
  pub low : 1 ≤ s.N
  pub high : s.N ≤ largest_order
  pub is : s ≡ state (conjunction_of s) s.N
