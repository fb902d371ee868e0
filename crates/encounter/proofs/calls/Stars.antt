-- The ★ cases hold: each row computes, but the answer for xm = −8, which is that for 8. With them, all that `Session::empty` promises.
use mathlib.Core.Path.{◌≡◌, refl, sym, ◌∙◌}
use mathlib.Core.Bool.{Bool, true, false, cond}
use borrow.Author.Tests.{eq-eqb, ne_eqb}
use lib.Dec.{eqb}
use Prim.Native.Nat.{ℕ}
use lib.Ieee.{size, span, climb}
use Rattle.exact.specs.declared.Encounter.{Encounter}
use Rattle.exact.specs.declared.Conjunction.{Conjunction}
use Rattle.exact.specs.Fraction.{◌over◌, whole, ◌⊕◌, ◌⊗◌, ◌÷◌, ◌⊘◌, ◌↑◌, at_most, above, sum}
use Rattle.exact.specs.Scaled.{value, lost, with_exponent}
use Rattle.exact.specs.Private.Round.{round, pack, finish, spare, inexact}
use Rattle.exact.specs.Series.{mirrored, square, u, b, zx, zy, g, h, X, Y, t, a₀, factorial, dot, F_without_Y, F, upto, a, c, series, exponential_term, exponential}
use Rattle.exact.specs.Arithmetic.{rounded, rounding, traced}
use Rattle.exact.specs.Least.{least}
use Rattle.exact.specs.Losses.{traced_letters, traced_terms, term_lost, operand_lost, either_lost, exact_terms, lossless}
use Rattle.exact.specs.Steps.{letters, start, first, next_c, next_p, next_v, next_y, next, terms, bound, next_d, tail_term, side_letters, side_start, side_terms, next_power, powers, side_powers, sum_to, exponential_sum, r256, exponential_with_tail, M, d, tail_bound, lower_end, upper_end}
use Rattle.exact.specs.Refusals.{outside, miss_outside, refuses_3, refuses_4, refuses_5, refuses_6, refuses_7, refuses_11, begin_refusal, refuses_9, test_9, refuses_12, refuses_22, refuses_23, refusal, History, no_encounter, encounter_at}
use Rattle.exact.specs.Records.{Request, begin, begin_conjunction, add, read}
use Rattle.exact.proofs.Mirror.{lower_mirror, upper_mirror, read_mirror, refusal_mirror, exact_mirror}
use Rattle.encounter.specs.declared.state.Session.{Session}
use Rattle.encounter.specs.declared.state.Answer.{Answer}
use Rattle.encounter.specs.Session.{empty, state, refused, bracket}
use Rattle.encounter.specs.Calls.{history_after, history_of, accepted_answer, outcome, begins, begins_conjunction, adds, reads, call}
use Rattle.encounter.specs.Claims.{mirrored_conjunction}
use Rattle.encounter.specs.Stars.{E₂, All, stars}
use Rattle.encounter.proofs.calls.Answering.{by_cases}

-- the answer of a request depends on its refusal's number and on what it is answered where that is 0
answer_of : (w : History) (q : Request) (s : Session) → (outcome w q s).answer ≡ cond (eqb (refusal w q) 0) (accepted_answer q (history_after w q)) (refused (refusal w q))
answer_of w q s =
    by_cases w q s (λ r _. r.answer ≡ cond (eqb (refusal w q) 0) (accepted_answer q (history_after w q)) (refused (refusal w q)))
    (λ z. rw (eq-eqb (refusal w q) 0 z)) (λ some. rw (ne_eqb (refusal w q) 0 some))

pub mirror_begin : (E : Encounter) (s : Session) → (call (begins (mirrored E)) s).answer ≡ (call (begins E) s).answer
unfolding refusal
mirror_begin E s = answer_of (history_of s) (begin (mirrored E)) s ∙ rw (refusal_mirror E) (sym (answer_of (history_of s) (begin E) s))

pub mirror_begin_conjunction : (C : Conjunction) (s : Session) → (call (begins_conjunction (mirrored_conjunction C)) s).answer ≡ (call (begins_conjunction C) s).answer
unfolding refusal test_9 refuses_9
mirror_begin_conjunction C s =
    answer_of (history_of s) (begin_conjunction (mirrored_conjunction C)) s ∙ rw (refusal_mirror C.encounter) (sym (answer_of (history_of s) (begin_conjunction C) s))

bracket_mirror : (C : Conjunction) (N : ℕ) → bracket (mirrored_conjunction C) N ≡ bracket C N
unfolding bracket
bracket_mirror C N = rw (lower_mirror C.encounter N, upper_mirror C.encounter N, exact_mirror C.encounter N)

read_of : (w : History) → Answer
read_of w = cond (eqb (refusal w read) 0) (accepted_answer read w) (refused (refusal w read))

-- at N = 0 both tell no encounter
same_history : (C : Conjunction) (N : ℕ) (b : Bool) → read_of (cond b no_encounter (encounter_at (mirrored_conjunction C) N)) ≡ read_of (cond b no_encounter (encounter_at C N))
unfolding read_of refusal
same_history C N true = refl
same_history C N false = rw (read_mirror C.encounter N, bracket_mirror C N)

add_of : (count : ℕ) (w : History) → Answer
add_of count w = cond (eqb (refusal w (add count)) 0) (accepted_answer (add count) (history_after w (add count))) (refused (refusal w (add count)))

same_add : (C : Conjunction) (N count : ℕ) (b : Bool) → add_of count (cond b no_encounter (encounter_at (mirrored_conjunction C) N)) ≡ add_of count (cond b no_encounter (encounter_at C N))
unfolding add_of refusal
same_add C N count true = refl
same_add C N count false = refl

pub mirror_add : (C : Conjunction) (N count : ℕ) → (call (adds count) (state (mirrored_conjunction C) N)).answer ≡ (call (adds count) (state C N)).answer
unfolding history_of state add_of
mirror_add C N count =
    answer_of (history_of (state (mirrored_conjunction C) N)) (add count) (state (mirrored_conjunction C) N) ∙ same_add C N count (eqb N 0) ∙ sym (answer_of (history_of (state C N)) (add count) (state C N))

pub mirror_read : (C : Conjunction) (N : ℕ) → (call reads (state (mirrored_conjunction C) N)).answer ≡ (call reads (state C N)).answer
unfolding history_of state read_of
mirror_read C N =
    answer_of (history_of (state (mirrored_conjunction C) N)) read (state (mirrored_conjunction C) N) ∙ same_history C N (eqb N 0) ∙ sym (answer_of (history_of (state C N)) read (state C N))

pub stars_hold : All stars
unfolding stars round pack finish spare inexact ◌over◌ whole ◌⊕◌ ◌⊗◌ ◌÷◌ ◌↑◌ at_most value size span climb square u b zx zy g h X Y t a₀ factorial dot F_without_Y F upto a c with_exponent rounded rounding traced lost traced_letters traced_terms term_lost operand_lost either_lost exact_terms lossless least letters start first next_c next_p next_v next_y next terms bound next_d tail_term side_letters side_start side_terms M d tail_bound above outside miss_outside refuses_3 refuses_4 refuses_5 refuses_6 refuses_7 refuses_11 begin_refusal refuses_12 refuses_22 refuses_23 refusal history_of outcome state bracket series exponential_term exponential sum ◌⊘◌ next_power powers side_powers exponential_sum r256 exponential_with_tail sum_to lower_end upper_end
stars_hold = (refl, (refl, (refl, (refl, (refl, (refl, (refl, (refl, (record { eq = refl }, (record { eq = refl }, (record { eq = refl }, (record { eq = refl }, (record { eq = refl }, (refl, (refl, (refl, (refl, (refl, (refl, (refl, (refl, (refl, (refl, (record { eq = refl }, (record { eq = refl }, (refl, (refl, (refl, (refl, (refl, (refl, (refl, (record { eq = refl }, (record { eq = refl }, (record { eq = refl }, (refl, (record { eq = refl }, (record { eq = refl }, (refl, (refl, (refl, (refl, (refl, (refl, (refl, (refl, (mirror_begin E₂ empty, (record { eq = refl }, (record { eq = refl }, (record { eq = refl }, (record { eq = refl }, (record { eq = refl }, (record { eq = refl }, (record { eq = refl }, (record { eq = refl }, (record { eq = refl }, (record { eq = refl }, (record { eq = refl }, (record { eq = refl }, (record { eq = refl }, (record { eq = refl }, (record { eq = refl }, (record { eq = refl }, (refl, (refl, (refl, (refl, (refl, (refl, tt)))))))))))))))))))))))))))))))))))))))))))))))))))))))))))))))))))))
