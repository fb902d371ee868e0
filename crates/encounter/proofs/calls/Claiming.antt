-- All that `Session::empty` promises beyond its session.
use Rattle.exact.specs.declared.Encounter.{Encounter}
use Rattle.exact.specs.Series.{series, exponential}
use Rattle.exact.proofs.Rounding.{round_is, is_round, lost_not, lost_none}
use Rattle.exact.proofs.Losses.{letters_number, terms_number, sum_clean, product_clean, quotient_clean, half_clean, same_ways}
use Rattle.exact.proofs.Convolution.{a_suc}
use Rattle.exact.proofs.Accepted.{g_is}
use Rattle.exact.proofs.Order.{half_exact, double_exact}
use Rattle.exact.proofs.Unrounded.{letters_are, term_is, sum_is, powers_are, bound_is}
use Rattle.encounter.specs.Claims.{Claims, Unrounded}
use Rattle.encounter.proofs.calls.Stars.{stars_hold, mirror_begin, mirror_begin_conjunction, mirror_add, mirror_read}
use Rattle.encounter.proofs.calls.AcceptedReads.{no_object_no_time}
use Rattle.encounter.proofs.calls.Classes.{classes, no_reversal, never_falls, alert_remains}
use Rattle.encounter.proofs.calls.PrintedEnds.{decimals}
use Rattle.encounter.proofs.calls.ExactCount.{exact_counts}
use Rattle.encounter.proofs.calls.LargestOrder.{begun_can_be_read, stopped_never_read, stopped_conjunction_never_read}

unrounded : (E : Encounter) → Unrounded E
unfolding series exponential
unrounded E = record {
  letters_are = letters_are E;
  terms_are = λ n. rw (letters_are E) (term_is E n);
  sums_are = λ n. rw (letters_are E) (sum_is E n);
  exponentials_are = λ k. (powers_are _ k).sum_is;
  bound_is = rw (letters_are E) (bound_is E);
}

pub claims : Claims
claims = record {
  rounding = λ up bits q p. (round_is up bits q p, λ x r. is_round up bits p r);
  halving = half_exact;
  doubling = double_exact;
  recurrence = a_suc;
  g_sign = g_is;
  unrounded = unrounded;
  star_cases = stars_hold;
  mirror_begin = mirror_begin;
  mirror_begin_conjunction = mirror_begin_conjunction;
  mirror_add = mirror_add;
  mirror_read = mirror_read;
  classes = classes;
  no_reversal = no_reversal;
  lower_end_never_falls = never_falls;
  alert_remains = alert_remains;
  decimals = decimals;
  no_object_no_time = no_object_no_time;
  losses = λ up bits q. (lost_not up bits q, lost_none up bits q);
  passed_on = λ up. record { sum = sum_clean up; product = product_clean up; quotient = quotient_clean up; half = half_clean up };
  traced_numbers = λ up E. (letters_number up E, terms_number up E);
  same_ways = same_ways;
  exact_counts = exact_counts;
  begun_can_be_read = begun_can_be_read;
  stopped_never_read = stopped_never_read;
  stopped_conjunction_never_read = stopped_conjunction_never_read;
}
