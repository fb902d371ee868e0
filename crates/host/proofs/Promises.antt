-- The promises of the two calls, of the answer of a read.
use mathlib.Core.Path.{◌≡◌, refl, sym, subst}
use native.Mathlib.Omega.{arith}
use Rattle.std.specs.Prelude.{Option, Result, Ok, Err}
use Rattle.exact.specs.declared.refusals.Refusal.{Refusal}
use Rattle.exact.specs.Fraction.{◌≼◌}
use Rattle.exact.specs.Numbers.{exponential_cut}
use Rattle.exact.specs.Scaled.{value}
use Rattle.exact.proofs.Fractions.{≼_trans, ≼_refl}
use Rattle.exact.proofs.Enclosure.{enclosed}
use Rattle.encounter.specs.declared.state.Session.{Session}
use Rattle.encounter.specs.declared.state.Answer.{Answer}
use Rattle.encounter.specs.declared.state.Reading.{Reading}
use Rattle.encounter.specs.Session.{bracket, answer_of}
use Rattle.encounter.specs.Calls.{reads, call, Reached}
use Rattle.host.specs.declared.Doubles.{Doubles}
use Rattle.host.specs.declared.Doubles.TheVariants.{Both, Unbounded}
use Rattle.host.specs.declared.PlotRecord.{PlotRecord}
use Rattle.host.specs.Doubles.{in_doubles, doubles, Says}
use Rattle.host.specs.Plot.{in_record, plotted, Stores}
use Rattle.host.specs.Private.Fitting.{EndsFit}
use Rattle.host.proofs.ReadCases.{by_read}
use Rattle.host.proofs.Fitting.{ends_fit}
use Rattle.host.proofs.Answering.{refused_ends, says_accepted, says_refused}
use Rattle.host.proofs.Difference.{nearest}

-- the lower end of a read is not above the upper end; of a refusal both are 0
ordered : {s : Session} → Reached s → value (call reads s).answer.lower ≼ value (call reads s).answer.upper
unfolding bracket
ordered {s} r =
    by_read (λ a. value a.lower ≼ value a.upper) r
    (λ f. let (l, k) = enclosed f.fine s.N f.low f.passes s.N exponential_cut (omega arith) (omega arith) in ≼_trans l k)
    (λ _. ≼_refl _)

-- the record of the ends
stores : (a : Answer) (d : Result Doubles Refusal) → value a.lower ≼ value a.upper → Says a d → Stores a (in_record a.object d)
unfolding in_record
stores a (Ok (Both l u)) h s = record { object_is = refl; ends = s; difference_is = nearest _ _ l u s.lower_is s.upper_is h }
stores a (Ok (Unbounded l)) h s = record { accepted = s.accepted; one_or_more = s.one_or_more }
stores a (Err e) h s = s

module _ {s : Session} (r : Reached s) where
  pub doubles_say : Says (call reads s).answer (doubles s)
  unfolding doubles bracket
  doubles_say = by_read (λ a. EndsFit a.lower a.upper → Says a (in_doubles a)) r (λ _. says_accepted _ refl) (λ e _. says_refused e) (ends_fit r)

  pub plotted_stores : Stores (call reads s).answer (plotted s)
  unfolding plotted
  plotted_stores = stores (call reads s).answer (in_doubles (call reads s).answer) (ordered r) (unfold doubles in doubles_say)

-- ---- as the code reads

module _ (s : Session) where
  pub says_doubles : (d : Result Doubles Refusal) → Reached s → d ≡ doubles s → Says (call reads s).answer d
  says_doubles d r e = rw e (doubles_say r)

  pub stores_plotted : (p : Result (Option PlotRecord) Refusal) → Reached s → p ≡ plotted s → Stores (call reads s).answer p
  stores_plotted p r e = rw e (plotted_stores r)

  module _ (e : Refusal) (is : answer_of (Err e) ≡ (call reads s).answer) where
    pub doubles_refused : {d : Result Doubles Refusal} {f : Refusal} → d ≡ Err f → f ≡ e → d ≡ doubles s
    unfolding doubles
    doubles_refused d_is f_is = rw (← is, d_is, f_is) (refused_ends e)

    pub plotted_refused : {p : Result (Option PlotRecord) Refusal} {f : Refusal} → p ≡ Err f → f ≡ e → p ≡ plotted s
    unfolding plotted in_record
    plotted_refused p_is f_is = rw (← is, p_is, f_is) (rw (← refused_ends e))

  module _ (x : Reading) (is : answer_of (Ok x) ≡ (call reads s).answer) where
    pub fit : Reached s → EndsFit x.lower x.upper
    fit r = subst (λ (a : Answer). EndsFit a.lower a.upper) (sym is) (ends_fit r)

    pub doubles_are : (d : Doubles) → Ok d ≡ in_doubles (answer_of (Ok x)) → Ok d ≡ doubles s
    unfolding doubles
    doubles_are d e = rw (← is) e

    pub plotted_is : (d : Doubles) (p : Option PlotRecord) → Ok d ≡ in_doubles (answer_of (Ok x)) → Ok p ≡ in_record x.object (Ok d) → Ok p ≡ plotted s
    unfolding plotted
    plotted_is d p e f = rw (← is) (rw (← e) f)
