-- Request #108 of document 02 in document 01's 'The enclosure over a whole list': "one that answers a session's two ends counts as a read."
use Rattle.std.specs.Prelude.{◌≡◌, List, [], ◌∷◌, Option, Result}
use Rattle.exact.specs.declared.refusals.Refusal.{Refusal}
use Rattle.exact.specs.Records.{read}
use Rattle.exact.specs.Refusals.{History, no_encounter}
use Rattle.encounter.specs.declared.state.Session.{Session}
use Rattle.encounter.specs.declared.state.Answer.{Answer}
use Rattle.encounter.specs.Session.{empty}
use Rattle.encounter.specs.Calls.{follow, Call, reads, asked, call}
use Rattle.encounter.specs.Enclosure.{Place, place, Claim, Every}
use Rattle.host.specs.declared.Doubles.{Doubles}
use Rattle.host.specs.declared.PlotRecord.{PlotRecord}
use Rattle.host.specs.Doubles.{doubles, Says}
use Rattle.host.specs.Plot.{plotted, Stores}

-- the library's calls and the host's two
pub data HostCall : Type 0 where
  library : Call → HostCall
  reads_doubles : HostCall
  reads_plot_record : HostCall

-- the call of document 01's lists that each counts as
abbrev pub counts_as : HostCall → Call
counts_as (library c) = c
counts_as reads_doubles = reads
counts_as reads_plot_record = reads

-- what each is answered, in its own form
pub data Reply : Type 0 where
  as_answer : Answer → Reply
  as_doubles : Result Doubles Refusal → Reply
  as_record : Result (Option PlotRecord) Refusal → Reply

abbrev pub reply : HostCall → Session → Reply
reply (library c) s = as_answer (call c s).answer
reply reads_doubles s = as_doubles (doubles s)
reply reads_plot_record s = as_record (plotted s)

-- a call in such a list: its place, and its reply
pub record HostPlace : Type 0 where
  pub counted : Place
  pub replied : Reply

unfoldable pub host_places : Session → History → List HostCall → List HostPlace
host_places s w [] = []
host_places s w (c ∷ cs) =
    record { counted = place s w (counts_as c); replied = reply c s } ∷ host_places (call (counts_as c) s).session (follow w (asked (counts_as c))) cs

-- a reply is the answer of its place, in the reply's form; a host call has the place of a read
abbrev pub Tells : Place → Reply → Type 0
Tells p (as_answer a) = a ≡ p.answer
Tells p (as_doubles d) = (p.request ≡ read) × Says p.answer d
Tells p (as_record r) = (p.request ≡ read) × Stores p.answer r

-- what holds of such a call: the three demands of its place (demand 3 of a host call too, then), and what its reply tells
pub record HostClaim (p : HostPlace) : Type 0 where
  pub claim : Claim p.counted
  pub tells : Tells p.counted p.replied

-- for every list of calls from the empty session, the host's among them. `read_doubles` promises it
unfoldable pub HostDemands : Type 0
HostDemands = (cs : List HostCall) → Every HostClaim (host_places empty no_encounter cs)
