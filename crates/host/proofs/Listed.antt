-- The demands over every list of calls, the host's among them.
use mathlib.Core.Path.{refl}
use mathlib.Core.List.{List, [], ◌∷◌}
use Rattle.exact.specs.Refusals.{History}
use Rattle.encounter.specs.declared.state.Session.{Session}
use Rattle.encounter.specs.Calls.{Reached, from_empty, after, call, follow, asked}
use Rattle.encounter.specs.Enclosure.{place, Every}
use Rattle.encounter.proofs.calls.Invariant.{Whole, nothing, keeps, claim}
use Rattle.host.specs.Lists.{HostCall, library, reads_doubles, reads_plot_record, counts_as, reply, host_places, Tells, HostClaim, HostDemands}
use Rattle.host.proofs.Promises.{doubles_say, plotted_stores}

module _ {s : Session} (r : Reached s) (w : History) where
  tells : (c : HostCall) → Tells (place s w (counts_as c)) (reply c s)
  tells (library c) = refl
  tells reads_doubles = (refl, doubles_say r)
  tells reads_plot_record = (refl, plotted_stores r)

every : {s : Session} {w : History} → Reached s → Whole s w → (cs : List HostCall) → Every HostClaim (host_places s w cs)
unfolding host_places
every r h [] = tt
every {s = s} {w = w} r h (c ∷ cs) = (
  record { claim = claim h (counts_as c); tells = tells r w c },
  every {s = (call (counts_as c) s).session} {w = follow w (asked (counts_as c))} (after r (counts_as c)) (keeps h (counts_as c)) cs,
)

pub host_demands : HostDemands
unfolding HostDemands
host_demands cs = every from_empty nothing cs
