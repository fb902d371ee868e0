use Rattle.encounter.specs.Calls.{reads, call}
use Rattle.host.specs.Plot.{Stores}
use Rattle.jinthuol.specs.Doubles.{plotted_numbers, plotted_told}
use Rattle.jinthuol.proofs.Telling.{plotted_back, tells}
use Rattle.jinthuol.proofs.jinthuol_read_plot_record.Goals as goal

pub returns : goal.returns
returns c = tells plotted_numbers plotted_told (Stores (call reads c.args.session).answer) (plotted_back _) c.from.ensures c.read_plot_record.ensures
