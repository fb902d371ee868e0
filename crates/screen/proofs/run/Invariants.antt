-- The bytes handed over and those left to print are together what is printed. Each turn leaves fewer.
use Rattle.std.proofs.Common.{◌≡◌, ℕ, List, ◌++◌, length}
use Rattle.std.specs.Io.KnownBytes.{Appends}
use Rattle.listing.specs.Listing.{printed}
use Rattle.screen.specs.Printing.{printed_from}
use Rattle.screen.proofs.Pieces.{Going}
use Rattle.screen.proofs.run.Given as goal

abbrev pub invariant-loop-done : goal.invariant-loop-done
invariant-loop-done g l =
    Going l.script l.at l.session l.done ×
    (bs : List ℕ) × Appends (g.W.Write.contents l.initial.output) (g.W.Write.contents l.output) bs × (bs ++ printed_from l.script l.at l.session ≡ printed l.script)

abbrev pub decreases-loop-done : goal.decreases-loop-done
decreases-loop-done g l = length (printed_from l.script l.at l.session)
