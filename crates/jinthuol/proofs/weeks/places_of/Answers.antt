use Rattle.std.proofs.Common.{rules}
use Rattle.jinthuol.specs.Week.{place_in}
use Rattle.jinthuol.proofs.weeks.Copies.{mapped}
use Rattle.jinthuol.proofs.weeks.places_of.Goals as goal

pub returns : goal.returns
returns c =
    rw (c.from.ensures, c.from-2.ensures, c.from-3.ensures, c.from-4.ensures, c.from-5.ensures, c.from-6.ensures, c.from-7.ensures, c.from-8.ensures)
    (mapped place_in _ 8 0 c.args.day.places (search rules))
