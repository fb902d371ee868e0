use mathlib.Core.Path.{◌≡◌, sym, ◌∙◌, ap, subst}
use lib.ListN.{replicate}
use Rattle.exact.specs.Numbers.{days_a_week, places_a_day}
use Rattle.week.specs.Week.{empty_week}
use Rattle.week.specs.Told.{FromCalls, nothing_told, from_empty}
use Rattle.jinthuol.specs.declared.Bracket.{Bracket}
use Rattle.jinthuol.specs.declared.Week.{Week}
use Rattle.jinthuol.specs.Week.{days_of, in_days}
use Rattle.jinthuol.proofs.weeks.Copies.{days_back}
use Rattle.jinthuol.proofs.jinthuol_empty_week.Goals as goal

pub returns : goal.returns
unfolding in_days
returns c =
    let week : Bracket → Week = λ b. record { days = replicate days_a_week (record { places = replicate places_a_day b }) } in
    let e : week c.from.result ≡ in_days empty_week = ap week c.from.ensures in
    let f : days_of (week c.from.result) ≡ empty_week = ap days_of e ∙ days_back empty_week in
    (e, f, subst FromCalls (sym f) (record { told = nothing_told; came = from_empty }))
