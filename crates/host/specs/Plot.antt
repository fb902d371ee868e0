-- Request #108 of document 02, the record that the plotting tool stores.
use Rattle.std.specs.Prelude.{◌≡◌, false, ℕ, Float, Option, Some, None, Result, Ok, Err}
use Rattle.exact.specs.declared.refusals.Refusal.{Refusal}
use Rattle.exact.specs.Kinds.{number_of}
use Rattle.std.specs.Float.{binary64}
use Rattle.std.specs.Float.Ieee.{round, sub}
use Rattle.exact.specs.Fraction.{Frac, whole, ◌≼◌, ◌≈◌, ◌⊕◌}
use Rattle.exact.specs.Scaled.{value}
use Rattle.encounter.specs.declared.state.Session.{Session}
use Rattle.encounter.specs.declared.state.Answer.{Answer}
use Rattle.encounter.specs.Calls.{reads, call}
use Rattle.host.specs.declared.Doubles.{Doubles}
use Rattle.host.specs.declared.Doubles.TheVariants.{Both, Unbounded}
use Rattle.host.specs.declared.PlotRecord.{PlotRecord}
use Rattle.host.specs.Doubles.{in_doubles, BothEnds, NoEnd}

-- "a record of the object number, two doubles and their difference, which is one double subtraction of lower from upper. An unbounded answer has no such record."
unfoldable pub in_record : (object : ℕ) → Result Doubles Refusal → Result (Option PlotRecord) Refusal
in_record object (Ok (Both lower upper)) = Ok (Some (record { object = object; lower = lower; upper = upper; difference = sub binary64 upper lower }))
in_record object (Ok (Unbounded lower)) = Ok None
in_record object (Err e) = Err e

unfoldable pub plotted : Session → Result (Option PlotRecord) Refusal
plotted s = let a = (call reads s).answer in in_record a.object (in_doubles a)

-- ---- what each case says of the read's answer

-- the double nearest to the exact difference, upper less lower
abbrev pub Nearest : (lower upper : Frac) → Float → Type 0
Nearest lower upper d = (q : Frac) × (lower ⊕ q ≈ upper) × (d ≡ round binary64 false q.num q.den)

pub record Stored (a : Answer) (p : PlotRecord) : Type 0 where
  pub object_is : p.object ≡ a.object
  pub ends : BothEnds a p.lower p.upper
  pub difference_is : Nearest (value a.lower) (value a.upper) p.difference

pub record NotStored (a : Answer) : Type 0 where
  pub accepted : a.refusal ≡ 0
  pub one_or_more : whole 1 ≼ value a.upper

abbrev pub Stores : Answer → Result (Option PlotRecord) Refusal → Type 0
Stores a (Ok (Some p)) = Stored a p
Stores a (Ok None) = NotStored a
Stores a (Err e) = NoEnd a (number_of e)
