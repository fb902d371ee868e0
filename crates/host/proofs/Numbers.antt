-- A refusal's number tells the refusal, and is not 0.
use mathlib.Core.Path.{◌≡◌, refl}
use Prim.Native.Nat.{◌<◌}
use lib.Dec.{lit<}
use Rattle.exact.specs.declared.refusals.Refusal.{Refusal}
use Rattle.exact.specs.declared.refusals.Refusal.TheVariants.{NoKind, ShortBody, Radius, Sigma, LargerSigma, Miss, LargeT, LongScript, NoObject, Quotient, NeverReadable, EmptyAdd, NoDay, NotBegun, AboveLargestOrder, TailTooLarge, FullDay}
use Rattle.exact.specs.Kinds.{number_of}
use Rattle.exact.specs.Kinds.{numbered, refusal_of}

pub refusal_is : (e : Refusal) → refusal_of (number_of e) ≡ e
unfolding numbered refusal_of
refusal_is NoKind = refl
refusal_is ShortBody = refl
refusal_is Radius = refl
refusal_is Sigma = refl
refusal_is LargerSigma = refl
refusal_is Miss = refl
refusal_is LargeT = refl
refusal_is LongScript = refl
refusal_is NoObject = refl
refusal_is Quotient = refl
refusal_is NeverReadable = refl
refusal_is EmptyAdd = refl
refusal_is NoDay = refl
refusal_is NotBegun = refl
refusal_is AboveLargestOrder = refl
refusal_is TailTooLarge = refl
refusal_is FullDay = refl

pub number_pos : (e : Refusal) → 0 < number_of e
number_pos NoKind = lit< tt
number_pos ShortBody = lit< tt
number_pos Radius = lit< tt
number_pos Sigma = lit< tt
number_pos LargerSigma = lit< tt
number_pos Miss = lit< tt
number_pos LargeT = lit< tt
number_pos LongScript = lit< tt
number_pos NoObject = lit< tt
number_pos Quotient = lit< tt
number_pos NeverReadable = lit< tt
number_pos EmptyAdd = lit< tt
number_pos NoDay = lit< tt
number_pos NotBegun = lit< tt
number_pos AboveLargestOrder = lit< tt
number_pos TailTooLarge = lit< tt
number_pos FullDay = lit< tt
