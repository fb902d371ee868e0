-- The refusals and the kinds of a record as types of code, each with the number that it has in the tables of document 01 and in document 02.
use Rattle.std.specs.Prelude.{◌≡◌, false, cond, List, [], ◌∷◌, ℕ, eqb, Result, Ok, Err, MatchResult}
use Rattle.exact.specs.declared.refusals.Refusal.{Refusal}
use Rattle.exact.specs.declared.refusals.Refusal.TheVariants.{NoKind, ShortBody, Radius, Sigma, LargerSigma, Miss, LargeT, LongScript, NoObject, Quotient, NeverReadable, EmptyAdd, NoDay, NotBegun, AboveLargestOrder, TailTooLarge, FullDay}
use Rattle.exact.specs.declared.kinds.Kind.{Kind}
use Rattle.exact.specs.declared.kinds.Kind.TheVariants.{Begin, Add, Read, BeginConjunction}
use Rattle.exact.specs.Records.{is_kind}

abbrev pub number_of : Refusal → ℕ
number_of NoKind = 1
number_of ShortBody = 2
number_of Radius = 3
number_of Sigma = 4
number_of LargerSigma = 5
number_of Miss = 6
number_of LargeT = 7
number_of LongScript = 8
number_of NoObject = 9
number_of Quotient = 10
number_of NeverReadable = 11
number_of EmptyAdd = 12
number_of NoDay = 13
number_of NotBegun = 21
number_of AboveLargestOrder = 22
number_of TailTooLarge = 23
number_of FullDay = 24

-- the first of these with the number n, or else the last refusal of the tables
unfoldable pub numbered : ℕ → List Refusal → Refusal
numbered n [] = FullDay
numbered n (e ∷ es) = cond (eqb n (number_of e)) e (numbered n es)

-- the refusal with this number
unfoldable pub refusal_of : ℕ → Refusal
refusal_of n =
    numbered n
    (NoKind ∷ ShortBody ∷ Radius ∷ Sigma ∷ LargerSigma ∷ Miss ∷ LargeT ∷ LongScript ∷ NoObject ∷ Quotient ∷ NeverReadable ∷ EmptyAdd ∷ NoDay ∷ NotBegun ∷ AboveLargestOrder ∷ TailTooLarge ∷ [])

-- the number of a refusal, or 0 where there is none
abbrev pub refusal_in : {A : Type 0} → Result A Refusal → ℕ
refusal_in (Ok x) = 0
refusal_in (Err e) = number_of e

-- the byte of a kind
abbrev pub kind_byte : Kind → ℕ
kind_byte Begin = 1
kind_byte Add = 2
kind_byte Read = 3
kind_byte BeginConjunction = 4

-- the kind of a byte, or refusal 1 where no kind has it
abbrev pub Decodes : ℕ → Result Kind Refusal → Type 0
Decodes byte r = MatchResult r (λ kind. kind_byte kind ≡ byte) (λ e. (e ≡ NoKind) × (is_kind byte ≡ false))
