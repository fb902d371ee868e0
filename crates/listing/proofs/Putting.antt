-- Texts put one after the other.
use Prim.Native.Nat.{ℕ, ◌+◌, ◌-◌, ◌≤◌}
use mathlib.Core.Path.{◌≡◌, refl, sym, ◌∙◌, ap}
use mathlib.Core.List.{List, append_assoc}
use lib.ListN.{length, drop, length-append}
use native.Mathlib.Omega.{arith}
use borrow.Author.Rules.{rules}
use borrow.Rule.Slice.PartMut.{put_mid}
use Rattle.std.proofs.lemmas.Slice.{take-put_mid, drop-put_mid, overwrites}
use Rattle.listing.specs.Put.{Put}
use lib.Seq.{drop-drop}

-- lists that agree from index n on agree from a later one on
pub dropped : (a b : List ℕ) (n k : ℕ) → drop n a ≡ drop n b → drop (n + k) a ≡ drop (n + k) b
dropped a b n k e = sym (drop-drop k n a) ∙ ap (drop k) e ∙ drop-drop k n b

-- a text written over a part of the buffer
pub put_over : (out : List ℕ) (at : ℕ) (text : List ℕ) → at + length text ≤ length out → Put out (put_mid at (at + length text - at) out text) at text (at + length text)
put_over out at text h =
    let e : at + length text - at ≡ length text = omega arith in
    record {
      is = take-put_mid at (at + length text - at) out text (at + length text) refl (omega arith);
      ends = refl;
      rest = drop-put_mid at (at + length text - at) out text (at + length text) (omega arith) (omega arith) (sym e);
      same = search (rules, overwrites);
    }

-- omega's and grind's rules for texts put one after the other
pub ruleset joined = (append_assoc, length-append)
