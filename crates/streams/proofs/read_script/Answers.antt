use Rattle.std.proofs.Common.{◌≡◌, ◌≤◌, ◌+◌, ◌-◌, ℕ, List, ◌++◌, length, take, drop, arith, sym, ap, subst, ◌∙◌, length-take-le, length-append, length-take, length-drop}
use Rattle.std.proofs.Math.Seq.{take-append-add}
use Rattle.std.proofs.lemmas.List.{take-append-le}
use Rattle.std.proofs.KnownBytes.{Consumes-trans}
use Rattle.std.specs.Io.KnownBytes.{Consumes}
use Rattle.streams.proofs.read_script.Goals as goal

-- a buffer whose part from done on is as long as it was
lengths :
    (size done : ℕ) (xs part : List ℕ) → length xs ≡ size → done ≤ length xs → length part ≡ length (take (size - done) (drop done xs)) →
    (length (take done xs ++ (part ++ drop (size - done) (drop done xs))) ≡ size) × (length part ≡ size - done)
lengths size done xs part same within e =
    let p : length part ≡ size - done = omega (arith, e, length-take (size - done) (drop done xs), length-drop done xs) in
    (omega (arith, p, length-append (take done xs) (part ++ drop (size - done) (drop done xs)), length-append part (drop (size - done) (drop done xs)), length-drop (size - done) (drop done xs), length-drop done xs, length-take-le done xs within), p)

-- the bytes read so far and the next ones, where they now stand
read_on : (done n : ℕ) (xs part rest : List ℕ) → done ≤ length xs → n ≤ length part → take (done + n) (take done xs ++ (part ++ rest)) ≡ take done xs ++ take n part
read_on done n xs part rest within fits =
    ap (λ k. take (k + n) (take done xs ++ (part ++ rest))) (sym (length-take-le done xs within)) ∙
    take-append-add (take done xs) (part ++ rest) n ∙ ap (λ l. take done xs ++ l) (take-append-le n part rest fits)

pub loop-done-preserved : goal.loop-done-preserved
loop-done-preserved g c =
    let z = c.loop-done.invariant in
    let r = c.in_ok-n.ensures in
    let (long, part) = lengths _ _ _ _ (z.0 ∙ c.told-buf) z.1 c.read_some.auto.buf in (
      long ∙ sym c.told-buf,
      omega (arith, long, part, r.within, z.1, z.0, c.told-buf),
      subst (Consumes _ _) (sym (read_on _ _ _ _ _ z.1 r.within)) (Consumes-trans _ _ _ _ _ z.2 r.bytes.0),
    )
