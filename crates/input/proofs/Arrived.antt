-- What one more read adds to the bytes that came before it.
use Rattle.std.proofs.Common.{ℕ, ◌+◌, ◌≤◌, ◌≡◌, List, ◌++◌, sym, ap, ◌∙◌, subst, length, take}
use Rattle.std.specs.declared.option.Option.{Option}
use Rattle.std.specs.Io.KnownBytes.{Consumes}
use Rattle.std.proofs.KnownBytes.{Consumes-trans}
use Rattle.std.proofs.Math.Seq.{take-append-add}
use lib.Seq.{take-append-le}

-- the front came before, and the n bytes of the part came now
pub read_more : (a b c : Option (List ℕ)) (front part rest : List ℕ) (at n : ℕ)
    → length front ≡ at
    → n ≤ length part
    → Consumes a b front
    → Consumes b c (take n part)
    → Consumes a c (take (at + n) (front ++ (part ++ rest)))
read_more a b c front part rest at n long fits before read =
    subst
    (Consumes a c)
    (sym
    (ap (λ k. take (k + n) (front ++ (part ++ rest))) (sym long)
    ∙ take-append-add front (part ++ rest) n
    ∙ ap (λ l. front ++ l) (take-append-le n part rest fits)))
    (Consumes-trans a b c front (take n part) before read)
