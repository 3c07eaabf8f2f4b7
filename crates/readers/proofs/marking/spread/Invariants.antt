-- `spread` meets its contract: the readers of each member are added, one member after the other.
use Prim.Native.Nat.{ℕ}
use mathlib.Core.Path.{◌≡◌}
use mathlib.Core.Bool.{true}
use mathlib.Core.List.{List}
use lib.ListN.{get_or}
use Rattle.sets.specs.Member.{member}
use Rattle.sets.proofs.Walk.{Left}
use Rattle.readers.proofs.MarkLaws.{Gone}
use Rattle.readers.proofs.marking.spread.Given as goal

-- the readers of t are in a set
abbrev pub Spread : List ℕ → ℕ → ℕ → Type 0
Spread readers all t = (s : ℕ) → member (get_or readers t 0) s ≡ true → member all s ≡ true

abbrev pub invariant-loop-t : goal.invariant-loop-t
invariant-loop-t l =
    Left l.set l.t-iterator.left
    × ((t : ℕ) → member l.set t ≡ true → member l.all t ≡ true)
    × Gone l.set l.t-iterator.left (Spread l.readers.of l.all)
