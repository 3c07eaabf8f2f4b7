-- `state_readers` meets its contract: the states before s are where they are read.
use Prim.Native.Nat.{ℕ, ◌<◌}
use mathlib.Core.Path.{◌≡◌}
use mathlib.Core.Bool.{true}
use lib.ListN.{get_or}
use Rattle.sets.specs.Member.{member}
use Rattle.readers.specs.Marked.{Raised}
use Rattle.readers.proofs.table_readers.state_readers.Given as goal

abbrev pub invariant-loop-s : goal.invariant-loop-s
invariant-loop-s l = Raised l.initial.readers l.readers
    × ((k : ℕ) → k < l.s → (t : ℕ) → member (get_or l.targets k 0) t ≡ true → member (get_or l.readers t 0) k ≡ true)
