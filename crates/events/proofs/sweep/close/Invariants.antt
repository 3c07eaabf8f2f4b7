-- `close` meets its contract: sweeps until one fails or adds nothing. It ends because the words only grow.
use Prim.Native.Nat.{◌+◌, ◌*◌, ◌-◌, ◌^◌}
use mathlib.Core.Path.{◌≡◌}
use lib.ListN.{length}
use Rattle.events.specs.NetTable.{table_in}
use Rattle.closure.specs.Knowledge.{knowledge, total}
use Rattle.events.specs.Watched.{Watched}
use Rattle.propagate.specs.Memory.{memory}
use Rattle.events.proofs.Closing.{Swept}
use Rattle.events.proofs.sweep.close.Given as goal

abbrev pub invariant-loop-r : goal.invariant-loop-r
invariant-loop-r l =
    Swept (table_in l.net) (memory l.initial.rows l.initial.words) (memory l.rows l.words)
    × Watched (table_in l.net) l.looks (knowledge (table_in l.net) (memory l.rows l.words))
    × (length l.looks ≡ length l.initial.looks)

abbrev pub decreases-loop-r : goal.decreases-loop-r
decreases-loop-r l = (length l.initial.rows + length l.initial.words) * 2 ^ 32 - total (memory l.rows l.words)
