-- `check_list` meets its contract. The loop's invariant: the list's bytes are all bits exactly when those from j on
-- are.
use Prim.Native.Nat.{◌≤◌}
use lib.Dec.{leb}
use lib.ListN.{length, drop}
use mathlib.Core.Path.{◌≡◌}
use Rattle.table.specs.Accept.{all}
use Rattle.table.proofs.list_check.check_list.Given as goal

abbrev pub invariant-loop-byte : goal.invariant-loop-byte
invariant-loop-byte l =
    (l.byte-index ≤ length l.list) × (all (λ b. leb b 1) l.list ≡ all (λ b. leb b 1) (drop l.byte-index l.list))
