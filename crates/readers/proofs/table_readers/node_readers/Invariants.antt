-- `node_readers` meets its contract: the nodes before i are where they are read.
use Prim.Native.Nat.{ℕ, ◌+◌, ◌<◌}
use mathlib.Core.Path.{◌≡◌}
use mathlib.Core.Bool.{true}
use mathlib.Core.List.{List}
use lib.ListN.{get_or}
use Rattle.sets.specs.Member.{member}
use Rattle.table.specs.Table.{table_of, node_at}
use Rattle.ctl.specs.Rule.{Operator, operator_of}
use Rattle.readers.specs.Reads.{is_child, reads_steps}
use Rattle.readers.specs.Marked.{Raised}
use Rattle.readers.proofs.table_readers.node_readers.Given as goal

-- node i stands where its children are read, and the steps
abbrev pub Child : List ℕ → Operator → ℕ → Type 0
Child readers o i = (k : ℕ) → is_child o k ≡ true → member (get_or readers (32 + k) 0) i ≡ true

abbrev pub Steps : List ℕ → Operator → ℕ → Type 0
Steps readers o i = reads_steps o ≡ true → member (get_or readers 64 0) i ≡ true

abbrev pub invariant-loop-i : goal.invariant-loop-i
invariant-loop-i l =
    Raised l.initial.readers l.readers
    × ((k : ℕ) → k < l.i → Child l.readers (operator_of (node_at (table_of l.table.bytes.now) k)) k)
    × ((k : ℕ) → k < l.i → Steps l.readers (operator_of (node_at (table_of l.table.bytes.now) k)) k)
