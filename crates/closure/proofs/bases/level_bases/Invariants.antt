-- `level_bases` meets its contract. The loop's invariant: the bases of the nodes before i are stored, and `total` is
-- that of node i.
use Prim.Native.Nat.{ℕ, ◌*◌, ◌≤◌, ◌<◌}
use mathlib.Core.Path.{◌≡◌}
use lib.ListN.{length, get_or}
use Rattle.table.specs.Table.{table_of}
use Rattle.closure.specs.Knowledge.{level_base}
use Rattle.closure.proofs.bases.level_bases.Given as goal

abbrev pub invariant-loop-i : goal.invariant-loop-i
invariant-loop-i l = record {
  few : l.total ≤ 62 * l.i;
  size : length l.at ≡ 32;
  total : l.total ≡ level_base (table_of l.table.bytes.now) l.i;
  at : (k : ℕ) → k < l.i → get_or l.at k 0 ≡ level_base (table_of l.table.bytes.now) k;
}
