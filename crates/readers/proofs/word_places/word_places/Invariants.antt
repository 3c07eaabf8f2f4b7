-- `word_places` meets its contract. The loop's invariant: the places up to i are stored, and `total` is that of node i.
use Prim.Native.Nat.{ℕ, ◌+◌, ◌*◌, ◌≤◌}
use mathlib.Core.Path.{◌≡◌}
use lib.ListN.{length, get_or}
use Rattle.table.specs.Table.{table_of}
use Rattle.readers.specs.Readers.{first_word}
use Rattle.readers.proofs.word_places.word_places.Given as goal

abbrev pub invariant-loop-i : goal.invariant-loop-i
invariant-loop-i l = record {
  few : l.total ≤ 1 + 32 * l.i;
  size : length l.first ≡ 33;
  total : l.total ≡ first_word (table_of l.table.bytes.now) l.i;
  at : (k : ℕ) → k ≤ l.i → get_or l.first k 0 ≡ first_word (table_of l.table.bytes.now) k;
}
