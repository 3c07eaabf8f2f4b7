-- The first of several tables that stand end to end. It is as long as its own counts say.
use Rattle.std.specs.Prelude.{ℕ, ◌≡◌, List, take, drop, Option, Some, None, Ok}
use Rattle.table.specs.declared.accepted.Accepted.{Accepted}
use Rattle.table.specs.Table.{counts_of, packed_length}
use Rattle.table.specs.Accept.{table_verdict}

-- its bytes, or all there are where they are fewer, and the bytes behind it
abbrev pub first_bytes : List ℕ → List ℕ
first_bytes bytes = take (packed_length (counts_of bytes)) bytes

abbrev pub bytes_behind : List ℕ → List ℕ
bytes_behind bytes = drop (packed_length (counts_of bytes)) bytes

-- the table; none where its bytes are refused
abbrev pub FirstTable : List ℕ → Option Accepted → Type 0
FirstTable bytes (Some table) = table.bytes.now ≡ first_bytes bytes
FirstTable bytes None = ¬ (table_verdict (first_bytes bytes) ≡ Ok tt)
