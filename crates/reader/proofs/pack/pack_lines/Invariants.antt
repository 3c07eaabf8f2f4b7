-- The loop's invariant: what is left to store makes of the buffer what all would make of it.
use Prim.Native.Nat.{◌-◌, ◌*◌}
use mathlib.Core.Path.{◌≡◌}
use Rattle.table.specs.Table.{record_width}
use Rattle.reader.proofs.Packing.{lines_stored}
use Rattle.reader.proofs.pack.pack_lines.Given as goal

abbrev pub invariant-loop-j : goal.invariant-loop-j
invariant-loop-j g l =
    let p = g.R.Line.parser in
    let f = g.R.PackedRecord.packed in
    lines_stored p f l.packed (record_width * l.j) (l.count - l.j) l.rest
    ≡ lines_stored p f l.initial.packed 0 l.count l.text
