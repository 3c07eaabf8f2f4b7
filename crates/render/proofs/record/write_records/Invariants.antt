-- The loop's invariant: the lines from i on are left.
use Rattle.table.specs.Table.{record_width}
use Rattle.render.proofs.Sections.{LinesLeft}
use Rattle.render.proofs.record.write_records.Given as goal

abbrev pub invariant-loop-i : goal.invariant-loop-i
invariant-loop-i g l =
    LinesLeft g.R.RenderedLine.line g.R.RenderedLine.record_of record_width l.count l.section l.initial.text l.at l.i
    l.text l.place
