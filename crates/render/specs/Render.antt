-- Writing back: an accepted packed table as a sheet. Tests 2 to 8 and 10, and what is answered and written.
use Rattle.std.specs.Prelude.{ℕ, List, leb, length}
use Rattle.table.specs.declared.refusal.Refusal.TheVariants.{ShortBuffer}
use Rattle.table.specs.Verdict.{Verdict, require, ◌then◌}
use Rattle.table.specs.Table.{counts_of, states_of, steps_of, nodes_of}
use Rattle.table.specs.Accept.{table_verdict}
use Rattle.sheet.specs.Form.{Sheet, render}
use Rattle.reader.specs.Read.{ReadResult, read_result, filled}

-- the sheet of a packed table
abbrev pub sheet_of : List ℕ → Sheet
sheet_of bytes =
    record { counts = counts_of bytes; states = states_of bytes; steps = steps_of bytes; nodes = nodes_of bytes }

-- tests 2 to 8 on the table, then 10 on a lent buffer of `room` bytes
unfoldable pub render_verdict : List ℕ → ℕ → Verdict
render_verdict table room = table_verdict table then require ShortBuffer (leb (length (render (sheet_of table))) room)

-- the outcome of the call for every table and every lent buffer
abbrev pub render_answer : List ℕ → List ℕ → ReadResult
render_answer table out = read_result (render_verdict table (length out)) (render (sheet_of table))

abbrev pub render_buffer : List ℕ → List ℕ → List ℕ
render_buffer table out = filled (render_verdict table (length out)) (render (sheet_of table)) out
