-- Reading what was written gives the table again, and writing what was read gives the text again.
use Rattle.std.specs.Prelude.{ℕ, ◌<◌, ◌≤◌, ◌≡◌, List, ◌++◌, length, drop, get_or, Ok}
use Rattle.table.specs.Facts.{IsTable}
use Rattle.sheet.specs.Form.{render}
use Rattle.reader.specs.Read.{read_answer, read_buffer}
use Rattle.reader.specs.Exact.{SheetOf}
use Rattle.render.specs.Render.{sheet_of}

pub record RoundTrip : Type 0 where
  -- bytes that are a table: their sheet is read back into a buffer that has room, and the table stands there
  pub read_again : (table : List ℕ) → ((i : ℕ) → get_or table i 0 < 256) → IsTable table → (out : List ℕ)
      → length table ≤ length out
      → (read_answer (render (sheet_of table)) out ≡ Ok (length table))
      × (read_buffer (render (sheet_of table)) out ≡ table ++ drop (length table) out)
  -- of the table that a text is packed into, the sheet is the text
  pub written_again : (text table : List ℕ) → SheetOf text table → render (sheet_of table) ≡ text
