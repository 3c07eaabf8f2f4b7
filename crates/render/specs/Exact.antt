-- What writing back gives, in the words of the sheet: which text is written, and why a table is refused.
use Rattle.std.specs.Prelude.{ℕ, ◌<◌, ◌≡◌, List, length}
use Rattle.table.specs.declared.refusal.Refusal.{Refusal}
use Rattle.table.specs.declared.refusal.Refusal.TheVariants.{ShortBuffer}
use Rattle.table.specs.Buffer.{Written}
use Rattle.table.specs.Facts.{IsTable}
use Rattle.table.specs.Refused.{TableRefused}
use Rattle.sheet.specs.Form.{render}
use Rattle.reader.specs.Exact.{SheetOf}
use Rattle.render.specs.Render.{sheet_of}

-- of an accepted table: its sheet, k bytes long, stands at the front of the buffer
pub record RenderIsExact (table : List ℕ) (k : ℕ) (before after : List ℕ) : Type 0 where
  pub is_table : IsTable table
  pub text : List ℕ
  pub sheet : SheetOf text table
  pub size : length text ≡ k
  pub written : Written text before after

-- why a table is not written, for each refusal: its sheet has no room in a buffer of `room` bytes, or it is no table
abbrev pub RenderRefused : List ℕ → ℕ → Refusal → Type 0
RenderRefused table room ShortBuffer = IsTable table × (room < length (render (sheet_of table)))
RenderRefused table room r = TableRefused table r
