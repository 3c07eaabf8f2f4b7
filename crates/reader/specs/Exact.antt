-- What Read gives, in the words of the sheet: which table is packed, and why a text is refused.
use Rattle.std.specs.Prelude.{ℕ, ◌≤◌, ◌<◌, ◌≡◌, List, length}
use Rattle.table.specs.declared.refusal.Refusal.{Refusal}
use Rattle.table.specs.declared.refusal.Refusal.TheVariants.{SheetForm, Length, ShortBuffer}
use Rattle.table.specs.Buffer.{Written}
use Rattle.table.specs.Facts.{IsTable}
use Rattle.table.specs.Refused.{TableRefused}
use Rattle.sheet.specs.Form.{Sheet, InRange, IsSheet, render}
use Rattle.reader.specs.Read.{pack}

-- the text is a sheet, and the bytes are its packed table
abbrev pub SheetOf : List ℕ → List ℕ → Type 0
SheetOf text table = (v : Sheet) × InRange v × (text ≡ render v) × (table ≡ pack v)

-- the text is a sheet whose packed table is one, and has room in a buffer of `room` bytes
abbrev pub Readable : List ℕ → ℕ → Type 0
Readable text room = (table : List ℕ) × SheetOf text table × IsTable table × (length table ≤ room)

-- of an accepted text: its packed table, k bytes long, is a table, has room in the buffer and stands at its front
pub record ReadIsExact (text : List ℕ) (k : ℕ) (before after : List ℕ) : Type 0 where
  pub table : List ℕ
  pub sheet : SheetOf text table
  pub is_table : IsTable table
  pub size : length table ≡ k
  pub fits : k ≤ length before
  pub written : Written table before after

-- why a text gives no table, for each refusal: it is no sheet, or it is a sheet and its packed table is refused. A
-- packed sheet is as long as its counts say, so 2 is for no text
abbrev pub TextRefused : List ℕ → Refusal → Type 0
TextRefused text SheetForm = ¬ IsSheet text
TextRefused text Length = ⊥
TextRefused text r = (table : List ℕ) × SheetOf text table × TableRefused table r

-- the same, and a table that has no room in a buffer of `room` bytes
abbrev pub ReadRefused : List ℕ → ℕ → Refusal → Type 0
ReadRefused text room ShortBuffer = (table : List ℕ) × SheetOf text table × IsTable table × (room < length table)
ReadRefused text room r = TextRefused text r
