-- The sample sheet of the crate `reader` is written from its 40 bytes.
use Rattle.std.specs.Prelude.{◌≡◌}
use Rattle.sheet.specs.Form.{render}
use Rattle.reader.specs.Sample.{text, table}
use Rattle.render.specs.Render.{sheet_of}

abbrev pub SampleWritten : Type 0
SampleWritten = render (sheet_of table) ≡ text
