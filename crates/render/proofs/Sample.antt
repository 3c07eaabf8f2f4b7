-- The sample sheet is written from its 40 bytes.
use mathlib.Core.Path.{refl}
use Rattle.table.specs.Table.{records}
use Rattle.sheet.specs.Form.{digits, decimal, line, concat_map, render}
use Rattle.render.specs.Sample.{SampleWritten}

pub sample_written : SampleWritten
unfolding render line decimal digits concat_map records
sample_written = refl
