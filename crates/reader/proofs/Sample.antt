-- The sample sheet is read to its 40 bytes.
use mathlib.Core.Path.{refl}
use Rattle.table.specs.Table.{records}
use Rattle.table.specs.Accept.{table_verdict, all, any, distinct, nodes_fit}
use Rattle.sheet.specs.Form.{concat_map}
use Rattle.sheet.specs.Parse.{parse, exactly, digits_up_to, field, times, sheet_parser}
use Rattle.reader.specs.Read.{pack, read_verdict}
use Rattle.reader.specs.Sample.{SampleReads}

pub sample_reads : SampleReads
unfolding read_verdict parse sheet_parser exactly digits_up_to field times pack concat_map table_verdict all any
    distinct nodes_fit records
sample_reads = record { bytes = refl; fits = refl; short = refl }
