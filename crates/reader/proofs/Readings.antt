-- What Read says to small texts, computed.
use mathlib.Core.Path.{refl}
use Rattle.table.specs.Table.{records}
use Rattle.table.specs.Accept.{table_verdict, all, any, distinct, nodes_fit}
use Rattle.sheet.specs.Form.{concat_map}
use Rattle.sheet.specs.Parse.{parse, exactly, digits_up_to, field, times, sheet_parser}
use Rattle.reader.specs.Read.{pack, read_verdict}
use Rattle.reader.specs.Readings.{ReadingsOfTheForm}

pub readings : ReadingsOfTheForm
unfolding read_verdict parse sheet_parser exactly digits_up_to field times pack concat_map table_verdict all any
    distinct nodes_fit records
readings = record { form = refl; price = refl; no_table = refl; many_states = refl }
