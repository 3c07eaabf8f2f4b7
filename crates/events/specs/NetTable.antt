-- The table of a net.
use Rattle.table.specs.Table.{Table, table_of}
use Rattle.events.specs.declared.net.Net.{Net}

abbrev pub table_in : Net → Table
table_in net = table_of net.table.bytes.now
