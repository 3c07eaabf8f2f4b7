-- The table of a net has the facts of an accepted table.
use Rattle.table.specs.Facts.{Wellformed}
use Rattle.table.proofs.Facts.{accepted}
use Rattle.events.specs.declared.net.Net.{Net}
use Rattle.events.specs.NetTable.{table_in}

pub net_table : (net : Net) → Wellformed (table_in net)
net_table net = (accepted net.table.bytes.now net.table.passes).table
