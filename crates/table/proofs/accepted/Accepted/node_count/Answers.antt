-- `node_count` meets its contract: the count is that of the records.
use Rattle.table.proofs.Facts.{nodes_are}
use Rattle.table.proofs.accepted.Accepted.node_count.Goals as goal

pub returns : goal.returns
returns c = nodes_are c.args.self.now.bytes.now c.args.self.now.counts c.args.self.now.counted
