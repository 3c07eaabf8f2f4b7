-- `step_count` meets its contract: the count is that of the records.
use Rattle.table.proofs.Facts.{steps_are}
use Rattle.table.proofs.accepted.Accepted.step_count.Goals as goal

pub returns : goal.returns
returns c = steps_are c.args.self.now.bytes.now c.args.self.now.counts c.args.self.now.counted
