-- `write_block` meets its contract: the names, then the lines.
use Rattle.render.proofs.Left.{stored_then}
use Rattle.render.proofs.record.write_block.Goals as goal

pub returns : goal.returns
returns g c = stored_then c.put_bytes-place.ensures c.write_records.ensures
