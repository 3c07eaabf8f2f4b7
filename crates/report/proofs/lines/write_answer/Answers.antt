-- `write_answer` meets its contract: the names, the word, the choices and the price are stored one behind the other.
use Rattle.render.proofs.Left.{stored_then}
use Rattle.report.proofs.lines.write_answer.Goals as goal

pub returns : goal.returns
returns c = stored_then c.put_bytes-second.ensures (stored_then c.put_bytes-third.ensures c.write_values.ensures)
