-- `write_found` meets its contract: the two lines of the answer, the names, and the lines of the steps.
use Rattle.render.proofs.Left.{stored_then}
use Rattle.report.proofs.answer.write_found.Goals as goal

pub returns : goal.returns
returns c = stored_then c.write_answer-third.ensures (stored_then c.put_bytes-at.ensures c.write_steps.ensures)
