-- `put_field` meets its contract: the number, then one byte.
use mathlib.Core.Path.{refl}
use Rattle.render.proofs.Left.{stored_then}
use Rattle.render.proofs.emit.put_field.Goals as goal

pub returns : goal.returns
returns c = stored_then c.put_number-next.ensures (record { place = refl; text = refl })
