-- `put_number` meets its contract. The measure is the number itself, which is more than its tenth.
use Rattle.render.proofs.emit.+put_number.Given as goal

abbrev pub decreases-put_number : goal.decreases-put_number
decreases-put_number l = l.value
