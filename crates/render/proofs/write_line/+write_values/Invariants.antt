-- `write_values` meets its contract, value by value. The measure is how many values there are.
use Rattle.std.proofs.Common.{length}
use Rattle.render.proofs.write_line.+write_values.Given as goal

abbrev pub decreases-write_values : goal.decreases-write_values
decreases-write_values l = length l.values.now
