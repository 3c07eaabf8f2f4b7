-- The loop's invariant: n is the number of places that were gone through.
use Rattle.std.proofs.Common.{◌≡◌, length}
use Rattle.table_vectors.proofs.text.bytes_of.Given as goal

abbrev pub invariant-loop-place : goal.invariant-loop-place
invariant-loop-place l = l.n ≡ length l.yielded
