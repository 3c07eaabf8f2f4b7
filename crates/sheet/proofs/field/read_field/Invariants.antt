-- The loop's invariant: the field is what the digits that are left make of the value so far.
use Prim.Native.Nat.{◌≤◌}
use mathlib.Core.Path.{◌≡◌}
use lib.ListN.{length}
use Rattle.sheet.specs.Parse.{digits_up_to, field}
use Rattle.sheet.proofs.field.read_field.Given as goal

abbrev pub invariant-loop-b : goal.invariant-loop-b
invariant-loop-b l = (l.value ≤ 65535) × (field l.max l.stop l.text ≡ digits_up_to l.max l.stop l.value l.rest)

abbrev pub decreases-loop-b : goal.decreases-loop-b
decreases-loop-b l = length l.rest
