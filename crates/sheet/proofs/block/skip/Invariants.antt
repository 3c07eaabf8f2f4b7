-- The loop's invariant: the text behind all lines is the text behind those that are left.
use Prim.Native.Nat.{◌-◌}
use mathlib.Core.Path.{◌≡◌}
use Rattle.sheet.specs.Parse.{times}
use Rattle.sheet.proofs.Times.{behind}
use Rattle.sheet.proofs.block.skip.Given as goal

abbrev pub invariant-loop : goal.invariant-loop
invariant-loop g l =
    behind (times l.count g.L.Line.parser l.text) ≡ behind (times (l.count - l.counter) g.L.Line.parser l.rest)
