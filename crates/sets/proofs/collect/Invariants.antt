-- `collect` meets its contract: the set of the states below s is collected, whatever the test says of each.
use Prim.Native.Nat.{ℕ, ◌<◌}
use mathlib.Core.Path.{◌≡◌}
use mathlib.Core.Bool.{Bool}
use Rattle.sets.specs.Member.{set_of}
use Rattle.sets.proofs.collect.Given as goal

abbrev pub invariant-loop-s : goal.invariant-loop-s
invariant-loop-s g l =
    (P : ℕ → Bool) → ((s : ℕ) (b : Bool) → s < l.fn.n → goal.F-post g l.fn.test s b → b ≡ P s) → l.set ≡ set_of l.s P
