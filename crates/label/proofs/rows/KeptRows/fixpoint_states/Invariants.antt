-- The loop's invariant: the level is level m; a level that repeats is the last.
use mathlib.Core.Path.{◌≡◌}
use Rattle.label.specs.Words.{levels_word}
use Rattle.label.proofs.rows.KeptRows.fixpoint_states.Given as goal

abbrev pub invariant-loop-m : goal.invariant-loop-m
invariant-loop-m l = l.level ≡ levels_word l.family l.q l.self.rows l.self.states l.a l.b l.m
