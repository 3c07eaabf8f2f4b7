-- `levels_visit` meets its contract: the first k of the levels, one after the other, in their order.
use Prim.Native.Nat.{ℕ, ◌+◌}
use mathlib.Core.Path.{◌≡◌}
use Rattle.propagate.specs.Memory.{memory}
use Rattle.closure.specs.Knowledge.{knowledge}
use Rattle.events.specs.NetTable.{table_in}
use Rattle.events.specs.Levels.{SeenRest}
use Rattle.events.specs.Looked.{Always, Looked}
use Rattle.events.proofs.VisitAll.{Among}
use Rattle.events.proofs.levels.levels_visit.Given as goal

-- the word of level m + 1, where that of level 1 is given
abbrev pub WordOf : ℕ → ℕ → ℕ → Type 0
WordOf first m k = k ≡ first + m

abbrev pub invariant-loop-k : goal.invariant-loop-k
invariant-loop-k l = record {
  looked : Looked (table_in l.net) (Among (WordOf l.x.word) l.down l.net.graph.states l.k) Always l.initial.looks
      l.looks (memory l.initial.rows l.initial.words) (memory l.rows l.words) l.report;
  seen_rests : SeenRest (table_in l.net) l.x l.seen (knowledge (table_in l.net) (memory l.rows l.words));
}
