-- The words of an accepted table are few: its levels and the words of the states to look at.
use Prim.Native.Nat.{ℕ, ◌*◌, ◌≤◌, ◌<◌}
use native.Mathlib.Omega.{arith}
use mathlib.Core.List.{List, [], ◌∷◌}
use lib.ListN.{length}
use Rattle.table.specs.declared.record.Node.{Node}
use Rattle.table.specs.Table.{Table}
use Rattle.table.specs.Facts.{Wellformed}
use Rattle.ctl.specs.Rule.{operator_of}
use Rattle.readers.specs.Readers.{row_counts, word_total}
use Rattle.readers.proofs.Places.{count_most}
use Rattle.closure.specs.Knowledge.{level_sizes, level_total}
use Rattle.closure.proofs.LevelBases.{size_most}

counts_most : (n : ℕ) → n ≤ 32 → (xs : List Node) → row_counts n xs ≤ 32 * length xs
unfolding row_counts
counts_most n few [] = omega arith
counts_most n few (x ∷ xs) = omega (arith, count_most n few (operator_of x), counts_most n few xs)

sizes_most : (n : ℕ) → n ≤ 32 → (xs : List Node) → level_sizes n xs ≤ 62 * length xs
unfolding level_sizes
sizes_most n few [] = omega arith
sizes_most n few (x ∷ xs) = omega (arith, size_most n few (operator_of x), sizes_most n few xs)

pub few_words : (T : Table) → Wellformed T → word_total T < 1026
few_words T wf = omega (arith, counts_most (length T.states) wf.few_states T.nodes, wf.few_nodes)

pub few_levels : (T : Table) → Wellformed T → level_total T < 1985
few_levels T wf = omega (arith, sizes_most (length T.states) wf.few_states T.nodes, wf.few_nodes)
