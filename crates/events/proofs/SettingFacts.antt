-- What a net says of its table: it is well formed, with few nodes, and where the words of the states to look at lie.
use Prim.Native.Nat.{ℕ, suc, ◌+◌, ◌<◌}
use native.Mathlib.Numerals.{add-one}
use native.Mathlib.Omega.{arith}
use mathlib.Core.Path.{◌≡◌, ap, ◌∙◌}
use lib.ListN.{length, get_or}
use Rattle.table.specs.Table.{node_at}
use Rattle.table.specs.Facts.{Wellformed}
use Rattle.table.proofs.Facts.{accepted}
use Rattle.ctl.specs.Rule.{operator_of}
use Rattle.readers.specs.Readers.{row_count, first_word, word_total}
use Rattle.readers.proofs.Places.{first_next, first_last}
use Rattle.events.specs.declared.net.Net.{Net}
use Rattle.events.specs.NetTable.{table_in}

module _ (net : Net) where
  pub wellformed : Wellformed (table_in net)
  wellformed = (accepted net.table.bytes.now net.table.passes).table

  -- a node of the table is below 32
  pub low : (i : ℕ) → i < length (table_in net).nodes → i < 32
  low i h = omega (arith, h, wellformed.few_nodes)

  -- where all words of the states to look at end
  pub all_words : get_or net.graph.readers.first 32 0 ≡ word_total (table_in net)
  all_words =
      net.setting.reads.firsts.at 32 (omega arith) ∙ first_last (table_in net) 32 (omega (arith, wellformed.few_nodes))

  -- where those of a node begin
  pub words_begin : (i : ℕ) → i < length (table_in net).nodes
      → get_or net.graph.readers.first i 0 ≡ first_word (table_in net) i
  words_begin i h = net.setting.reads.firsts.at i (omega (arith, low i h))

  -- and where they end
  pub words_end_at : (i : ℕ) → i < length (table_in net).nodes
      → get_or net.graph.readers.first (i + 1) 0
      ≡ first_word (table_in net) i + row_count (length (table_in net).states)
      (operator_of (node_at (table_in net) i))
  words_end_at i h = ap (λ (k : ℕ). get_or net.graph.readers.first k 0) (add-one i)
      ∙ net.setting.reads.firsts.at (suc i) (omega (arith, low i h)) ∙ first_next (table_in net) i h
