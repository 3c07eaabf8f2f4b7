-- Looking at a node without levels: rows alone change, and where nothing was added it is at rest at the states of its
-- word.
use Prim.Native.Nat.{ℕ, ◌+◌, ◌≤◌, ◌<◌}
use native.Mathlib.Omega.{arith}
use mathlib.Core.Path.{◌≡◌, sym, ap, subst, ◌∙◌}
use mathlib.Core.Bool.{true, false, true≢false}
use mathlib.Core.List.{List}
use lib.Bits.{bit_and}
use lib.Dec.{ltb}
use lib.ListN.{length, get_or, set}
use Rattle.sets.specs.Member.{member, set_of}
use Rattle.table.specs.Table.{Table, node_at}
use Rattle.table.proofs.Facts.{accepted}
use Rattle.ctl.specs.Rule.{Operator, constant, atom, negation, conjunction, disjunction, next, fixpoint, operator_of}
use Rattle.rows.specs.declared.row.Report.{Report}
use Rattle.rows.specs.Words.{quiet}
use Rattle.propagate.specs.Memory.{memory, stepped, Stepped}
use Rattle.propagate.specs.Marked.{RowsMarked}
use Rattle.readers.specs.Reads.{has_levels}
use Rattle.readers.specs.Readers.{row_count, first_word, word_total}
use Rattle.readers.proofs.Places.{cells_in}
use Rattle.closure.specs.Knowledge.{Knowledge, knowledge, Sized}
use Rattle.closure.specs.Advance.{Advance}
use Rattle.closure.specs.MemoryRules.{node_step}
use Rattle.closure.proofs.Advances.{Advances, quiet_parts, quiet_still}
use Rattle.closure.proofs.NodeAdvance.{NodeRest, node_advance}
use Rattle.events.specs.declared.net.Net.{Net}
use Rattle.events.specs.NetTable.{table_in}
use Rattle.events.specs.Watched.{RestPlain, RestCell}
use Rattle.events.specs.Looked.{Always, CellsOf, Looked}
use Rattle.events.proofs.SettingFacts.{wellformed, words_begin}
use Rattle.events.proofs.LookWords.{word_inside, word_here}
use Rattle.events.proofs.Noting.{plain_row}
use Rattle.events.proofs.Looking.{looked_so, looked_loud, cell_word, looked_emptied}
use Rattle.events.proofs.VisitKept.{rows_step}

-- a node without levels has one row of cells
plain_cell : (T : Table) (K : Knowledge) (i m : ℕ) (o : Operator) (s : ℕ) → has_levels o ≡ false → RestPlain T K i o s
    → RestCell T K i m o s
plain_cell T K i m (constant b) s e rest = rest
plain_cell T K i m (atom p) s e rest = rest
plain_cell T K i m (negation a) s e rest = rest
plain_cell T K i m (conjunction a b) s e rest = rest
plain_cell T K i m (disjunction a b) s e rest = rest
plain_cell T K i m (next q a) s e rest = rest
plain_cell T K i m (fixpoint fam q a b) s e rest = absurd (true≢false e)

-- which is its first
pub plain_only : (T : Table) (i k : ℕ) → has_levels (operator_of (node_at T i)) ≡ false → CellsOf T i k
    → k ≡ first_word T i + 0
plain_only T i k plain c = omega (arith, c.0, c.1, plain_row (length T.states) (operator_of (node_at T i)) plain)

-- and there is a word for it
pub plain_first : (T : Table) (i : ℕ) → has_levels (operator_of (node_at T i)) ≡ false → i < length T.nodes
    → first_word T i < word_total T
plain_first T i plain h = omega (arith, cells_in T i h, plain_row (length T.states) (operator_of (node_at T i)) plain)

-- as the code keeps it
pub plain_place : (net : Net) (i : ℕ) → i < length (table_in net).nodes
    → first_word (table_in net) i + 0 ≡ get_or net.graph.readers.first i 0
plain_place net i h = omega (arith, words_begin net i h)

module _ (net : Net) (i : ℕ) (h : i < length (table_in net).nodes)
    (plain : has_levels (operator_of (node_at (table_in net) i)) ≡ false)
    (rows rows' looks looks' : List ℕ) (room : word_total (table_in net) ≤ length looks') (r : Report)
    (calm : r.changed ≡ false → looks' ≡ looks) (marked : RowsMarked net.graph.readers looks looks' rows rows')
    (all : ℕ) (is_all : all ≡ set_of 32 (λ t. ltb t net.graph.states)) (place : ℕ)
    (here : place ≡ get_or net.graph.readers.first i 0) (o : Operator)
    (read : o ≡ operator_of (node_at (table_in net) i))
    (did : (w : List ℕ) → stepped rows' w r
    ≡ node_step net.table.bytes.now net.graph.targets net.graph.states (bit_and (get_or looks place 0) all) i o
    (memory rows w))
    (w : List ℕ) (sized : Sized (table_in net) (memory rows w)) where
  abbrev T : Table
  T = table_in net

  abbrev mine : Operator
  mine = operator_of (node_at T i)

  abbrev look : ℕ
  look = bit_and (get_or looks place 0) all

  all_are : all ≡ set_of 32 (λ t. ltb t (length T.states))
  all_are = is_all ∙ ap (λ (m : ℕ). set_of 32 (λ t. ltb t m)) net.setting.states

  one_row : place ≡ first_word T i + 0
  one_row = omega (arith, here, words_begin net i h)

  advances : Advance T (NodeRest T i mine look) (memory rows w) (memory rows' w) r
  advances = subst (λ (s : Stepped). Advances T (NodeRest T i mine look) (memory rows w) s)
      (sym (did w ∙ (λ j. node_step net.table.bytes.now net.graph.targets (net.setting.states j) look i (read j)
      (memory rows w))))
      (node_advance net.table.bytes.now (accepted net.table.bytes.now net.table.passes) net.graph.targets
      net.setting.targets_at look
      (word_inside T (get_or looks place 0) all all_are) i h (memory rows w) sized plain)

  moved : Looked T (λ k. ⊥) (NodeRest T i mine look) looks looks' (memory rows w) (memory rows' w) r
  moved = rows_step net rows rows' looks looks' r calm marked w sized advances

  pub plain_loud : quiet r ≡ false
      → Looked (table_in net) (CellsOf (table_in net) i) Always looks looks' (memory rows w) (memory rows' w) r
  plain_loud loud = looked_loud loud moved

  pub plain_calm : quiet r ≡ true
      → Looked (table_in net) (CellsOf (table_in net) i) Always looks (set looks' place 0) (memory rows w)
      (memory rows' w) r
  plain_calm still = subst
      (λ (k : ℕ). Looked T (CellsOf T i) Always looks (set looks' k 0) (memory rows w) (memory rows' w) r) (sym one_row)
      (looked_so (λ c f k e. plain_only T i k plain e) (λ z. z) (looked_emptied (first_word T i + 0) inside moved still
      (cell_word T looks' (knowledge T (memory rows' w)) i 0 h some
      (λ s l m. plain_cell T (knowledge T (memory rows' w)) i 0 mine s plain
      (quiet_still advances still s l
      (word_here T (wellformed net).few_states (get_or looks place 0) all all_are s l (was s m)))))))
    where
      some : 0 < row_count (length T.states) mine
      some = omega (arith, plain_row (length T.states) mine plain)

      inside : first_word T i + 0 < length looks'
      inside = omega (arith, cells_in T i h, some, room)

      was : (s : ℕ) → member (get_or looks' (first_word T i + 0) 0) s ≡ true → member (get_or looks place 0) s ≡ true
      was s m = ap (λ (k : ℕ). member (get_or looks k 0) s) one_row
          ∙ sym (ap (λ (ws : List ℕ). member (get_or ws (first_word T i + 0) 0) s) (calm (quiet_parts r still).0)) ∙ m
