-- The rules of the nodes without steps advance the memory, and where they added nothing they are at rest: constants,
-- a node of one input, and AND and OR.
use Prim.Native.Nat.{ℕ, ◌<◌}
use mathlib.Core.Path.{◌≡◌, subst}
use mathlib.Core.Bool.{Bool, true, false}
use mathlib.Core.Logic.{inl}
use mathlib.Core.List.{List}
use lib.ListN.{length}
use Rattle.table.specs.Table.{Table, node_at}
use Rattle.table.specs.Facts.{Wellformed}
use Rattle.ctl.specs.Rule.{Quantifier, operator_of}
use Rattle.circuit.specs.Logic.{Literal}
use Rattle.circuit.specs.Variables.{Var, value}
use Rattle.rows.specs.declared.row.Row.{Row}
use Rattle.rows.specs.Row.{turn, Within, Clear}
use Rattle.rows.specs.Words.{SmallRow}
use Rattle.closure.specs.Knowledge.{Knowledge, Sized}
use Rattle.propagate.specs.Memory.{Memory, node_place, add_row, node_row}
use Rattle.rows.specs.Rules.{and_output, and_input}
use Rattle.rows.proofs.RowLaws.{and-true, or-true, turned_small}
use Rattle.closure.specs.Dual.{is_every}
use Rattle.closure.specs.Rest.{RestSame, RestBoth}
use Rattle.closure.specs.KnowledgeIn.{RowIn}
use Rattle.closure.specs.Advance.{ForcedBy}
use Rattle.propagate.specs.Gates.{one_input_step, both_step}
use Rattle.closure.proofs.TurnedRows.{turned_twice, turned_within, within_trans}
use Rattle.closure.proofs.RulesSmall.{output_small, input_small}
use Rattle.closure.proofs.GateOf.{both_of}
use Rattle.closure.proofs.NodeSound.{both_up_in, both_left_in, both_right_in}
use Rattle.closure.proofs.KnowledgeInLess.{advance_less}
use Rattle.closure.proofs.Advances.{Advances, advance_so, advance_then}
use Rattle.closure.proofs.AddAdvance.{rows_small}
use Rattle.closure.proofs.AddPlaces.{Given, closed, advance_node}

-- at rest at every state, and nothing of the node's row is known both ways
abbrev pub Settled : Table → ℕ → (Knowledge → ℕ → Type 0) → Knowledge → Type 0
Settled T i R K = ((s : ℕ) → s < length T.states → R K s) × Clear (K.nodes i)

module _ (T : Table) (wf : Wellformed T) (M : Memory) (sized : Sized T M) (i : ℕ) (h : i < length T.nodes) where
  node_small : (k : ℕ) → SmallRow (node_row M k)
  node_small k = rows_small T M sized (node_place k)

  -- one input, or its opposite: what is known passes both ways
  pub same_advance : (e : Bool) (a : ℕ) → a < length T.nodes
      → ((P : List (Literal Var)) (x : Row) → RowIn T (ForcedBy T P) (value T a) x
      → RowIn T (ForcedBy T P) (value T i) (turn e x))
      → ((P : List (Literal Var)) (x : Row) → RowIn T (ForcedBy T P) (value T i) x
      → RowIn T (ForcedBy T P) (value T a) (turn e x))
      → Advances T (Settled T i (λ K s. RestSame T K (K.nodes i) (turn e (K.nodes a)) s)) M (one_input_step i e a M)
  same_advance e a l up_in down-in =
      let up = advance_node T wf M sized (turn e (node_row M a)) (turned_small e (node_row M a) (node_small a)) i h
      (λ P inside. up_in P (node_row M a) (inside.nodes a l)) in
      let N = (add_row (node_place i) (turn e (node_row M a)) M).memory in
      let down = advance_so T {Q = λ K. Within (turn e (K.nodes i)) (K.nodes a)} (λ q. q.0)
      (advance_node T wf N up.sized (turn e (node_row N i))
      (turned_small e (node_row N i) (rows_small T N up.sized (node_place i))) a l
      (λ P inside. down-in P (node_row N i) (inside.nodes i h))) in
      advance_so T (λ q. (
        λ s l. record { up = q.0.0 s; down = turned_within e (node_row M i) (node_row M a) q.1 s },
        q.0.1,
      )) (advance_then T up down)

-- with more known of the output, no less comes to an input
input_more : (g k other : Row) → Within g k → Within (and_input g other) (and_input k other)
input_more g k other w s true = w s true
input_more g k other w s false = λ m. let p = (and-true g.no other.yes s).0 m in (and-true k.no other.yes s).1
    (w s false p.0, p.1)

-- the output has what was known of it
output_has : (g a b : Row) → Within g (and_output g a b)
output_has g a b s true m = (or-true g.yes _ s).1 (inl m)
output_has g a b s false m = (or-true g.no _ s).1 (inl m)

module _ (T : Table) (wf : Wellformed T) (M : Memory) (sized : Sized T M) (i : ℕ) (h : i < length T.nodes) where
  pub both_advance : (q : Quantifier) (a b : ℕ) → operator_of (node_at T i) ≡ both_of q a b → a < length T.nodes
      → b < length T.nodes
      → Advances T (Settled T i (λ K s. RestBoth T K q i a b s)) M (both_step i (is_every q) a b M)
  both_advance q a b op la lb =
      let e = is_every q in
      let up = advance_node T wf M sized (turn e g) (turned_small e g g_small) i h (λ P inside. g_in P inside) in
      let left = advance_node T wf _ up.sized (turn e (and_input g (turn e (node_row M b)))) (side_small b) a la
      (λ P inside. let before = advance_less up (ForcedBy T P) inside in
      side_in P a b (both_left_in T wf (ForcedBy T P) (closed T P) i h q a b op (turn e g) (node_row M b)
      (g_in P before) (before.nodes b lb))) in
      let two = advance_then T up left in
      let right = advance_node T wf _ two.sized (turn e (and_input g (turn e (node_row M a)))) (side_small a) b lb
      (λ P inside. let before = advance_less two (ForcedBy T P) inside in
      side_in P b a (both_right_in T wf (ForcedBy T P) (closed T P) i h q a b op (turn e g) (node_row M a)
      (g_in P before) (before.nodes a la))) in
      advance_so T (λ z. (
        λ s l. record {
          up = turned_within e g (node_row M i) z.0.0.0 s;
          left = side a b z.0.1.0 s;
          right = side b a z.1.0 s;
        },
        z.0.0.1,
      )) (advance_then T two right)
    where
      -- the row of a node, or its dual
      r : ℕ → Row
      r k = turn (is_every q) (node_row M k)

      g : Row
      g = and_output (r i) (r a) (r b)

      small : (k : ℕ) → SmallRow (r k)
      small k = turned_small (is_every q) (node_row M k) (rows_small T M sized (node_place k))

      g_small : SmallRow g
      g_small = output_small (r i) (r a) (r b) (small i) (small a) (small b)

      g_in : Given T M (λ S. RowIn T S (value T i) (turn (is_every q) g))
      g_in P inside =
          both_up_in T wf (ForcedBy T P) (closed T P) i h q a b op (node_row M i) (node_row M a) (node_row M b)
          (inside.nodes i h) (inside.nodes a la) (inside.nodes b lb)

      side_small : (k : ℕ) → SmallRow (turn (is_every q) (and_input g (r k)))
      side_small k = turned_small (is_every q) (and_input g (r k)) (input_small g (r k) g_small (small k))

      side_in : (P : List (Literal Var)) (k o : ℕ)
          → RowIn T (ForcedBy T P) (value T k)
          (turn (is_every q) (and_input (turn (is_every q) (turn (is_every q) g)) (r o)))
          → RowIn T (ForcedBy T P) (value T k) (turn (is_every q) (and_input g (r o)))
      side_in P k o = subst (λ (y : Row). RowIn T (ForcedBy T P) (value T k) (turn (is_every q) (and_input y (r o))))
          (turned_twice (is_every q) g)

      -- what the row of i says to an input, the output with all that is known of it says too
      side : (k o : ℕ) → Within (turn (is_every q) (and_input g (r o))) (node_row M k)
          → Within (and_input (r i) (r o)) (r k)
      side k o w = within_trans (and_input (r i) (r o)) (and_input g (r o)) (r k)
          (input_more (r i) g (r o) (output_has (r i) (r a) (r b)))
          (turned_within (is_every q) (and_input g (r o)) (node_row M k) w)
