-- The rules of each node without levels advance the memory, and where they added nothing the node is at rest at the
-- states that it was looked at, and known one way there.
use Prim.Native.Nat.{ℕ, ◌<◌}
use native.Mathlib.Omega.{arith}
use mathlib.Core.Path.{◌≡◌, refl, sym, ap, subst}
use mathlib.Core.Bool.{Bool, true, false, cond, true≢false}
use mathlib.Core.List.{List}
use borrow.Author.Tests.{eqb-true}
use lib.Dec.{eqb}
use lib.ListN.{length, get_or}
use Rattle.sets.specs.Member.{member}
use Rattle.sets.proofs.SetOf.{set_of_cong}
use Rattle.table.specs.declared.record.State.{State}
use Rattle.table.specs.Table.{Table, table_of, node_at, states_part}
use Rattle.table.specs.StateSets.{labelled_word}
use Rattle.table.specs.Facts.{Wellformed}
use Rattle.table.proofs.AcceptedFacts.{AcceptedFacts}
use Rattle.table.specs.Rows.{target_set}
use Rattle.table.proofs.Facts.{state_read_lem}
use Rattle.ctl.specs.Rule.{
  Quantifier,
  every,
  some,
  Operator,
  constant,
  atom,
  negation,
  conjunction,
  disjunction,
  next,
  fixpoint,
  operator_of,
}
use Rattle.ctl.proofs.BottomUp.{Below, children_below}
use Rattle.rows.specs.Row.{ClearAt}
use Rattle.readers.specs.Reads.{has_levels}
use Rattle.rows.specs.Rules.{constant_row}
use Rattle.rows.proofs.RowLaws.{set_small}
use Rattle.closure.specs.Dual.{is_every}
use Rattle.closure.specs.Knowledge.{Knowledge, Sized}
use Rattle.propagate.specs.Memory.{Memory, node_place, add_row}
use Rattle.closure.specs.Rest.{labelled_set, constant_set, RestSame, RestBoth, RestNode}
use Rattle.closure.specs.Advance.{ForcedBy}
use Rattle.closure.specs.MemoryRules.{node_step}
use Rattle.propagate.specs.Gates.{one_input_step, both_step}
use Rattle.closure.proofs.RulesSmall.{constant_small}
use Rattle.closure.proofs.GateOf.{both_of}
use Rattle.closure.proofs.NodeSound.{constant_in, atom_in, negation_up_in, negation_down_in, same_up_in, same_down_in}
use Rattle.closure.proofs.Advances.{Advances, advance_so}
use Rattle.closure.proofs.AddPlaces.{closed, advance_node}
use Rattle.closure.proofs.PlainAdvance.{same_advance, both_advance}
use Rattle.closure.proofs.Masked.{OfStates}
use Rattle.closure.proofs.NextAdvance.{next_advance}

-- node i, whose operator is given, is at rest at the states of a set and known one way there
abbrev pub NodeRest : Table → ℕ → Operator → ℕ → Knowledge → Type 0
NodeRest T i o look K = (s : ℕ) → s < length T.states → member look s ≡ true
    → RestNode T K i o s × ClearAt s (K.nodes i)

-- the states with p in their label, as the bytes have them
labelled_read : (table : List ℕ) → AcceptedFacts table → (p : ℕ)
    → labelled_set (table_of table) p ≡ labelled_word (states_part table) (length (table_of table).states) p
labelled_read table packed p = set_of_cong (length (table_of table).states) _ _
    (λ s l. ap (λ (x : State). member x.label p) (sym (state_read_lem table s (omega (arith, packed.states_count)))))

module _ (table : List ℕ) (packed : AcceptedFacts table) (targets : List ℕ)
    (ends : (s : ℕ) → s < 32 → get_or targets s 0 ≡ target_set (table_of table).steps s)
    (look : ℕ) (inside : OfStates (table_of table) look) (i : ℕ) (h : i < length (table_of table).nodes) (M : Memory)
    (sized : Sized (table_of table) M) where
  abbrev T : Table
  T = table_of table

  wf : Wellformed T
  wf = packed.table

  few : length T.states < 33
  few = omega (arith, wf.few_states)

  -- AND or OR, whose two children may be one node
  pair_at : (q : Quantifier) (a b : ℕ) → operator_of (node_at T i) ≡ both_of q a b → a < length T.nodes
      → b < length T.nodes
      → (same : Bool) → eqb a b ≡ same
      → Advances T (λ K. (s : ℕ) → s < length T.states
      → cond same (RestSame T K (K.nodes i) (K.nodes a) s) (RestBoth T K q i a b s) × ClearAt s (K.nodes i)) M
      (cond same (one_input_step i true a M) (both_step i (is_every q) a b M))
  pair_at q a b op la lb true e = advance_so T (λ z s l. (z.0 s l, z.1 s)) (same_advance T wf M sized i h true a la
      (λ P. same_up_in T wf (ForcedBy T P) (closed T P) i h q a b op (eqb-true a b e))
      (λ P. same_down_in T wf (ForcedBy T P) (closed T P) i h q a b op (eqb-true a b e)))
  pair_at q a b op la lb false e =
      advance_so T (λ z s l. (z.0 s l, z.1 s)) (both_advance T wf M sized i h q a b op la lb)

  node_at_lem : (o : Operator) → operator_of (node_at T i) ≡ o → Below i o → has_levels o ≡ false
      → Advances T (NodeRest T i o look) M (node_step table targets (length T.states) look i o M)
  unfolding node_step
  node_at_lem (constant b) op l p = advance_so T (λ z s l g. (z.0 s, z.1 s))
      (advance_node T wf M sized (constant_row (length T.states) (constant_set T b))
      (constant_small (length T.states) (constant_set T b) (set_small _ few _)) i h
      (λ P inside. constant_in T wf (ForcedBy T P) (closed T P) i h b op))
  node_at_lem (atom p) op l e = subst
      (λ (x : ℕ). Advances T (NodeRest T i (atom p) look) M
      (add_row (node_place i) (constant_row (length T.states) x) M))
      (labelled_read table packed p)
      (advance_so T (λ z s l g. (z.0 s, z.1 s))
      (advance_node T wf M sized (constant_row (length T.states) (labelled_set T p))
      (constant_small (length T.states) (labelled_set T p) (set_small _ few _)) i h
      (λ P inside. atom_in T wf (ForcedBy T P) (closed T P) i h p op)))
  node_at_lem (negation a) op l p =
      advance_so T (λ z s l g. (z.0 s l, z.1 s)) (same_advance T wf M sized i h false a (omega arith)
      (λ P. negation_up_in T wf (ForcedBy T P) (closed T P) i h a op)
      (λ P. negation_down_in T wf (ForcedBy T P) (closed T P) i h a op))
  node_at_lem (conjunction a b) op l p =
      advance_so T (λ z s l g. z s l) (pair_at every a b op (omega arith) (omega arith) (eqb a b) refl)
  node_at_lem (disjunction a b) op l p =
      advance_so T (λ z s l g. z s l) (pair_at some a b op (omega arith) (omega arith) (eqb a b) refl)
  node_at_lem (next q a) op l p = advance_so T (λ z s l g. (z.0 s l g, z.1 s))
      (next_advance T wf targets ends look inside M sized i h q a op (omega arith))
  node_at_lem (fixpoint fam q a b) op l p = absurd (true≢false p)

  pub node_advance : has_levels (operator_of (node_at (table_of table) i)) ≡ false
      → Advances (table_of table) (NodeRest (table_of table) i (operator_of (node_at (table_of table) i)) look) M
      (node_step table targets (length (table_of table).states) look i (operator_of (node_at (table_of table) i)) M)
  node_advance = node_at_lem (operator_of (node_at T i)) refl (children_below T wf i h)
