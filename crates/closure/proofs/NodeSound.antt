-- The nodes without steps: constants, negation, AND and OR, and level 0 of a fixed-point node. What their rows add to
-- each other is forced.
use Prim.Native.Nat.{ℕ, ◌<◌}
use native.Mathlib.Omega.{arith}
use mathlib.Core.Path.{◌≡◌, sym, subst, ◌∙◌}
use mathlib.Core.Bool.{Bool, true, false}
use mathlib.Core.List.{◌∷◌, [], Memᴰ}
use borrow.Author.Tests.{ltb-true}
use lib.ListN.{length}
use Rattle.sets.specs.Member.{member, set_of}
use Rattle.sets.proofs.SetOf.{member-set_of-below, in_set}
use Rattle.table.specs.declared.operator.Family.{Family}
use Rattle.table.specs.Table.{Table, state_at, node_at}
use Rattle.table.specs.Facts.{Wellformed}
use Rattle.ctl.specs.Rule.{Quantifier, every, some, Operator, constant, atom, negation, fixpoint, operator_of}
use Rattle.circuit.specs.Logic.{Literal, pos}
use Rattle.circuit.specs.Variables.{Var, level, value_of, value, literal}
use Rattle.circuit.specs.Gates.{ahead_gate, constant_gate}
use Rattle.circuit.specs.Clauses.{Clause, clauses}
use Rattle.circuit.proofs.Lists.{each_none}
use Rattle.rows.specs.declared.row.Row.{Row}
use Rattle.rows.specs.Row.{turn}
use Rattle.rows.specs.Rules.{and_output, and_input, constant_row}
use Rattle.rows.proofs.RowLaws.{without-true, set_small}
use Rattle.closure.specs.Dual.{is_every}
use Rattle.closure.specs.Rest.{constant_set, labelled_set}
use Rattle.closure.specs.KnowledgeIn.{RowIn}
use Rattle.closure.proofs.Forced.{ClauseClosed}
use Rattle.closure.proofs.GateRules.{and_up}
use Rattle.closure.proofs.GateOf.{
  ClosedGate,
  both_of,
  constant_gate_lem,
  atom_gate,
  negation_gate,
  both_gate,
  first_gate,
}
use Rattle.closure.proofs.PairRules.{
  ClosedPair,
  pair_up,
  pair_left,
  pair_right,
  left_false,
  right_false,
  left_last,
  right_last,
  same_up,
  same_down,
  one_up,
  one_down,
  one_false,
  one_last,
}
use Rattle.closure.proofs.SetsIn.{set-or, set-and, set_each, set_by, row_in, turned_in, in_turned, in_turned-not}

-- the value of an empty gate
constant_value : (S : Literal Var → Type 0) (v : Var) (b : Bool) → ClosedGate S v (constant_gate b) → S (literal b v)
constant_value S v true c = and_up c (each_none S)
constant_value S v false c = and_up c (each_none S)

module _ (T : Table) (wf : Wellformed T) (S : Literal Var → Type 0) (closed : (C : Clause) → Memᴰ C (clauses T)
    → ClauseClosed S C) where
  -- a row of constants: those of a set true, the others false
  constants_in : (v : ℕ → Var) (f : ℕ → Bool)
      → ((s : ℕ) → s < length T.states → ClosedGate S (v s) (constant_gate (f s)))
      → RowIn T S v (constant_row (length T.states) (set_of (length T.states) f))
  constants_in v f gate = row_in T S v _
      (set_by _ f (λ s l e. (l, subst (λ (b : Bool). S (literal b (v s))) e (constant_value S (v s) (f s) (gate s l)))))
      (λ s m.
      let r = (without-true _ (set_of (length T.states) f) s
      (set_small (length T.states) (omega (arith, wf.few_states)) f)).0 m in
      let l : s < length T.states = ltb-true s (length T.states) ((in_set 32 _ s).0 r.1).1 in (
        l,
        subst (λ (b : Bool). S (literal b (v s))) (sym (member-set_of-below (length T.states) f s l) ∙ r.2)
            (constant_value S (v s) (f s) (gate s l)),
      ))

  module _ (i : ℕ) (h : i < length T.nodes) where
    pub constant_in : (b : Bool) → operator_of (node_at T i) ≡ constant b
        → RowIn T S (value T i) (constant_row (length T.states) (constant_set T b))
    constant_in b e = constants_in (value T i) (λ s. b) (constant_gate_lem T wf S closed i h b e)

    pub atom_in : (p : ℕ) → operator_of (node_at T i) ≡ atom p
        → RowIn T S (value T i) (constant_row (length T.states) (labelled_set T p))
    atom_in p e = constants_in (value T i) (λ s. member (state_at T s).label p) (atom_gate T wf S closed i h p e)

    pub negation_up_in : (a : ℕ) → operator_of (node_at T i) ≡ negation a → (x : Row) → RowIn T S (value T a) x
        → RowIn T S (value T i) (turn false x)
    negation_up_in a e x p = row_in T S _ _
        (set_each _ (p false) (λ s k. (k.0, one_up (negation_gate T wf S closed i h a e s k.0) k.1)))
        (set_each _ (p true) (λ s k. (k.0, one_false (negation_gate T wf S closed i h a e s k.0) k.1)))

    pub negation_down_in : (a : ℕ) → operator_of (node_at T i) ≡ negation a → (x : Row) → RowIn T S (value T i) x
        → RowIn T S (value T a) (turn false x)
    negation_down_in a e x p = row_in T S _ _
        (set_each _ (p false) (λ s k. (k.0, one_last (negation_gate T wf S closed i h a e s k.0) k.1)))
        (set_each _ (p true) (λ s k. (k.0, one_down (negation_gate T wf S closed i h a e s k.0) k.1)))

    -- AND, or by duals OR, of the nodes a and b
    module _ (q : Quantifier) (a b : ℕ) (e : operator_of (node_at T i) ≡ both_of q a b) where
      pair : (s : ℕ) → s < length T.states → ClosedPair S (is_every q) (value T i s) (value T a s) (value T b s)
      pair s l = go q (both_gate T wf S closed i h q a b e s l)
        where
          go : (q : Quantifier) → ClosedGate S (value T i s) (ahead_gate q (pos (value T a s) ∷ pos (value T b s) ∷ []))
              → ClosedPair S (is_every q) (value T i s) (value T a s) (value T b s)
          go every c = c
          go some c = c

      pub both_up_in : (g x y : Row) → RowIn T S (value T i) g → RowIn T S (value T a) x → RowIn T S (value T b) y
          → RowIn T S (value T i) (turn (is_every q)
          (and_output (turn (is_every q) g) (turn (is_every q) x) (turn (is_every q) y)))
      both_up_in g x y in_g in-x in-y = turned_in T S (is_every q) (value T i) _
          (set-or _ _ (in_turned T S (is_every q) (value T i) g in_g)
          (set-and _ _ (in_turned T S (is_every q) (value T a) x in-x) (in_turned T S (is_every q) (value T b) y in-y)
          (λ s p r. (p.0, pair_up (pair s p.0) p.1 r.1))))
          (set-or _ _ (in_turned-not T S (is_every q) (value T i) g in_g)
          (set-or _ _ (set_each _ (in_turned-not T S (is_every q) (value T a) x in-x)
          (λ s p. (p.0, left_false (pair s p.0) p.1)))
          (set_each _ (in_turned-not T S (is_every q) (value T b) y in-y)
          (λ s p. (p.0, right_false (pair s p.0) p.1)))))

      pub both_left_in : (g y : Row) → RowIn T S (value T i) g → RowIn T S (value T b) y
          → RowIn T S (value T a) (turn (is_every q) (and_input (turn (is_every q) g) (turn (is_every q) y)))
      both_left_in g y in_g in-y = turned_in T S (is_every q) (value T a) _
          (set_each _ (in_turned T S (is_every q) (value T i) g in_g) (λ s p. (p.0, pair_left (pair s p.0) p.1)))
          (set-and _ _ (in_turned-not T S (is_every q) (value T i) g in_g)
          (in_turned T S (is_every q) (value T b) y in-y)
          (λ s p r. (p.0, left_last (pair s p.0) p.1 r.1)))

      pub both_right_in : (g x : Row) → RowIn T S (value T i) g → RowIn T S (value T a) x
          → RowIn T S (value T b) (turn (is_every q) (and_input (turn (is_every q) g) (turn (is_every q) x)))
      both_right_in g x in_g in-x = turned_in T S (is_every q) (value T b) _
          (set_each _ (in_turned T S (is_every q) (value T i) g in_g) (λ s p. (p.0, pair_right (pair s p.0) p.1)))
          (set-and _ _ (in_turned-not T S (is_every q) (value T i) g in_g)
          (in_turned T S (is_every q) (value T a) x in-x)
          (λ s p r. (p.0, right_last (pair s p.0) p.1 r.1)))

      -- the two children are one node
      module _ (same : a ≡ b) where
        pair_one : (s : ℕ) → s < length T.states → ClosedPair S (is_every q) (value T i s) (value T a s) (value T a s)
        pair_one s l =
            subst (λ (k : ℕ). ClosedPair S (is_every q) (value T i s) (value T a s) (value T k s)) (sym same) (pair s l)

        pub same_up_in : (x : Row) → RowIn T S (value T a) x → RowIn T S (value T i) x
        same_up_in x p sign s m = let k = p sign s m in (k.0, same_up (is_every q) (pair_one s k.0) sign k.1)

        pub same_down_in : (g : Row) → RowIn T S (value T i) g → RowIn T S (value T a) g
        same_down_in g p sign s m = let k = p sign s m in (k.0, same_down (is_every q) (pair_one s k.0) sign k.1)

    -- level 0 of a fixed-point node is its second child, and level n its own value
    module _ (fam : Family) (q : Quantifier) (a b : ℕ) (e : operator_of (node_at T i) ≡ fixpoint fam q a b) where
      pub first_in : (x : Row) → RowIn T S (value T b) x → RowIn T S (level i 0) x
      first_in x p = row_in T S _ _
          (set_each _ (p true) (λ s k. (k.0, one_up (first_gate T wf S closed i h fam q a b e s k.0) k.1)))
          (set_each _ (p false) (λ s k. (k.0, one_false (first_gate T wf S closed i h fam q a b e s k.0) k.1)))

      pub in_first : (x : Row) → RowIn T S (level i 0) x → RowIn T S (value T b) x
      in_first x p = row_in T S _ _
          (set_each _ (p true) (λ s k. (k.0, one_down (first_gate T wf S closed i h fam q a b e s k.0) k.1)))
          (set_each _ (p false) (λ s k. (k.0, one_last (first_gate T wf S closed i h fam q a b e s k.0) k.1)))

      pub last_in : (x : Row) → RowIn T S (value T i) x → RowIn T S (level i (length T.states)) x
      last_in x = subst (λ (o : Operator). RowIn T S (value_of T o i) x) e

      pub in_last : (x : Row) → RowIn T S (level i (length T.states)) x → RowIn T S (value T i) x
      in_last x = subst (λ (o : Operator). RowIn T S (value_of T o i) x) (sym e)
