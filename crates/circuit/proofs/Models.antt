-- The models of a table's clauses are its repairs: an assignment that says of each step whether the list keeps it can
-- be completed in just one way to make the clauses of the gates true, and then it makes the demands true just when
-- the list is a repair.
use Prim.Native.Nat.{ℕ, ◌<◌}
use native.Mathlib.Omega.{arith}
use mathlib.Core.Path.{◌≡◌, refl, sym, subst, ◌∙◌}
use mathlib.Core.Bool.{Bool, true, false, true≢false}
use mathlib.Core.Logic.Iff
use mathlib.Core.Logic.{◌↔◌}
use mathlib.Core.List.Memᴰ
use mathlib.Core.List.{List, [], ◌∷◌, Memᴰ}
use borrow.Author.Tests.{eqb-true, eq-eqb}
use lib.ListN.{length, get_or}
use Rattle.table.specs.Table.{Table, step_at}
use Rattle.table.specs.Facts.{Wellformed}
use Rattle.ctl.specs.Rule.{root_index}
use Rattle.ctl.specs.Kept.{Initial, IsList, Kept, Total, NodeHolds, Repair}
use Rattle.ctl.proofs.Meaning.{label_mean}
use Rattle.circuit.specs.Logic.{pos, neg, Makes, Satisfies}
use Rattle.circuit.specs.Variables.{Var, step, kept, value, variables}
use Rattle.circuit.specs.Gates.{gates}
use Rattle.circuit.specs.Clauses.{initials, gates_clauses, clauses}
use Rattle.circuit.specs.Exact.{Agrees, ModelsAreTheRepairs}
use Rattle.circuit.proofs.Lists.{each_more, each_one, each_concat, each_map}
use Rattle.circuit.proofs.Gate.{Holds, gate_value_lem, value_reads}
use Rattle.circuit.proofs.Order.{variable_induction}
use Rattle.circuit.proofs.Clauses.{
  clauses_of,
  step_demand,
  start_demand,
  root_demand,
  in_initials,
  each_clause,
  each_demand,
  gate_in,
  gates_in,
  step_in,
  start_in,
  root_in,
}
use Rattle.circuit.proofs.Covered.{clause_variables}
use Rattle.circuit.proofs.Evaluate.{assignment}
use Rattle.circuit.proofs.GatesRight.{value_right, gates_right}
use Rattle.circuit.proofs.Marked.{kept_value_lem, value_marked}

-- ---- the gates

-- the evaluation of the list makes the clauses of the gates true and agrees with the list
evaluation_gates : (T : Table) → Wellformed T → (list : List ℕ) → Satisfies (assignment T list) (gates_clauses T)
evaluation_gates T wf list = each_concat _ _ (each_map _ clauses_of (gates T) (λ d m.
    (gate_value_lem (assignment T list) d.output d.gate).1 (gates_right T list wf d m)))

evaluation_agrees : (T : Table) (list : List ℕ) → Agrees T (assignment T list) list
unfolding assignment
evaluation_agrees T list j h = refl

-- Each list has an assignment that agrees with it and makes the clauses of the gates true,
pub gates_exist : (T : Table) → Wellformed T → (list : List ℕ)
    → (α : Var → Bool) × Agrees T α list × Satisfies α (gates_clauses T)
gates_exist T wf list = (assignment T list, evaluation_agrees T list, evaluation_gates T wf list)

-- and just one, on the variables of the table.
pub gates_unique : (T : Table) → Wellformed T → (list : List ℕ) (α β : Var → Bool) → Agrees T α list → Agrees T β list
    → Satisfies α (gates_clauses T) → Satisfies β (gates_clauses T) → (v : Var) → Memᴰ v (variables T) → α v ≡ β v
gates_unique T wf list α β agrees-α agrees-β sat-α sat-β = variable_induction T wf (λ v. α v ≡ β v)
    (λ j h. agrees-α j h ∙ sym (agrees-β j h))
    (λ d i reads.
    (gate_value_lem α d.output d.gate).0 (λ C k. sat-α C (gate_in T d i C k))
    ∙ value_reads α β d.gate reads
    ∙ sym ((gate_value_lem β d.output d.gate).0 (λ C k. sat-β C (gate_in T d i C k))))

-- ---- the demands

-- assignments that are equal on the variables of the table make the same clauses true
clauses_same : (T : Table) → Wellformed T → (α β : Var → Bool) → ((v : Var) → Memᴰ v (variables T) → α v ≡ β v)
    → Satisfies α (clauses T) → Satisfies β (clauses T)
clauses_same T wf α β same sat C m = let r = sat C m in (
  r.0,
  r.1,
  sym (same r.0.var (clause_variables T wf C m r.0 r.1)) ∙ r.2,
)

-- (not u, v) is true: v is true where u is
implies : (α : Var → Bool) (u v : Var) → Holds α (neg u ∷ pos v ∷ []) ↔ (α u ≡ true → α v ≡ true)
implies α u v = (
  λ r. each_more (λ l. Makes α l → α u ≡ true → α v ≡ true) (neg u) _
      (λ f t. absurd (true≢false (sym t ∙ f))) (each_one _ (pos v) (λ t e. t)) r.0 r.1 r.2,
  λ f. go f (α u) refl,
)
  where
    go : (α u ≡ true → α v ≡ true) → (b : Bool) → α u ≡ b → Holds α (neg u ∷ pos v ∷ [])
    go f true e = (pos v, Memᴰ.tail (Memᴰ.head refl), f e)
    go f false e = (neg u, Memᴰ.head refl, e)

module _ (T : Table) (wf : Wellformed T) (list : List ℕ) where
  abbrev α : Var → Bool
  α = assignment T list

  -- K of a state
  kept_true : (s : ℕ) → (α (kept s) ≡ true) ↔ Kept T list s
  unfolding assignment
  kept_true s = kept_value_lem T list s

  -- the end of a kept step is kept
  step_demand_lem : (j : ℕ) → Holds α (step_demand T j) ↔ (get_or list j 0 ≡ 1 → Kept T list (step_at T j).to)
  unfolding assignment
  step_demand_lem j = Iff.trans (implies α (step j) (kept (step_at T j).to)) (
    λ f e. (kept_true (step_at T j).to).0 (f (eq-eqb _ 1 e)),
    λ f e. (kept_true (step_at T j).to).1 (f (eqb-true _ 1 e)),
  )

  -- an initial state is kept
  start_demand_lem : Holds α (start_demand T) ↔ ((s : ℕ) × Initial T s × Kept T list s)
  start_demand_lem = (
    λ r. each_map (λ l. Makes α l → (s : ℕ) × Initial T s × Kept T list s) (λ s. pos (kept s)) (initials T)
        (λ s m t. (s, (in_initials T s).0 m, (kept_true s).0 t)) r.0 r.1 r.2,
    λ r. (pos (kept r.0), Memᴰ.map (λ s. pos (kept s)) ((in_initials T r.0).1 r.1), (kept_true r.0).1 r.2),
  )

  -- the root holds at a state if it is kept
  root_demand_lem : Total T list → (s : ℕ)
      → Holds α (root_demand T s) ↔ (Kept T list s → NodeHolds T list (root_index T) s)
  root_demand_lem total s = Iff.trans (implies α (kept s) (value T (root_index T) s)) (
    λ f k. (root k).0 (f ((kept_true s).1 k)),
    λ f e. let k = (kept_true s).0 e in (root k).1 (f k),
  )
    where
      inside : root_index T < length T.nodes
      inside = omega (arith, wf.some_node)

      root : Kept T list s → (α (value T (root_index T) s) ≡ true) ↔ NodeHolds T list (root_index T) s
      root k = rw (
        value_right T list wf (root_index T) inside s,
        value_marked T wf list total (root_index T) inside s k.0 k.1,
      )
          (label_mean T wf list total (root_index T) inside s k.0 k.1)

  -- where the evaluation makes the clauses true, the list is a repair
  evaluation_repair : IsList T list → Satisfies α (clauses T) → Repair T list
  evaluation_repair form sat = record {
    form = form;
    total = total;
    starts = start_demand_lem.0 (sat _ (start_in T));
    rule = λ s i. (root_demand_lem total s).0 (sat _ (root_in T s i));
  }
    where
      total : Total T list
      total s t n = subst (Kept T list) n.enters ((step_demand_lem n.step).0 (sat _ (step_in T n.step n.listed)) n.kept)

  -- and back
  repair_evaluation : Repair T list → Satisfies α (clauses T)
  repair_evaluation r = each_clause T (Holds α)
      (λ d m C i. evaluation_gates T wf list C (gate_in T d m C i))
      (each_demand T (Holds α)
      (λ j h. (step_demand_lem j).1 (λ e.
      r.total (step_at T j).from (step_at T j).to
      (record { step = j; listed = h; kept = e; leaves = refl; enters = refl })))
      (start_demand_lem.1 r.starts)
      (λ s i. (root_demand_lem r.total s).1 (r.rule s i)))

-- ---- models and repairs

-- Where an assignment makes the clauses of a table true, the list that it agrees with is a repair.
pub model_is_repair : (T : Table) → Wellformed T → (list : List ℕ) → IsList T list → (α : Var → Bool) → Agrees T α list
    → Satisfies α (clauses T)
    → Repair T list
model_is_repair T wf list form α agrees sat = evaluation_repair T wf list form (clauses_same T wf α (assignment T list)
    (gates_unique T wf list α (assignment T list) agrees (evaluation_agrees T list) (λ C m. sat C (gates_in T C m))
    (evaluation_gates T wf list)) sat)

-- Each repair has an assignment that agrees with it and makes the clauses of the table true.
pub repair_is_model : (T : Table) → Wellformed T → (list : List ℕ) → Repair T list
    → (α : Var → Bool) × Agrees T α list × Satisfies α (clauses T)
repair_is_model T wf list r = (assignment T list, evaluation_agrees T list, repair_evaluation T wf list r)

pub models_are_the_repairs : ModelsAreTheRepairs
models_are_the_repairs T wf = record {
  extends = gates_exist T wf;
  unique = gates_unique T wf;
  model_is_repair = model_is_repair T wf;
  repair_is_model = repair_is_model T wf;
}
