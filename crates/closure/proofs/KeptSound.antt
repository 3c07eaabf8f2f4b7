-- K of a state and the steps out of it: what their rows add to each other is forced.
use Prim.Native.Nat.{ℕ, ◌<◌}
use mathlib.Core.Path.{◌≡◌, refl, sym, subst, ◌∙◌}
use mathlib.Core.Bool.{Bool, true, false, false≢true}
use mathlib.Core.List.{[], ◌∷◌, Memᴰ}
use borrow.Author.Tests.{eqb-true, not-true}
use lib.Dec.{eqb}
use lib.ListN.{length}
use Rattle.sets.specs.Member.{member}
use Rattle.sets.proofs.Laws.{member_inside}
use Rattle.table.specs.Table.{Table, step_at}
use Rattle.table.specs.Facts.{Wellformed}
use Rattle.table.specs.Rows.{target_set}
use Rattle.table.proofs.Bools.{and_parts}
use Rattle.ctl.specs.Rule.{some}
use Rattle.circuit.specs.Logic.{Literal, pos, neg}
use Rattle.circuit.specs.Variables.{Var, step, kept, steps_out}
use Rattle.circuit.specs.Clauses.{Clause, clauses}
use Rattle.circuit.proofs.Lists.{each_more, each_one, in_out}
use Rattle.circuit.proofs.Clauses.{step_in}
use Rattle.rows.specs.declared.row.Row.{Row}
use Rattle.rows.specs.Row.{only}
use Rattle.rows.specs.Words.{SmallRow}
use Rattle.rows.specs.Rules.{unstruck, kept_row, kept_back}
use Rattle.rows.proofs.RowLaws.{without-true, empty_none, nonempty_some, and-true, without_small}
use Rattle.closure.specs.KnowledgeIn.{RowIn, StepsIn}
use Rattle.closure.proofs.Ends.{target_true, target_small, out_target}
use Rattle.closure.proofs.Forced.{ClauseClosed}
use Rattle.closure.proofs.GateOf.{kept_gate}
use Rattle.closure.proofs.EdgeRules.{ClosedAhead, ahead_up, ahead_down, ahead_fails, ahead_last, ahead_and}
use Rattle.closure.proofs.SetsIn.{set-or, set-cond, set_by, At, row_in, steps_in, step_known_lem, other_end}

-- ---- a clause that says: where u, there v

module _ (S : Literal Var → Type 0) (u v : Var) (closed : ClauseClosed S (neg u ∷ pos v ∷ [])) where
  pub then_in : S (pos u) → S (pos v)
  then_in p = closed (pos v) (Memᴰ.tail (Memᴰ.head refl))
      (each_more _ _ _ (λ other. p) (each_one _ _ (λ other. absurd (other refl))))

  pub unless_in : S (neg v) → S (neg u)
  unless_in p =
      closed (neg u) (Memᴰ.head refl) (each_more _ _ _ (λ other. absurd (other refl)) (each_one _ _ (λ other. p)))

module _ (T : Table) (wf : Wellformed T) (S : Literal Var → Type 0) (closed : (C : Clause) → Memᴰ C (clauses T)
    → ClauseClosed S C)
    (s : ℕ) (l : s < length T.states) where
  closed_kept : ClosedAhead S false (kept s) step (steps_out T s)
  closed_kept = ahead_and S some (kept s) step (steps_out T s) (kept_gate T wf S closed s l)

  module _ (x : Row) (small : SmallRow x) (steps : StepsIn T S s x) where
    -- a step whose end is not among those of the steps not struck
    struck : (j : ℕ) → Memᴰ j (steps_out T s) → member (unstruck (target_set T.steps s) x) (step_at T j).to ≡ false
        → S (neg (step j))
    struck j m none = go (member x.no t) refl
      where
        t : ℕ
        t = (step_at T j).to

        out : (j < length T.steps) × ((step_at T j).from ≡ s)
        out = (in_out T s j).0 m

        go : (b : Bool) → member x.no t ≡ b → S (neg (step j))
        go true f = step_known_lem T S wf s x steps j out.0 out.1 false f
        go false f = absurd (false≢true
            (sym none ∙ (without-true _ x.no t small.1).1
            (member_inside 32 _ t (target_small T.steps s) (out_target T wf s j m), out_target T wf s j m, f)))

    -- a kept step keeps s and its end; s with no step left is not kept
    pub kept_row_in : RowIn T S kept (kept_row s (target_set T.steps s) x)
    kept_row_in = row_in T S kept _
        (set-or _ _
        (λ t m. let r = steps true t m in
        subst (At T S true kept) r.3 (wf.to_state r.0 r.1, then_in S _ _ (closed _ (step_in T r.0 r.1)) r.4))
        (set_by 32 _ (λ t few b.
        let c = and_parts (eqb t s) _ b in
        let k = nonempty_some x.yes small.0 (not-true _ c.1) in
        let r = steps true k.0 k.2 in
        subst (At T S true kept) (sym (eqb-true t s c.0))
        (l, ahead_fails S false (kept s) step (steps_out T s) closed_kept r.0 ((in_out T s r.0).1 (r.1, r.2)) r.4))))
        (set_by 32 _ (λ t few b.
        let c = and_parts (eqb t s) _ b in
        subst (At T S false kept) (sym (eqb-true t s c.0))
        (l, ahead_up S false (kept s) step (steps_out T s) closed_kept (λ j m. struck j m (empty_none _ c.1 _)))))

    -- the last step left of a kept state is kept; a step is struck where its own state or its end is not kept
    pub kept_back_in : (k : Row) → RowIn T S kept k → StepsIn T S s (kept_back s (target_set T.steps s) x k)
    kept_back_in k in-k = steps_in T S s _
        (set-cond _ left (λ b t m.
        let c = and_parts _ (only left) b in
        let r = (target_true T wf s t).0 ((without-true _ x.no t small.1).0 m).1 in (
          r.0,
          r.1,
          r.2,
          r.3,
          ahead_last S false (kept s) step (steps_out T s) closed_kept r.0 ((in_out T s r.0).1 (r.1, r.2))
              (in-k true s c.0).1 (λ i n other.
              let o = (in_out T s i).0 n in
              struck i n (other_end T wf s left (without_small _ _ (target_small T.steps s)) c.1 r.0 r.1 r.2 (rw r.3 m)
              i o.0 o.1 other)),
        )))
        (set-or _ _
        (set-cond _ (target_set T.steps s) (λ b t m.
        let r = (target_true T wf s t).0 m in (
          r.0,
          r.1,
          r.2,
          r.3,
          ahead_down S false (kept s) step (steps_out T s) closed_kept r.0
              ((in_out T s r.0).1 (r.1, r.2)) (in-k false s b).1,
        )))
        (λ t m.
        let c = (and-true (target_set T.steps s) k.no t).0 m in
        let r = (target_true T wf s t).0 c.0 in (
          r.0,
          r.1,
          r.2,
          r.3,
          unless_in S _ _ (closed _ (step_in T r.0 r.1))
              (in-k false (step_at T r.0).to (rw r.3 c.1)).1,
        )))
      where
        left : ℕ
        left = unstruck (target_set T.steps s) x
