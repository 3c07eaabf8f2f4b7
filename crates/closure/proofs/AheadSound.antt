-- N over the steps out of a state: what the rows of steps and of `end` add to N, and N to them, is forced. For A and
-- for E at once.
use Prim.Native.Nat.{ℕ, ◌<◌}
use mathlib.Core.Path.{◌≡◌, refl, sym, subst, ◌∙◌}
use mathlib.Core.Bool.{Bool, true, false, not, false≢true}
use mathlib.Core.List.{map, Memᴰ}
use borrow.Author.Tests.{not-true}
use lib.Bits.{and_lt}
use lib.ListN.{length}
use Rattle.sets.specs.Member.{member}
use Rattle.sets.proofs.Laws.{member_inside}
use Rattle.table.specs.Table.{Table, step_at}
use Rattle.table.specs.Facts.{Wellformed}
use Rattle.table.specs.Rows.{target_set}
use Rattle.table.proofs.Bools.{and_parts}
use Rattle.ctl.specs.Rule.{Quantifier}
use Rattle.circuit.specs.Logic.{Literal, pos}
use Rattle.circuit.specs.Variables.{Var, steps_out, literal}
use Rattle.circuit.specs.Gates.{edge_gate, ahead_gate}
use Rattle.circuit.proofs.Lists.{in_out}
use Rattle.rows.specs.declared.row.Row.{Row}
use Rattle.rows.specs.Row.{known, turn, only}
use Rattle.rows.specs.Words.{SmallRow}
use Rattle.rows.specs.Rules.{unmet, ahead_row, last_left, back_steps, back_end}
use Rattle.rows.proofs.RowLaws.{empty_none, nonempty_some, and-true, unmet-true, without_small, turned_small}
use Rattle.closure.specs.Dual.{is_every}
use Rattle.closure.specs.KnowledgeIn.{RowIn, StepsIn}
use Rattle.closure.proofs.Ends.{target_true, target_small, out_target}
use Rattle.closure.proofs.GateOf.{ClosedGate}
use Rattle.closure.proofs.EdgeRules.{
  ClosedEdge,
  edge_struck,
  edge_end,
  edge_fails,
  kept_step_lem,
  failed_end,
  struck_step,
  met_end,
  edge_and,
  ClosedAhead,
  ahead_up,
  ahead_down,
  ahead_fails,
  ahead_last,
  ahead_and,
}
use Rattle.closure.proofs.SetsIn.{
  SetIn,
  set-cond,
  set_by,
  At,
  turned_in,
  in_turned,
  in_turned-not,
  steps_in,
  step_known_lem,
  other_end,
}

-- N of each state, from the steps x and what is known at their ends
abbrev pub ahead_over : Table → Quantifier → (ℕ → Row) → Row → Row
ahead_over T q x E = turn (is_every q) (ahead_row (target_set T.steps) x (length T.states) (turn (is_every q) E))

-- what N, known as A says, adds at state s to the steps x out of it
abbrev pub back_steps_of : Table → Quantifier → ℕ → Row → Row → Row → Row
back_steps_of T q s x E A = back_steps (target_set T.steps s) x (turn (is_every q) E)
    (known (turn (is_every q) A) true s) (known (turn (is_every q) A) false s)

-- and to E at their ends
abbrev pub back_end_of : Table → Quantifier → ℕ → Row → Row → Row → Row
back_end_of T q s x E A =
    turn (is_every q) (back_end (target_set T.steps s) x (turn (is_every q) E) (known (turn (is_every q) A) true s)
    (known (turn (is_every q) A) false s))

module _ (T : Table) (wf : Wellformed T) (S : Literal Var → Type 0) (q : Quantifier) (N end gate : ℕ → Var)
    (edges : (s : ℕ) → s < length T.states → (j : ℕ) → Memᴰ j (steps_out T s)
    → ClosedGate S (gate j) (edge_gate q j (end (step_at T j).to)))
    (over : (s : ℕ) → s < length T.states
    → ClosedGate S (N s) (ahead_gate q (map (λ j. pos (gate j)) (steps_out T s)))) where
  module _ (s : ℕ) (l : s < length T.states) where
    closed_edge : (j : ℕ) → Memᴰ j (steps_out T s) → ClosedEdge S (is_every q) j (gate j) (end (step_at T j).to)
    closed_edge j m = edge_and S q j (gate j) (end (step_at T j).to) (edges s l j m)

    closed_ahead : ClosedAhead S (is_every q) (N s) gate (steps_out T s)
    closed_ahead = ahead_and S q (N s) gate (steps_out T s) (over s l)

    module _ (x E : Row) (small-x : SmallRow x) (small-E : SmallRow E) (steps : StepsIn T S s x)
        (ends : RowIn T S end E) where
      -- the gate of a step whose end is not left
      met : (j : ℕ) → Memᴰ j (steps_out T s)
          → member (unmet (target_set T.steps s) x (turn (is_every q) E)) (step_at T j).to ≡ false
          → S (literal (is_every q) (gate j))
      met j m none = go (member x.no t) refl (member (turn (is_every q) E).yes t) refl
        where
          t : ℕ
          t = (step_at T j).to

          out : (j < length T.steps) × ((step_at T j).from ≡ s)
          out = (in_out T s j).0 m

          go : (a : Bool) → member x.no t ≡ a → (b : Bool) → member (turn (is_every q) E).yes t ≡ b
              → S (literal (is_every q) (gate j))
          go true f b g = edge_struck S (is_every q) j (gate j) (end t) (closed_edge j m)
              (step_known_lem T S wf s x steps j out.0 out.1 false f)
          go false f true g =
              edge_end S (is_every q) j (gate j) (end t) (closed_edge j m) (in_turned T S (is_every q) end E ends t g).1
          go false f false g = absurd
              (false≢true (sym none ∙ (unmet-true (target_set T.steps s) x (turn (is_every q) E) small-x
              (turned_small (is_every q) E small-E) t).1
              (member_inside 32 _ t (target_small T.steps s) (out_target T wf s j m), out_target T wf s j m, f, g)))

      -- the last step left, where N is known false
      last_left_lem : (A : Row) → RowIn T S N A
          → SetIn (λ t. (j : ℕ) × Memᴰ j (steps_out T s) × ((step_at T j).to ≡ t)
          × S (literal (not (is_every q)) (gate j)))
          (last_left (target_set T.steps s) x (turn (is_every q) E) (known (turn (is_every q) A) false s))
      last_left_lem A ahead = set-cond _ left (λ b u m.
          let c = and_parts _ (only left) b in
          let r = (target_true T wf s u).0 ((unmet-true _ x _ small-x (turned_small (is_every q) E small-E) u).0 m).1 in
          let i = (in_out T s r.0).1 (r.1, r.2) in (
            r.0,
            i,
            r.3,
            ahead_last S (is_every q) (N s) gate (steps_out T s) closed_ahead r.0 i
                (in_turned-not T S (is_every q) N A ahead s c.0).1 (λ k n other.
                let o = (in_out T s k).0 n in
                met k n (other_end T wf s left (without_small _ _ (target_small T.steps s)) c.1 r.0 r.1 r.2 (rw r.3 m)
                k o.0 o.1 other)),
          ))
        where
          left : ℕ
          left = unmet (target_set T.steps s) x (turn (is_every q) E)

      module _ (A : Row) (ahead : RowIn T S N A) where
        -- where N is true, a step whose end is known false is struck; where it is false, the last step left is kept
        pub back_steps_in : StepsIn T S s (back_steps_of T q s x E A)
        back_steps_in = steps_in T S s _
            (λ t m.
            let r = last_left_lem A ahead t m in
            let o = (in_out T s r.0).0 r.1 in
            (r.0, o.0, o.1, r.2, kept_step_lem S (is_every q) r.0 (gate r.0) _ (closed_edge r.0 r.1) r.3))
            (set-cond _ _ (λ b t m.
            let c = (and-true (target_set T.steps s) (turn (is_every q) E).no t).0 m in
            let r = (target_true T wf s t).0 c.0 in
            let i = (in_out T s r.0).1 (r.1, r.2) in (
              r.0,
              r.1,
              r.2,
              r.3,
              struck_step S (is_every q) r.0 (gate r.0) _ (closed_edge r.0 i)
                  (ahead_down S (is_every q) (N s) gate (steps_out T s) closed_ahead r.0 i
                  (in_turned T S (is_every q) N A ahead s b).1)
                  (in_turned-not T S (is_every q) end E ends (step_at T r.0).to (rw r.3 c.1)).1,
            )))

        -- where N is true, so is `end` at the end of each kept step; where it is false, so is `end` at the end of the
        -- last step left
        pub back_end_in : RowIn T S end (back_end_of T q s x E A)
        back_end_in = turned_in T S (is_every q) end _
            (set-cond _ x.yes (λ b t m.
            let r = steps true t m in
            let i = (in_out T s r.0).1 (r.1, r.2) in
            subst (At T S (is_every q) end) r.3 (
              wf.to_state r.0 r.1,
              met_end S (is_every q) r.0 (gate r.0) _ (closed_edge r.0 i)
                  (ahead_down S (is_every q) (N s) gate (steps_out T s) closed_ahead r.0 i
                  (in_turned T S (is_every q) N A ahead s b).1) r.4,
            )))
            (λ t m.
            let r = last_left_lem A ahead t m in
            let o = (in_out T s r.0).0 r.1 in
            subst (At T S (not (is_every q)) end) r.2
            (wf.to_state r.0 o.0, failed_end S (is_every q) r.0 (gate r.0) _ (closed_edge r.0 r.1) r.3))

  -- N is true where no step is left, false where a kept step's end is known false
  pub ahead_in_lem : (x : ℕ → Row) → ((s : ℕ) → SmallRow (x s)) → (E : Row) → SmallRow E
      → ((s : ℕ) → s < length T.states → StepsIn T S s (x s))
      → RowIn T S end E → RowIn T S N (ahead_over T q x E)
  ahead_in_lem x small-x E small-E steps ends = turned_in T S (is_every q) N _
      (set_by _ _ (λ s l e. (
        l,
        ahead_up S (is_every q) (N s) gate (steps_out T s) (closed_ahead s l) (λ j m.
            met s l (x s) E (small-x s) small-E (steps s l) ends j m (empty_none _ e _)),
      )))
      (set_by _ _ (λ s l e.
      let r = nonempty_some _ (and_lt 32 (x s).yes (turn (is_every q) E).no (small-x s).0
      (turned_small (is_every q) E small-E).1) (not-true _ e) in
      let c = (and-true (x s).yes (turn (is_every q) E).no r.0).0 r.2 in
      let k = steps s l true r.0 c.0 in
      let i = (in_out T s k.0).1 (k.1, k.2) in (
        l,
        ahead_fails S (is_every q) (N s) gate (steps_out T s) (closed_ahead s l) k.0 i
            (edge_fails S (is_every q) k.0 (gate k.0) _ (closed_edge s l k.0 i) k.4
            (in_turned-not T S (is_every q) end E ends (step_at T k.0).to (rw k.3 c.1)).1),
      )))
