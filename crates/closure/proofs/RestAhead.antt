-- The gates of the steps out of a state, and N over them, at rest: for A and for E.
use Prim.Native.Nat.{ℕ, ◌<◌}
use mathlib.Core.Path.{◌≡◌, refl, sym, ap, subst, ◌∙◌}
use mathlib.Core.Bool.{Bool, true, false, not}
use mathlib.Core.List.{List, map, map-map, Memᴰ}
use lib.ListN.{length}
use Rattle.sets.proofs.SetOf.{in_set}
use Rattle.table.specs.Table.{Table, step_at, node_at}
use Rattle.table.specs.Facts.{Wellformed}
use Rattle.table.specs.Rows.{target_set}
use Rattle.ctl.specs.Rule.{Quantifier, every, some, operator_of}
use Rattle.circuit.specs.Logic.{Literal, pos, opposite}
use Rattle.circuit.specs.Variables.{Var, step, edge, steps_out, literal}
use Rattle.circuit.specs.Gates.{Defined, edge_gate, ahead_gate, edges}
use Rattle.circuit.proofs.Lists.{Each, each_map, in_out}
use Rattle.rows.specs.declared.row.Row.{Row}
use Rattle.rows.specs.Row.{known, turn, WithinAt, ClearAt}
use Rattle.closure.specs.Dual.{is_every}
use Rattle.rows.specs.Words.{SmallRow}
use Rattle.rows.proofs.RowLaws.{some_nonempty, and-true, turned_small}
use Rattle.closure.specs.Knowledge.{Knowledge, Small}
use Rattle.closure.specs.Rest.{ahead_of, RestBack, Rest}
use Rattle.closure.proofs.Ends.{target_true, target_small, out_target}
use Rattle.closure.proofs.TurnedRows.{turned_twice, clear_turned, within_turned}
use Rattle.closure.proofs.AndClosed.{AndRules, GateRules, many_rules}
use Rattle.closure.proofs.Says.{
  edge_row,
  AndRow,
  edges_over,
  edges_at,
  row_of,
  place_of,
  Says,
  Is,
  to_row,
  of_row,
  to_opposite,
  of_opposite,
  two_rows,
}
use Rattle.closure.proofs.RestSteps.{AheadRest, edge_and, edge_clear, all_met, met_each, one_missed, last_missed}

-- N's gate as an AND, for A of the step gates and for E of their opposites
pub ahead_shape : (S : Literal Var → Type 0) (q : Quantifier) (v : Var) (f : ℕ → Var) (js : List ℕ)
    → AndRules S (literal (is_every q) v) (map (λ j. literal (is_every q) (f j)) js)
    → GateRules S v (ahead_gate q (map (λ j. pos (f j)) js))
ahead_shape S every v f js r = r
ahead_shape S some v f js r = rw (map-map opposite (λ j. pos (f j)) js) r

module _ (T : Table) (K : Knowledge) where
  -- a gate at rest: its output is what its inputs say, and is not known both ways
  abbrev pub Good : Defined → Type 0
  Good d = GateRules (Says T K) d.output d.gate × ClearAt (place_of T d.output) (row_of T K d.output)

module _ (T : Table) (wf : Wellformed T) (K : Knowledge) where
  -- where the rules of N add nothing, those of A add nothing to the rows for A, nor to their duals for E
  pub ahead_rest : Small K → Rest T K → (q : Quantifier) (over end : Row) (s : ℕ) → s < length T.states → SmallRow end
      → ((t : ℕ) → t < length T.states → ClearAt t end) → ClearAt s over → WithinAt s (ahead_of T K q end) over
      → RestBack T K q over end s
      → AheadRest (target_set T.steps s) (K.steps s) (turn (is_every q) end) (turn (is_every q) over) s
  ahead_rest small rest q over end s h small_end clear_end clear up back =
      let within = within_turned (is_every q) _ over s up in
      record {
        small_target = target_small T.steps s;
        small_out = small.steps s;
        small_end = turned_small (is_every q) end small_end;
        clear_out = (rest.kept s h).clear;
        clear_end = λ t m.
            let j = (target_true T wf s t).0 m in
            clear_turned (is_every q) end t
            (clear_end t (subst (λ (t : ℕ). t < length T.states) j.3 (wf.to_state j.0 j.1)));
        clear = clear_turned (is_every q) over s clear;
        met = λ e. within true ((in_set _ _ s).1 (h, e));
        missed = λ t o e. within false ((in_set _ _ s).1 (h, ap not (some_nonempty _ t ((and-true _ _ t).1 (o, e)))));
        steps = back.steps;
        ends = back.ends;
      }

  module _ (q : Quantifier) (i m : ℕ) (over end : Row) (s : ℕ)
      (is_edges : edges_at T K (operator_of (node_at T i)) i m s ≡ edges_over T K q over end s)
      (r : AheadRest (target_set T.steps s) (K.steps s) (turn (is_every q) end) (turn (is_every q) over) s) where
    -- the rows of the gates, as A has them
    abbrev gates : Row
    gates = edge_row (target_set T.steps s) (K.steps s) (turn (is_every q) end) (known (turn (is_every q) over) true s)

    edge_row_lem : (j : ℕ) → (step_at T j).from ≡ s → row_of T K (edge i m j) ≡ turn (is_every q) gates
    unfolding row_of
    edge_row_lem j e = ap (edges_at T K (operator_of (node_at T i)) i m) e ∙ is_edges

    -- ---- the gate of a step

    edge_rules : (p : Quantifier) (g y : Row) (j : ℕ) → (step_at T j).from ≡ s → (w : Var) → ¬ (step j ≡ w)
        → row_of T K (edge i m j) ≡ turn (is_every p) g
        → row_of T K w ≡ y → place_of T w ≡ (step_at T j).to
        → AndRow (turn false g) (K.steps s) (turn false (turn (is_every p) y)) (step_at T j).to
        → GateRules (Says T K) (edge i m j) (edge_gate p j w)
    unfolding row_of place_of
    edge_rules every g y j f w apart eg ey at = two_rows T K
        (record { row_is = ap (turn false) eg; place_is = refl })
        (record { row_is = ap K.steps f; place_is = refl })
        (record { row_is = ap (turn false) ey; place_is = at })
        (λ e. apart (ap (λ l. l.var) e))
    edge_rules some g y j f w apart eg ey at = two_rows T K
        (record { row_is = eg; place_is = refl })
        (record { row_is = ap K.steps f; place_is = refl })
        (record { row_is = ey; place_is = at })
        (λ e. apart (ap (λ l. l.var) e))

    -- the gates of the steps out of s, over the variables w at their ends
    pub edges_good : (w : ℕ → Var) → ((j t : ℕ) → ¬ (step j ≡ w t))
        → ((t : ℕ) → t < length T.states → row_of T K (w t) ≡ end)
        → ((t : ℕ) → place_of T (w t) ≡ t) → Each (Good T K) (edges T q i m w s)
    unfolding place_of
    edges_good w apart rows places = each_map _ _ (steps_out T s) (λ j o.
        let p = (in_out T s j).0 o in
        let t = (step_at T j).to in (
          edge_rules q gates end j p.1 (w t) (apart j t) (edge_row_lem j p.1) (rows t (wf.to_state j p.0)) (places t)
              (edge_and r t (out_target T wf s j o)),
          subst (ClearAt t) (sym (edge_row_lem j p.1))
              (clear_turned (is_every q) gates t (edge_clear r t (out_target T wf s j o))),
        ))

    -- ---- N over them

    edge_same : (j k : ℕ) → edge i m j ≡ edge i m k → j ≡ k
    edge_same j k e = cc

    many_edges : (b : Bool) (v : Var) → Is T K (literal b v) (turn (is_every q) over) s
        → ((j : ℕ) → Memᴰ j (steps_out T s) → Is T K (literal b (edge i m j)) gates (step_at T j).to)
        → AndRules (Says T K) (literal b v) (map (λ j. literal b (edge i m j)) (steps_out T s))
    many_edges b v iv ie = many_rules (Says T K) (literal b v) (λ j. literal b (edge i m j))
        (λ j k e. edge_same j k (ap (λ l. l.var) e)) (steps_out T s)
        (λ each. of_row T K iv (all_met r (λ t o. let j = (target_true T wf s t).0 o in
        let k = (in_out T s j.0).1 (j.1, j.2) in
        subst (λ (t : ℕ). known gates true t ≡ true) j.3 (to_row T K (ie j.0 k) (each j.0 k)))))
        (λ n j o. of_row T K (ie j o) (met_each r (to_row T K iv n) (step_at T j).to (out_target T wf s j o)))
        (λ j o e. of_opposite T K iv (one_missed r (step_at T j).to (to_opposite T K (ie j o) e)))
        (λ n j o others. of_opposite T K (ie j o)
        (last_missed r (to_opposite T K iv n) (step_at T j).to (out_target T wf s j o) (λ u p d.
        let k = (target_true T wf s u).0 p in
        let l = (in_out T s k.0).1 (k.1, k.2) in
        subst (λ (t : ℕ). known gates true t ≡ true) k.3 (to_row T K (ie k.0 l)
        (others k.0 l (λ e. d (sym k.3 ∙ ap (λ (j : ℕ). (step_at T j).to) e)))))))

    -- the gate of N, whose variable is v
    pub ahead_good : (v : Var) → row_of T K v ≡ over → place_of T v ≡ s
        → GateRules (Says T K) v (ahead_gate q (map (λ j. pos (edge i m j)) (steps_out T s)))
    unfolding place_of
    ahead_good v e at = ahead_shape (Says T K) q v (edge i m) (steps_out T s) (many_edges (is_every q) v
        (record { row_is = ap (turn (is_every q)) e; place_is = at })
        (λ j o. record {
          row_is = ap (turn (is_every q)) (edge_row_lem j ((in_out T s j).0 o).1)
              ∙ turned_twice (is_every q) gates;
          place_is = refl;
        }))
