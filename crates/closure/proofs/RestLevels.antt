-- The gates of a node with next states, at rest: AX and EX, and the levels of a fixed-point node.
use Prim.Native.Nat.{ℕ, zero, suc, ◌≤◌, ◌<◌}
use native.Mathlib.Omega.{arith}
use mathlib.Core.Path.{◌≡◌, refl, sym, ap, subst}
use mathlib.Core.Bool.{true, false}
use mathlib.Core.List.{[], ◌∷◌, ◌++◌, map}
use lib.ListN.{length}
use Rattle.table.specs.declared.operator.Family.{Family}
use Rattle.table.specs.declared.operator.Family.TheVariants.{Release, Until, Eventually, Always}
use Rattle.table.specs.Table.{Table, node_at}
use Rattle.table.specs.Facts.{Wellformed}
use Rattle.table.specs.Rows.{target_set}
use Rattle.ctl.specs.Range.{below}
use Rattle.ctl.specs.Rule.{Quantifier, every, some, Operator, next, fixpoint, operator_of}
use Rattle.circuit.specs.Logic.{pos, all}
use Rattle.circuit.specs.Variables.{Var, step, node, edge, ahead, inner, level, concat, steps_out, value, literal}
use Rattle.circuit.specs.Gates.{is, ahead_gate, edges, join_gates, level_gates, at_states}
use Rattle.circuit.proofs.Lists.{Each, each_more, each_one, each_append, each_over}
use Rattle.rows.specs.declared.row.Row.{Row}
use Rattle.rows.specs.Row.{turn, WithinAt, ClearAt}
use Rattle.rows.specs.Rules.{new_of}
use Rattle.closure.specs.Dual.{is_every}
use Rattle.closure.specs.Knowledge.{Knowledge, Small}
use Rattle.closure.specs.Rest.{ahead_of, RestBack, inner_level, RestLevel, Rest}
use Rattle.closure.proofs.Says.{
  AndRow,
  edges_over,
  ahead_level,
  edges_at,
  ahead_at,
  inner_at,
  row_of,
  place_of,
  Says,
  Is,
  one_row,
  two_rows,
}
use Rattle.closure.proofs.TurnedRows.{clear_turned, within_turned}
use Rattle.closure.proofs.RestSteps.{AheadRest}
use Rattle.closure.proofs.RestJoin.{either_and, level-and, always_and, added_more, joined_ahead}
use Rattle.closure.proofs.RestAhead.{Good, ahead_rest, edges_good, ahead_good}
use Rattle.closure.proofs.RestPlain.{pair_shape}
use Rattle.closure.proofs.RestBackFull.{OfTable, back_full}
use Rattle.closure.proofs.Values.{is_value, value_is, value_row, value_place, value_other}

module _ (T : Table) (wf : Wellformed T) (K : Knowledge) (small : Small K) (rest : Rest T K) (ours : OfTable T K)
    (i : ℕ) (h : i < length T.nodes) where
  -- AX and EX
  pub next_good : (q : Quantifier) (a : ℕ) → operator_of (node_at T i) ≡ next q a → a < length T.nodes
      → ((s : ℕ) → s < length T.states
      → WithinAt s (ahead_of T K q (K.nodes a)) (K.nodes i)
      × RestBack T K q (new_of (K.nodes i) (ahead_of T K q (K.nodes a))) (K.nodes a) s)
      → Each (Good T K) (at_states T
      (λ s. edges T q i 0 (value T a) s
      ++ (is (node i s) (ahead_gate q (map (λ j. pos (edge i 0 j)) (steps_out T s))) ∷ [])))
  unfolding edges_at row_of place_of
  next_good q a e ha r = each_over (length T.states) _ _ (λ s l.
      let is_edges : edges_at T K (operator_of (node_at T i)) i 0 s ≡ edges_over T K q (K.nodes i) (K.nodes a) s =
      ap (λ (o : Operator). edges_at T K o i 0 s) e in
      let at_rest = ahead_rest T wf K small rest q (K.nodes i) (K.nodes a) s l (small.nodes a) (rest.clear a ha)
      (rest.clear i h s l) (r s l).0
      (back_full T wf K small ours q (K.nodes i) (K.nodes a) s l (small.nodes a) (rest.kept s l).clear
      (rest.clear a ha) (r s l).1) in
      each_append _ (edges T q i 0 (value T a) s) _
      (edges_good T wf K q i 0 (K.nodes i) (K.nodes a) s is_edges at_rest (value T a)
      (λ j t d. value_other T a t (step j) refl (sym d)) (λ t k. value_row T K rest a ha t) (value_place T a))
      (each_one _ _ (
        ahead_good T wf K q i 0 (K.nodes i) (K.nodes a) s is_edges at_rest (node i s) refl refl,
        rest.clear i h s l,
      )))

  -- ---- the levels of a fixed-point node

  -- a gate of two variables at state s, by their rows: an AND, or by duals an OR
  pair_good : (p : Quantifier) (g x y : Var) (G X Y : Row) (s : ℕ) → row_of T K g ≡ G → place_of T g ≡ s
      → row_of T K x ≡ X → place_of T x ≡ s
      → row_of T K y ≡ Y → place_of T y ≡ s → ¬ (x ≡ y)
      → AndRow (turn (is_every p) G) (turn (is_every p) X) (turn (is_every p) Y) s → ClearAt s G
      → Good T K (is g (ahead_gate p (pos x ∷ pos y ∷ [])))
  pair_good p g x y G X Y s g-row g-place x-row x-place y-row y-place apart r clear = (
    pair_shape (Says T K) p g x y (two_rows T K
        (record { row_is = ap (turn (is_every p)) g-row; place_is = g-place })
        (record { row_is = ap (turn (is_every p)) x-row; place_is = x-place })
        (record { row_is = ap (turn (is_every p)) y-row; place_is = y-place })
        (λ d. apart (ap (λ l. l.var) d)) r),
    subst (λ (k : ℕ). ClearAt k (row_of T K g)) (sym g-place) (subst (ClearAt s) (sym g-row) clear),
  )

  module _ (a b : ℕ) (ha : a < length T.nodes) (hb : b < length T.nodes) (m : ℕ) (k : m < length T.states) (s : ℕ)
      (l : s < length T.states) where
    is_ahead : (fam : Family) (q : Quantifier) → operator_of (node_at T i) ≡ fixpoint fam q a b
        → row_of T K (ahead i (suc m) s) ≡ ahead_level T K fam q i a b (suc m)
    unfolding row_of ahead_at
    is_ahead fam q e = ap (λ (o : Operator). ahead_at T K o i (suc m)) e

    is_inner : (fam : Family) (q : Quantifier) → operator_of (node_at T i) ≡ fixpoint fam q a b
        → row_of T K (inner i (suc m) s) ≡ inner_level T K fam q a b (K.levels i (suc m)) (K.levels i m)
    unfolding row_of inner_at
    is_inner fam q e = ap (λ (o : Operator). inner_at T K o i (suc m)) e

    -- G, over a and N
    inner_good : (p : Quantifier) (G N : Row) → row_of T K (inner i (suc m) s) ≡ G → row_of T K (ahead i (suc m) s) ≡ N
        → AndRow (turn (is_every p) G) (turn (is_every p) (K.nodes a)) (turn (is_every p) N) s → ClearAt s G
        → Good T K (is (inner i (suc m) s) (ahead_gate p (pos (value T a s) ∷ pos (ahead i (suc m) s) ∷ [])))
    unfolding place_of
    inner_good p G N g-row n-row =
        pair_good p (inner i (suc m) s) (value T a s) (ahead i (suc m) s) G (K.nodes a) N s g-row refl
        (value_row T K rest a ha s) (value_place T a s) n-row refl (value_other T a s (ahead i (suc m) s) refl)

    -- the level, over b and another
    above_good : (p : Quantifier) (y : Var) (Y : Row) → row_of T K y ≡ Y → place_of T y ≡ s → is_value y ≡ false
        → AndRow (turn (is_every p) (K.levels i (suc m))) (turn (is_every p) (K.nodes b)) (turn (is_every p) Y) s
        → ClearAt s (K.levels i (suc m))
        → Good T K (is (level i (suc m) s) (ahead_gate p (pos (value T b s) ∷ pos y ∷ [])))
    unfolding row_of place_of
    above_good p y Y y-row y-place other =
        pair_good p (level i (suc m) s) (value T b s) y (K.levels i (suc m)) (K.nodes b) Y s refl refl
        (value_row T K rest b hb s) (value_place T b s) y-row y-place (value_other T b s y other)

    -- G and the level of each family
    join_good : (fam : Family) (q : Quantifier) → operator_of (node_at T i) ≡ fixpoint fam q a b
        → RestLevel T K fam q a b (K.levels i (suc m)) (K.levels i m) s
        → Each (Good T K) (join_gates T fam i a b (suc m) s)
    unfolding place_of
    join_good Release q e r = each_more _ _ _
        (inner_good some _ _ (is_inner Release q e) (is_ahead Release q e)
        (either_and _ _ _ _ s r.inner_clear r.up r.left r.right) r.inner_clear)
        (each_one _ _ (above_good every (inner i (suc m) s) _ (is_inner Release q e) refl refl
        (level-and _ _ _ _ s r.inner_clear r.up r.left r.right) r.clear))
    join_good Until q e r =
        let clear = clear_turned false _ s r.inner_clear in
        let up = within_turned false _ _ s r.up in
        let left = within_turned false _ _ s r.left in
        let right = within_turned false _ _ s r.right in
        each_more _ _ _
        (inner_good every _ _ (is_inner Until q e) (is_ahead Until q e) (either_and _ _ _ _ s clear up left right)
        r.inner_clear)
        (each_one _ _ (above_good some (inner i (suc m) s) _ (is_inner Until q e) refl refl
        (level-and _ _ _ _ s clear up left right) r.clear))
    join_good Eventually q e r = each_one _ _ (above_good some (ahead i (suc m) s) _ (is_ahead Eventually q e) refl refl
        (always_and _ _ _ s (clear_turned false _ s r.clear) (within_turned false _ _ s r.up)
        (within_turned false _ _ s r.right)) r.clear)
    join_good Always q e r = each_one _ _ (above_good every (ahead i (suc m) s) _ (is_ahead Always q e) refl refl
        (always_and _ _ _ s r.clear r.up r.right) r.clear)

  module _ (fam : Family) (q : Quantifier) (a b : ℕ) (e : operator_of (node_at T i) ≡ fixpoint fam q a b)
      (ha : a < length T.nodes) (hb : b < length T.nodes)
      (r : (s : ℕ) → s < length T.states → (m : ℕ) → m < length T.states
      → RestLevel T K fam q a b (K.levels i (suc m)) (K.levels i m) s) where
    level-is : (m s : ℕ) → Is T K (literal true (level i m s)) (K.levels i m) s
    unfolding row_of place_of
    level-is m s = record { row_is = refl; place_is = refl }

    -- no level is known both ways
    level_clear : (m : ℕ) → m ≤ length T.states → (s : ℕ) → s < length T.states → ClearAt s (K.levels i m)
    level_clear zero k s l = rw (rest.first i fam q a b h e) (rest.clear b hb s l)
    level_clear (suc m) k s l = (r s l m k).clear

    -- level 0 is b
    first_good : (s : ℕ) → s < length T.states → Good T K (is (level i 0 s) (all (pos (value T b s) ∷ [])))
    unfolding row_of place_of
    first_good s l =
        let same = rest.first i fam q a b h e in (
          one_row T K (level-is 0 s) (value_is T K rest b hb true s) (λ sign k. rw same k) (λ sign k. rw same at k),
          level_clear 0 (omega arith) s l,
        )

    module _ (m : ℕ) (k : m < length T.states) (s : ℕ) (l : s < length T.states) where
      is_edges : edges_at T K (operator_of (node_at T i)) i (suc m) s
          ≡ edges_over T K q (ahead_level T K fam q i a b (suc m)) (K.levels i m) s
      unfolding edges_at
      is_edges = ap (λ (o : Operator). edges_at T K o i (suc m) s) e

      at_rest : AheadRest (target_set T.steps s) (K.steps s) (turn (is_every q) (K.levels i m))
          (turn (is_every q) (ahead_level T K fam q i a b (suc m))) s
      at_rest = ahead_rest T wf K small rest q (ahead_level T K fam q i a b (suc m)) (K.levels i m) s l
          (small.levels i m) (level_clear m (omega arith))
          (r s l m k).ahead_clear (joined_ahead fam (K.levels i (suc m)) (K.nodes a) (K.nodes b)
          (ahead_of T K q (K.levels i m)) s)
          (back_full T wf K small ours q (ahead_level T K fam q i a b (suc m)) (K.levels i m) s l (small.levels i m)
          (rest.kept s l).clear
          (level_clear m (omega arith))
          (subst (λ (x : Row). RestBack T K q x (K.levels i m) s) (added_more fam _ _ _ _) (r s l m k).back))

      -- the step gates and N
      edge_good : Each (Good T K) (edges T q i (suc m) (level i m) s)
      unfolding row_of place_of
      edge_good = edges_good T wf K q i (suc m) (ahead_level T K fam q i a b (suc m)) (K.levels i m) s is_edges at_rest
          (level i m)
          (λ j t d. let z : ◌≡◌ {A = ℕ} 0 1 = cc in omega arith) (λ t o. refl) (λ t. refl)

      over_good : Good T K (is (ahead i (suc m) s) (ahead_gate q (map (λ j. pos (edge i (suc m) j)) (steps_out T s))))
      unfolding place_of
      over_good =
          let row = is_ahead a b ha hb m k s l fam q e in (
            ahead_good T wf K q i (suc m) (ahead_level T K fam q i a b (suc m)) (K.levels i m) s is_edges at_rest
                (ahead i (suc m) s) row refl,
            subst (ClearAt s) (sym row) (r s l m k).ahead_clear,
          )

      -- the gates of the next level
      level_good : Each (Good T K) (level_gates T fam q i a b m s)
      level_good = each_append _ (edges T q i (suc m) (level i m) s) _ edge_good
          (each_more _ _ _ over_good (join_good a b ha hb m k s l fam q e (r s l m k)))

    -- the gates of all levels
    pub fixpoint_good : Each (Good T K) (at_states T (λ s. is (level i 0 s) (all (pos (value T b s) ∷ [])) ∷ [])
        ++ concat (map (λ m. at_states T (level_gates T fam q i a b m)) (below (length T.states))))
    fixpoint_good = each_append _ (at_states T _) _
        (each_over (length T.states) _ _ (λ s l. each_one _ _ (first_good s l)))
        (each_over (length T.states) _ _ (λ m k. each_over (length T.states) _ _ (λ s l. level_good m k s l)))
