-- The demands of a table, at rest.
use Prim.Native.Nat.{ℕ, ◌<◌}
use native.Mathlib.Omega.{arith}
use mathlib.Core.Path.{◌≡◌, refl, sym, ap, ◌∙◌}
use mathlib.Core.Bool.{true, false, cond, true≢false, false≢true}
use mathlib.Core.Logic.{inl, inr}
use mathlib.Core.List.Memᴰ
use mathlib.Core.List.{[], ◌∷◌}
use borrow.Author.Tests.{eqb-true}
use lib.ListN.{length}
use Rattle.sets.specs.Member.{member}
use Rattle.table.specs.Table.{Table, step_at}
use Rattle.table.specs.Facts.{Wellformed}
use Rattle.table.specs.Rows.{target_set}
use Rattle.ctl.specs.Rule.{root_index}
use Rattle.ctl.specs.Kept.{Initial}
use Rattle.circuit.specs.Logic.{Literal, pos, neg}
use Rattle.circuit.specs.Variables.{step, kept, value}
use Rattle.circuit.specs.Clauses.{initials, demands}
use Rattle.circuit.proofs.Lists.{Each, each_more, each_one, each_map}
use Rattle.circuit.proofs.Clauses.{step_demand, start_demand, root_demand, in_initials, each_demand}
use Rattle.rows.specs.Rules.{open_starts}
use Rattle.rows.proofs.RowLaws.{without-true, without_small, and-true, or-true, cond-true}
use Rattle.closure.specs.Knowledge.{Knowledge, Small}
use Rattle.closure.specs.Rest.{initial_set, Rest}
use Rattle.closure.proofs.Forced.{ClauseClosed}
use Rattle.closure.proofs.Ends.{target_true}
use Rattle.closure.proofs.InitialSet.{initial_true, initial_small}
use Rattle.closure.proofs.OneMember.{same_or, only_this}
use Rattle.closure.proofs.Says.{row_of, place_of, Says, of_row, to_opposite}
use Rattle.closure.proofs.Values.{value_is}

-- a clause of two literals of opposite signs
two_closed : {Var : Type 0} (Q : Literal Var → Type 0) (v w : Var) → (Q (neg w) → Q (neg v)) → (Q (pos v) → Q (pos w))
    → ClauseClosed Q (neg v ∷ pos w ∷ [])
two_closed Q v w left right = each_more _ (neg v) _
    (λ alone. left (alone (pos w) (Memᴰ.tail (Memᴰ.head refl)) (λ e. true≢false (ap (λ l. l.sign) e))))
    (each_one _ (pos w) (λ alone. right (alone (neg v) (Memᴰ.head refl) (λ e. false≢true (ap (λ l. l.sign) e)))))

module _ (T : Table) (wf : Wellformed T) (K : Knowledge) (rest : Rest T K) where
  -- a kept step keeps its end, and one into a state that is not kept is struck
  step_closed : (j : ℕ) → j < length T.steps → ClauseClosed (Says T K) (step_demand T j)
  unfolding row_of place_of
  step_closed j h =
      let s = (step_at T j).from in
      let r = rest.kept s (wf.from_state j h) in
      let m = (target_true T wf s (step_at T j).to).1 (j, h, refl, refl) in
      two_closed (Says T K) (step j) (kept (step_at T j).to)
      (λ e. r.down _ false ((or-true (cond (member K.kept.no s) (target_set T.steps s) 0) _ _).1
      (inr ((and-true _ _ _).1 (m, e)))))
      (λ e. r.up _ true ((or-true _ _ _).1 (inl e)))

  -- ---- the initial states

  kept_same : (s t : ℕ) → kept s ≡ kept t → s ≡ t
  kept_same s t e = cc

  -- the last one that may be kept is kept
  start_closed : Small K → ClauseClosed (Says T K) (start_demand T)
  unfolding row_of place_of
  start_closed small = each_map _ (λ s. pos (kept s)) (initials T) (λ s m alone.
      let this = only_this (open_starts (initial_set T) K.kept) s (without_small _ _ (initial_small T wf))
      (λ z. rest.start.some_open (eqb-true _ 0 z))
      (λ u o.
      let p = (without-true (initial_set T) K.kept.no u small.kept.1).0 o in
      same_or u s (λ q. q) (λ d. absurd
      (true≢false (sym (alone (pos (kept u))
      (Memᴰ.map (λ s. pos (kept s)) ((in_initials T u).1 ((initial_true T u).0 p.1)))
      (λ e. d (kept_same u s (ap (λ l. l.var) e)))) ∙ p.2)))) in
      rest.start.kept s true ((cond-true _ _ s).1 (this.1, this.0)))

  -- one that is kept has the root
  root_closed : (s : ℕ) → Initial T s → ClauseClosed (Says T K) (root_demand T s)
  unfolding row_of place_of
  root_closed s i =
      let root = value_is T K rest (root_index T) (omega (arith, wf.some_node)) true s in
      two_closed (Says T K) (kept s) (value T (root_index T) s)
      (λ e. rest.start.kept s false ((and-true _ _ s).1 (to_opposite T K root e, (initial_true T s).1 i)))
      (λ e. of_row T K root (rest.start.root s true ((and-true _ _ s).1 (e, (initial_true T s).1 i))))

  -- the demands
  pub demands_closed : Small K → Each (ClauseClosed (Says T K)) (demands T)
  demands_closed small = each_demand T _ step_closed (start_closed small) root_closed
