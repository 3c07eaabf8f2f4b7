-- The rule of a node of kind `next` advances the memory, and where it added nothing it is at rest at the states that
-- it looked at.
use Prim.Native.Nat.{ℕ, ◌<◌}
use mathlib.Core.Path.{◌≡◌, refl}
use mathlib.Core.Bool.{true}
use mathlib.Core.List.{List}
use lib.ListN.{length, get_or}
use Rattle.sets.specs.Member.{member}
use Rattle.table.specs.Table.{Table, node_at}
use Rattle.table.specs.Facts.{Wellformed}
use Rattle.table.specs.Rows.{target_set}
use Rattle.ctl.specs.Rule.{Quantifier, next, operator_of}
use Rattle.circuit.specs.Variables.{value}
use Rattle.rows.specs.declared.row.Row.{Row}
use Rattle.rows.specs.Row.{turn, WithinAt, Clear}
use Rattle.rows.specs.Rules.{masked, new_of}
use Rattle.closure.specs.Dual.{is_every}
use Rattle.rows.specs.Words.{SmallRow, step_place}
use Rattle.closure.specs.Knowledge.{Knowledge, Sized}
use Rattle.propagate.specs.Memory.{Memory, node_place, add_row, node_row, ahead_in}
use Rattle.closure.specs.Rest.{ahead_of, RestBack}
use Rattle.closure.specs.KnowledgeIn.{RowIn}
use Rattle.closure.specs.Advance.{ForcedBy}
use Rattle.propagate.specs.Gates.{next_step}
use Rattle.closure.proofs.AheadSound.{ahead_over}
use Rattle.closure.proofs.AheadOf.{next_ahead_in, next_back_steps_in, next_back_end_in}
use Rattle.closure.proofs.KnowledgeInLess.{advance_less}
use Rattle.closure.proofs.Advances.{Advances, advance_so, advance_then}
use Rattle.closure.proofs.AddAdvance.{rows_small}
use Rattle.closure.proofs.AddPlaces.{Given, closed, advance_node}
use Rattle.closure.proofs.NewRows.{new_in}
use Rattle.closure.proofs.Agree.{within_agrees, new_agrees}
use Rattle.closure.proofs.Masked.{
  step_rows,
  OfStates,
  less_in,
  masked_within,
  masked_agrees,
  ahead_here_small,
  ahead_over_small,
  ahead_within,
  ahead_here_agrees,
  back_agrees,
}
use Rattle.closure.proofs.BackAdvance.{BackRest, go_back_more_advance}

-- at rest at the states of a set, and nothing of the node's row is known both ways
abbrev pub SettledOn : Table → ℕ → ℕ → (Knowledge → ℕ → Type 0) → Knowledge → Type 0
SettledOn T look i R K = ((s : ℕ) → s < length T.states → member look s ≡ true → R K s) × Clear (K.nodes i)

module _ (T : Table) (wf : Wellformed T) (targets : List ℕ) (ends : (s : ℕ) → s < 32
    → get_or targets s 0 ≡ target_set T.steps s)
    (look : ℕ) (inside : OfStates T look)
    (M : Memory) (sized : Sized T M) (i : ℕ) (h : i < length T.nodes) (q : Quantifier) (a : ℕ)
    (op : operator_of (node_at T i) ≡ next q a)
    (la : a < length T.nodes) where
  abbrev E : Row
  E = node_row M a

  -- N at the states of `look`
  abbrev N : Row
  N = ahead_in targets look (is_every q) E M

  E_small : SmallRow E
  E_small = rows_small T M sized (node_place a)

  N_small : SmallRow N
  N_small = ahead_here_small T wf targets ends look q E M

  N_in : Given T M (λ S. RowIn T S (value T i) N)
  N_in P given = less_in T (ForcedBy T P) (value T i) N (ahead_over T q (step_rows M) E)
      (ahead_within T wf targets ends look q E M inside)
      (next_ahead_in T wf (ForcedBy T P) (closed T P) i h q a op (step_rows M)
      (λ s. rows_small T M sized (step_place s)) E E_small
      given.steps (given.nodes a la))

  -- what is known of N besides, with the row of the node as it is in a memory
  more_in : (O : Memory) → Given T O (λ S. RowIn T S (value T i) (new_of (masked look (node_row O i)) N))
  more_in O P given = new_in T (ForcedBy T P) (value T i) (masked look (node_row O i)) N N_small
      (less_in T (ForcedBy T P) (value T i) (masked look (node_row O i)) (node_row O i)
      (masked_within look (node_row O i)) (given.nodes i h))

  pub next_advance : Advances T
      (SettledOn T look i (λ K s. WithinAt s (ahead_of T K q (K.nodes a)) (K.nodes i)
      × RestBack T K q (new_of (K.nodes i) (ahead_of T K q (K.nodes a))) (K.nodes a) s)) M
      (next_step targets (length T.states) look i (is_every q) a M)
  next_advance =
      let up = advance_node T wf M sized N N_small i h N_in in
      let O = (add_row (node_place i) N M).memory in
      let A = new_of (masked look (node_row O i)) N in
      let back = go_back_more_advance T wf targets ends q A E E_small O up.sized
      (λ P given s l x k steps. next_back_steps_in T wf (ForcedBy T P) (closed T P) i h q a op s l x E A k E_small steps
      ((advance_less up (ForcedBy T P) given).nodes a la) (more_in O P given))
      (value T a)
      (λ P given s l x k steps. next_back_end_in T wf (ForcedBy T P) (closed T P) i h q a op s l x E A k E_small steps
      ((advance_less up (ForcedBy T P) given).nodes a la) (more_in O P given))
      (λ K. K.nodes a) (add_row (node_place a))
      (λ x k O sized-O given. advance_so T (λ z. z.0) (advance_node T wf O sized-O x k a la given)) in
      let back_so = advance_so T {Q = λ K. (s : ℕ) → s < length T.states
      → BackRest T q (new_of (masked look (K.nodes i)) N) E (turn (is_every q) (K.nodes a)) K s} (λ z. z) back in
      advance_so T (λ z. (
        λ s l m.
            let over = ahead_here_agrees T wf targets ends look q E M s l m in (
              within_agrees N (node_row M i) _ (node_row M i) s over (λ sign. refl) (z.0.0 s),
              back_agrees T _ q (new_of (masked look (node_row M i)) N) _ E s
                  (new_agrees (masked look (node_row M i)) N (node_row M i) _ s N_small
                  (ahead_over_small T wf targets ends look q E M) (masked_agrees look (node_row M i) s m) over)
                  (record { steps = (z.1 s l).0; ends = (z.1 s l).1 }),
            ),
        z.0.1,
      )) (advance_then T up back_so)
