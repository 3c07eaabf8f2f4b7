-- The rules of K and of the initial states advance the memory, and where they added nothing they are at rest.
use Prim.Native.Nat.{ℕ, ◌^◌, ◌<◌}
use native.Mathlib.Omega.{arith}
use mathlib.Core.Path.{◌≡◌, sym, subst}
use mathlib.Core.List.{List}
use borrow.Author.Tests.{eqb-true, eqb-false}
use lib.Dec.{eqb}
use lib.ListN.{length, get_or}
use Rattle.table.specs.Table.{Table}
use Rattle.table.specs.Facts.{Wellformed}
use Rattle.table.specs.Rows.{target_set}
use Rattle.ctl.specs.Rule.{root_index}
use Rattle.rows.specs.Words.{row_at, step_place}
use Rattle.closure.specs.Knowledge.{Sized}
use Rattle.propagate.specs.Memory.{Memory, node_place, kept_place, ◌and_then◌, add_row, add_step, node_row}
use Rattle.rows.specs.Rules.{kept_row, kept_back, open_starts, start_kept, start_root}
use Rattle.rows.proofs.RowLaws.{set_small}
use Rattle.closure.specs.Rest.{initial_set, RestKept, RestStart}
use Rattle.closure.specs.Advance.{ForcedBy}
use Rattle.closure.specs.MemoryRules.{kept_step, start_step}
use Rattle.closure.proofs.Ends.{target_small}
use Rattle.closure.proofs.RulesSmall.{kept_small, kept_back_small, start_kept_small, start_root_small}
use Rattle.closure.proofs.KeptSound.{kept_row_in, kept_back_in}
use Rattle.closure.proofs.StartSound.{start_kept_in, start_root_in, start_clash}
use Rattle.closure.proofs.KnowledgeInLess.{advance_less}
use Rattle.closure.proofs.Advances.{Advances, advance_so, advance_then, advance_failing}
use Rattle.closure.proofs.AddAdvance.{rows_small}
use Rattle.closure.proofs.AddPlaces.{closed, advance_node, advance_step, advance_kept}

module _ (T : Table) (wf : Wellformed T) (M : Memory) (sized : Sized T M) where
  -- with the ends of the steps out of s as they are
  kept_at : (s : ℕ) → s < length T.states → Advances T (λ K. RestKept T K s) M
      (add_row kept_place (kept_row s (target_set T.steps s) (row_at M.rows (step_place s))) M
      and_then add_step s (kept_back s (target_set T.steps s) (row_at M.rows (step_place s))
      (row_at M.rows kept_place)))
  kept_at s l =
      let steps = row_at M.rows (step_place s) in
      let small = rows_small T M sized (step_place s) in
      let up = advance_kept T wf M sized (kept_row s (target_set T.steps s) steps)
      (kept_small s (target_set T.steps s) steps small)
      (λ P inside. kept_row_in T wf (ForcedBy T P) (closed T P) s l steps small (inside.steps s l)) in
      let down = advance_step T wf _ up.sized (kept_back s (target_set T.steps s) steps (row_at M.rows kept_place))
      (kept_back_small s (target_set T.steps s) steps _ (target_small T.steps s) (rows_small T M sized kept_place)) s l
      (λ P inside. let before = advance_less up (ForcedBy T P) inside in
      kept_back_in T wf (ForcedBy T P) (closed T P) s l steps small (before.steps s l) _ before.kept) in
      advance_so T (λ q. record { up = q.0.0; down = q.1.0; clear = q.1.1; clear_kept = q.0.1 s })
      (advance_then T up down)

  pub kept_advance : (targets : List ℕ) (s : ℕ) → get_or targets s 0 ≡ target_set T.steps s → s < length T.states
      → Advances T (λ K. RestKept T K s) M (kept_step targets s M)
  unfolding kept_step
  kept_advance targets s e l = subst (λ (t : ℕ). Advances T (λ K. RestKept T K s) M
      (add_row kept_place (kept_row s t (row_at M.rows (step_place s))) M
      and_then add_step s (kept_back s t (row_at M.rows (step_place s))
      (row_at M.rows kept_place)))) (sym e) (kept_at s l)

  pub start_advance : Advances T (λ K. RestStart T K) M (start_step (initial_set T) (root_index T) M)
  unfolding start_step
  start_advance =
      let kept = row_at M.rows kept_place in
      let root = node_row M (root_index T) in
      let small = rows_small T M sized kept_place in
      let few : initial_set T < 2 ^ 32 = set_small (length T.states) (omega (arith, wf.few_states)) _ in
      let last : root_index T < length T.nodes = omega (arith, wf.some_node) in
      let some = advance_failing T (eqb (open_starts (initial_set T) kept) 0) M sized
      (λ e P inside. start_clash T wf (ForcedBy T P) (closed T P) kept small inside.kept (eqb-true _ 0 e)) in
      let keep = advance_kept T wf M some.sized (start_kept (initial_set T) kept root)
      (start_kept_small (initial_set T) kept root few (rows_small T M sized (node_place (root_index T))))
      (λ P inside. start_kept_in T wf (ForcedBy T P) (closed T P) kept small inside.kept root
      (inside.nodes (root_index T) last)) in
      let both = advance_then T some keep in
      let have = advance_node T wf _ both.sized (start_root (initial_set T) kept)
      (start_root_small (initial_set T) kept few small) (root_index T) last
      (λ P inside. start_root_in T wf (ForcedBy T P) (closed T P) kept small
      (advance_less both (ForcedBy T P) inside).kept) in
      advance_so T (λ q. record { some_open = eqb-false _ 0 q.0.0; kept = q.0.1.0; root = q.1.0 })
      (advance_then T both have)
