-- The rule of a level of a fixed-point node advances the memory, and where it added nothing it is at rest at the
-- states that it looked at.
use Prim.Native.Nat.{ℕ, suc, ◌<◌}
use native.Mathlib.Omega.{arith}
use mathlib.Core.Path.{◌≡◌, refl, sym, ap, subst, ◌∙◌}
use mathlib.Core.Bool.{true}
use mathlib.Core.List.{List}
use lib.ListN.{length, get_or}
use Rattle.sets.specs.Member.{member}
use Rattle.table.specs.declared.operator.Family.{Family}
use Rattle.table.specs.Table.{Table, node_at}
use Rattle.table.specs.Facts.{Wellformed}
use Rattle.table.specs.Rows.{target_set}
use Rattle.ctl.specs.Rule.{Quantifier, fixpoint as fixpoint_of, operator_of}
use Rattle.circuit.specs.Variables.{Var, ahead, level, value}
use Rattle.rows.specs.declared.row.Row.{Row}
use Rattle.rows.specs.declared.joined.Joined.{Joined}
use Rattle.propagate.specs.declared.level.Fixpoint.{Fixpoint}
use Rattle.rows.specs.Rules.{masked, join_of, inner_of}
use Rattle.closure.specs.Dual.{is_every}
use Rattle.rows.specs.Words.{SmallRow, step_place}
use Rattle.closure.specs.Knowledge.{Knowledge, knowledge, Sized, second_child}
use Rattle.propagate.specs.Memory.{Memory, node_place, node_row, ahead_in}
use Rattle.closure.specs.Rest.{join_level, inner_level, RestLevel}
use Rattle.closure.specs.KnowledgeIn.{RowIn}
use Rattle.closure.specs.Advance.{ForcedBy}
use Rattle.propagate.specs.Level.{add_level, level_step}
use Rattle.closure.proofs.RulesSmall.{SmallJoined, join_small}
use Rattle.closure.proofs.JoinClear.{join_clear}
use Rattle.closure.proofs.RestJoin.{added_more}
use Rattle.closure.proofs.AheadSound.{ahead_over}
use Rattle.closure.proofs.AheadOf.{level_ahead_in, level_back_steps_in, level_back_end_in}
use Rattle.closure.proofs.JoinSound.{JoinIn, join_in}
use Rattle.closure.proofs.KnowledgeInLess.{advance_less}
use Rattle.closure.proofs.Advances.{Advances, advance_so, advance_then, advance_failing}
use Rattle.closure.proofs.AddAdvance.{rows_small, levels_small}
use Rattle.closure.proofs.AddPlaces.{Given, closed, advance_node}
use Rattle.closure.proofs.AddLevel.{fixpoint, advance_level}
use Rattle.closure.proofs.NewRows.{new_in}
use Rattle.closure.proofs.Agree.{within_agrees, clear_agrees, JoinAgrees, join_agrees}
use Rattle.closure.proofs.Masked.{
  step_rows,
  OfStates,
  less_in,
  masked_within,
  masked_small,
  masked_agrees,
  ahead_here_small,
  ahead_over_small,
  ahead_within,
  ahead_here_agrees,
  back_agrees,
}
use Rattle.closure.proofs.BackAdvance.{go_back_more_advance}
use Rattle.closure.proofs.KnowledgeInParts.{fixpoint_below}

module _ (T : Table) (wf : Wellformed T) (targets : List ℕ) (ends : (s : ℕ) → s < 32
    → get_or targets s 0 ≡ target_set T.steps s)
    (i : ℕ) (h : i < length T.nodes) (fam : Family) (q : Quantifier) (a : ℕ) (m : ℕ) (few : m < length T.states) where
  -- with the second child as what is known has it
  module _ (op : operator_of (node_at T i) ≡ fixpoint_of fam q a (second_child (operator_of (node_at T i))))
      (M : Memory) (sized : Sized T M) where
    abbrev b : ℕ
    b = second_child (operator_of (node_at T i))

    below : (a < length T.nodes) × (b < length T.nodes)
    below = let r = fixpoint_below T wf i fam q a b h op in (omega arith, omega arith)

    -- what is known of the level, of the one under it, and of the children
    abbrev above : Row
    above = (knowledge T M).levels i (suc m)

    abbrev under : Row
    under = (knowledge T M).levels i m

    abbrev x : Row
    x = node_row M a

    abbrev y : Row
    y = node_row M b

    -- ---- they are of machine words

    above_small : SmallRow above
    above_small = levels_small T M sized i b (suc m)

    under_small : SmallRow under
    under_small = levels_small T M sized i b m

    x_small : SmallRow x
    x_small = rows_small T M sized (node_place a)

    y_small : SmallRow y
    y_small = rows_small T M sized (node_place b)

    abbrev fix : Fixpoint
    fix = fixpoint T fam i (is_every q) a b

    -- the level is at rest at the states of a set
    abbrev AtRest : ℕ → Knowledge → Type 0
    AtRest look K = (s : ℕ) → s < length T.states → member look s ≡ true
        → RestLevel T K fam q a b (K.levels i (suc m)) (K.levels i m) s

    -- ---- at the states of a set

    module _ (look : ℕ) (inside : OfStates T look) where
      abbrev N : Row
      N = ahead_in targets look (is_every q) under M

      abbrev J : Joined
      J = join_of fam (masked look above) (masked look x) (masked look y) N

      N_small : SmallRow N
      N_small = ahead_here_small T wf targets ends look q under M

      J_small : SmallJoined J
      J_small = join_small fam (masked look above) (masked look x) (masked look y) N
          (masked_small look above above_small) (masked_small look x x_small) (masked_small look y y_small) N_small

      -- ---- they are forced, and so is what they add to each other

      part_in : (v : ℕ → Var) (r : Row) → Given T M (λ S. RowIn T S v r) → Given T M (λ S. RowIn T S v (masked look r))
      part_in v r r-in P given = less_in T (ForcedBy T P) v (masked look r) r (masked_within look r) (r-in P given)

      under_in : Given T M (λ S. RowIn T S (level i m) under)
      under_in P given = given.levels i fam q a b m h op (omega arith)

      N_in : Given T M (λ S. RowIn T S (ahead i (suc m)) N)
      N_in P given = less_in T (ForcedBy T P) (ahead i (suc m)) N (ahead_over T q (step_rows M) under)
          (ahead_within T wf targets ends look q under M inside)
          (level_ahead_in T wf (ForcedBy T P) (closed T P) i h fam q a b op m few (step_rows M)
          (λ s. rows_small T M sized (step_place s))
          under under_small given.steps (under_in P given))

      J_in : Given T M (λ S. JoinIn T S (level i (suc m)) (value T a) (value T b) (ahead i (suc m)) J)
      J_in P given = join_in T wf (ForcedBy T P) (closed T P) i h fam q a b op m few (masked look above)
          (masked look x) (masked look y) N
          (part_in (level i (suc m)) above (λ P given. given.levels i fam q a b (suc m) h op few) P given)
          (part_in (value T a) x (λ P given. given.nodes a below.0) P given)
          (part_in (value T b) y (λ P given. given.nodes b below.1) P given)
          (N_in P given)
          (masked_small look above above_small) (masked_small look x x_small) (masked_small look y y_small) N_small

      more_in : Given T M (λ S. RowIn T S (ahead i (suc m)) J.more)
      more_in P given = subst (RowIn T (ForcedBy T P) (ahead i (suc m)))
          (sym (added_more fam (masked look above) (masked look x) (masked look y) N))
          (new_in T (ForcedBy T P) (ahead i (suc m)) J.ahead N N_small (J_in P given).ahead_in_lem)

      -- ---- at a state of the set they join what the whole rows do

      joins : (s : ℕ) → s < length T.states → member look s ≡ true
          → JoinAgrees s J (join_level T (knowledge T M) fam q a b above under)
          (inner_of fam (masked look above) (masked look x) (masked look y) N)
          (inner_level T (knowledge T M) fam q a b above under)
      joins s l g = join_agrees fam (masked look above) (masked look x) (masked look y) N above x y _ s
          N_small (ahead_over_small T wf targets ends look q under M)
          (masked_agrees look above s g) (masked_agrees look x s g) (masked_agrees look y s g)
          (ahead_here_agrees T wf targets ends look q under M s l g)

      -- ---- the rule

      level_with_lem : Advances T (AtRest look) M (level_step targets (length T.states) fix m look M)
      unfolding level_step
      level_with_lem =
          let fail = advance_failing T J.fails M sized (λ e P given. (J_in P given).clash e) in
          let up = advance_level T wf M sized J.level J_small.level i fam q a b h op (is_every q) (suc m) few
          (λ P given. (J_in P given).level_in) in
          let two = advance_then T fail up in
          let left = advance_node T wf _ two.sized J.a J_small.a a below.0
          (λ P given. (J_in P (advance_less two (ForcedBy T P) given)).a_in) in
          let three = advance_then T two left in
          let right = advance_node T wf _ three.sized J.b J_small.b b below.1
          (λ P given. (J_in P (advance_less three (ForcedBy T P) given)).b_in) in
          let four = advance_then T three right in
          let back = go_back_more_advance T wf targets ends q J.more under under_small _ four.sized
          (λ P given s l z k steps. let old = advance_less four (ForcedBy T P) given in
          level_back_steps_in T wf (ForcedBy T P) (closed T P) i h fam q a b op m few s l z under J.more k under_small
          steps (under_in P old) (more_in P old))
          (level i m)
          (λ P given s l z k steps. let old = advance_less four (ForcedBy T P) given in
          level_back_end_in T wf (ForcedBy T P) (closed T P) i h fam q a b op m few s l z under J.more k under_small
          steps (under_in P old) (more_in P old))
          (λ K. K.levels i m) (add_level (length T.states) fix m)
          (λ z k O sized-O given. advance_so T (λ w. w.0)
          (advance_level T wf O sized-O z k i fam q a b h op (is_every q) m (omega arith) given)) in
          advance_so T (λ z s l g.
          let clear = join_clear fam (masked look above) (masked look x) (masked look y) N
          (masked_small look above above_small) (masked_small look x x_small) (masked_small look y y_small) N_small
          z.0.0.0.0 s in
          let same = joins s l g in
          record {
            inner_clear = clear_agrees _ _ s same.inner clear.0;
            ahead_clear = clear_agrees _ _ s same.ahead clear.1;
            up = within_agrees _ above _ above s same.level (λ sign. refl) (z.0.0.0.1.0 s);
            left = within_agrees _ x _ x s same.a (λ sign. refl) (z.0.0.1.0 s);
            right = within_agrees _ y _ y s same.b (λ sign. refl) (z.0.1.0 s);
            back = back_agrees T (knowledge T M) q J.more _ under s same.more
                (record { steps = (z.1 s l).0; ends = (z.1 s l).1 });
            clear = z.0.0.0.1.1 s;
          }) (advance_then T four back)

-- the rule of a level of a fixed point, at the states of a set
pub level_advance : (T : Table) (wf : Wellformed T) (targets : List ℕ)
    → ((s : ℕ) → s < 32 → get_or targets s 0 ≡ target_set T.steps s)
    → (look : ℕ) → OfStates T look
    → (i : ℕ) → i < length T.nodes → (fam : Family) (q : Quantifier) (a b : ℕ)
    → operator_of (node_at T i) ≡ fixpoint_of fam q a b
    → (m : ℕ) → m < length T.states → (M : Memory) → Sized T M
    → Advances T (λ K. (s : ℕ) → s < length T.states → member look s ≡ true
    → RestLevel T K fam q a b (K.levels i (suc m)) (K.levels i m) s) M
    (level_step targets (length T.states) (fixpoint T fam i (is_every q) a b) m look M)
level_advance T wf targets ends look inside i h fam q a b op m few M sized =
    let same : second_child (operator_of (node_at T i)) ≡ b = ap second_child op in
    subst (λ (c : ℕ). Advances T (λ K. (s : ℕ) → s < length T.states → member look s ≡ true
    → RestLevel T K fam q a c (K.levels i (suc m)) (K.levels i m) s) M
    (level_step targets (length T.states) (fixpoint T fam i (is_every q) a c) m look M)) same
    (level_with_lem T wf targets ends i h fam q a m few (op ∙ ap (fixpoint_of fam q a) (sym same)) M sized look inside)
