-- A cell at rest stays at rest while what it reads stays. What differs elsewhere is read by no rule of the cell, and
-- a bit that came to a row that the rules add to leaves it with what they would add.
use Prim.Native.Nat.{ℕ, suc, ◌+◌, ◌<◌}
use native.Mathlib.Omega.{arith}
use mathlib.Core.Path.{◌≡◌, refl, sym, ap, subst, ◌∙◌}
use mathlib.Core.Bool.{Bool, true, false, cond, true≢false}
use mathlib.Core.List.{List}
use borrow.Author.Tests.{eq-eqb}
use lib.Bits.{bit_and}
use lib.Dec.{eqb}
use lib.ListN.{length, get_or}
use Rattle.sets.specs.Member.{member}
use Rattle.table.specs.declared.operator.Family.{Family}
use Rattle.table.specs.Table.{Table, node_at}
use Rattle.table.specs.Facts.{Wellformed}
use Rattle.table.specs.Rows.{target_set}
use Rattle.table.proofs.Bools.{or_left, or_right, not_so}
use Rattle.ctl.specs.Rule.{
  Quantifier,
  every,
  some,
  Operator,
  constant,
  atom,
  negation,
  conjunction,
  disjunction,
  next,
  fixpoint,
  operator_of,
}
use Rattle.rows.specs.declared.row.Row.{Row}
use Rattle.rows.specs.Row.{known, turn, Within, ClearAt}
use Rattle.rows.specs.Words.{SmallRow}
use Rattle.rows.specs.Rules.{unmet, back_steps, back_end, kept_row, kept_back}
use Rattle.rows.proofs.RowLaws.{turned_small}
use Rattle.readers.specs.Reads.{AgreeAt, AgreeOn}
use Rattle.readers.specs.Readers.{first_word}
use Rattle.closure.specs.Dual.{is_every}
use Rattle.closure.specs.Knowledge.{Knowledge, Small}
use Rattle.closure.specs.Rest.{
  ahead_of,
  join_level,
  inner_level,
  RestBack,
  RestKept,
  RestBoth,
  RestSame,
  RestLevel,
  RestNode,
}
use Rattle.events.specs.Watched.{SameKept, SameCell, More, RestCell, Watched, Noted}
use Rattle.closure.proofs.Ends.{target_small}
use Rattle.closure.proofs.TurnedRows.{within_duals}
use Rattle.closure.proofs.RulesSmall.{ahead_small}
use Rattle.closure.proofs.RestBackFull.{OfTable}
use Rattle.closure.proofs.Agree.{
  inside_same,
  unmet_same,
  within_agrees,
  clear_agrees,
  turned_agrees,
  output_agrees,
  input_agrees,
  new_agrees,
  JoinAgrees,
  join_agrees,
  ahead_agrees,
}

-- the same row lies within more
within_same : (r r' q q' : Row) → r' ≡ r → Within r q → Within q q' → Within r' q'
within_same r r' q q' e w more s sign k = more s sign (w s sign (sym (ap (λ (r : Row). known r sign s) e) ∙ k))

same_within : (r r' : Row) → r' ≡ r → Within r r'
same_within r r' e s sign k = ap (λ (r : Row). known r sign s) e ∙ k

-- ---- K and the steps

kept_steps_same : (s target : ℕ) (step step' kept kept' : Row) → step' ≡ step → AgreeAt s kept kept'
    → bit_and target kept'.no ≡ bit_and target kept.no
    → kept_back s target step' kept' ≡ kept_back s target step kept
kept_steps_same s target step step' kept kept' e own ends = cc (own true, own false)

pub frame_kept : (T : Table) (K K' : Knowledge) → More K K' → (s : ℕ) → SameKept T K K' s → RestKept T K s
    → RestKept T K' s
frame_kept T K K' more s same rest = record {
  up = within_same _ _ K.kept K'.kept (ap (kept_row s (target_set T.steps s)) same.steps) rest.up more.kept;
  down = within_same _ _ (K.steps s) (K'.steps s)
      (kept_steps_same s (target_set T.steps s) (K.steps s) (K'.steps s) K.kept K'.kept same.steps same.own
      (inside_same _ _ _ (target_small T.steps s) (λ t m. same.ends t m false)))
      rest.down
      (same_within (K.steps s) (K'.steps s) same.steps);
  clear = λ t. subst (ClearAt t) (sym same.steps) (rest.clear t);
  clear_kept = clear_agrees K.kept K'.kept s same.own rest.clear_kept;
}

-- ---- what N gives back

back_steps_same : (target : ℕ) (step step' end end' : Row) (t t' f f' : Bool) → step' ≡ step → t' ≡ t → f' ≡ f
    → unmet target step end' ≡ unmet target step end → bit_and target end'.no ≡ bit_and target end.no
    → back_steps target step' end' t' f' ≡ back_steps target step end t f
back_steps_same target step step' end end' t t' f f' e p q left missed = cc

back_end_same : (target : ℕ) (step step' end end' : Row) (t t' f f' : Bool) → step' ≡ step → t' ≡ t → f' ≡ f
    → unmet target step end' ≡ unmet target step end
    → back_end target step' end' t' f' ≡ back_end target step end t f
back_end_same target step step' end end' t t' f f' e p q left = cc

module _ (T : Table) (K K' : Knowledge) (small : Small K) (s : ℕ) (steps : K'.steps s ≡ K.steps s)
    (end end' : Row) (E : SmallRow end) (E' : SmallRow end') (agree : AgreeOn (target_set T.steps s) end end')
    (more : Within end end') where
  frame_back : (q : Quantifier) (ahead ahead' : Row) → AgreeAt s ahead ahead' → RestBack T K q ahead end s
      → RestBack T K' q ahead' end' s
  frame_back q ahead ahead' over back = record {
    steps = within_same _ _ (K.steps s) (K'.steps s)
        (back_steps_same target (K.steps s) (K'.steps s) (ends end) (ends end') _ _ _ _ steps (known_same true)
        (known_same false) left missed)
        back.steps
        (same_within (K.steps s) (K'.steps s) steps);
    ends = within_same _ _ (ends end) (ends end')
        (back_end_same target (K.steps s) (K'.steps s) (ends end) (ends end') _ _ _ _ steps (known_same true)
        (known_same false) left)
        back.ends
        (λ t. within_duals (is_every q) end end' t (more t));
  }
    where
      target : ℕ
      target = target_set T.steps s

      ends : Row → Row
      ends = turn (is_every q)

      known_same : AgreeAt s (ends ahead) (ends ahead')
      known_same = turned_agrees (is_every q) ahead ahead' s over

      agree_ends : AgreeOn target (ends end) (ends end')
      agree_ends t m = turned_agrees (is_every q) end end' t (agree t m)

      left : unmet target (K.steps s) (ends end') ≡ unmet target (K.steps s) (ends end)
      left = unmet_same target (K.steps s) (ends end) (ends end') (target_small T.steps s) (small.steps s)
          (turned_small (is_every q) end E) (turned_small (is_every q) end' E') agree_ends

      missed : bit_and target (ends end').no ≡ bit_and target (ends end).no
      missed = inside_same _ _ _ (target_small T.steps s) (λ t m. agree_ends t m false)

-- ---- gates of one and of two inputs

frame_same : (T : Table) (K K' : Knowledge) (r q r' q' : Row) (s : ℕ) → AgreeAt s r r' → AgreeAt s q q'
    → RestSame T K r q s → RestSame T K' r' q' s
frame_same T K K' r q r' q' s R Q rest = record {
  up = within_agrees q r q' r' s Q R rest.up;
  down = within_agrees r q r' q' s R Q rest.down;
}

frame_both : (T : Table) (K K' : Knowledge) (q : Quantifier) (i a b s : ℕ)
    → AgreeAt s (K.nodes i) (K'.nodes i) → AgreeAt s (K.nodes a) (K'.nodes a) → AgreeAt s (K.nodes b) (K'.nodes b)
    → RestBoth T K q i a b s → RestBoth T K' q i a b s
frame_both T K K' q i a b s I A B rest = record {
  up = within_agrees _ (at K i) _ (at K' i) s
      (output_agrees (at K i) (at K a) (at K b) (at K' i) (at K' a) (at K' b) s gate left right) gate rest.up;
  left = within_agrees _ (at K a) _ (at K' a) s (input_agrees (at K i) (at K b) (at K' i) (at K' b) s gate right) left
      rest.left;
  right = within_agrees _ (at K b) _ (at K' b) s (input_agrees (at K i) (at K a) (at K' i) (at K' a) s gate left) right
      rest.right;
}
  where
    at : Knowledge → ℕ → Row
    at K k = turn (is_every q) (K.nodes k)

    gate : AgreeAt s (at K i) (at K' i)
    gate = turned_agrees (is_every q) _ _ s I

    left : AgreeAt s (at K a) (at K' a)
    left = turned_agrees (is_every q) _ _ s A

    right : AgreeAt s (at K b) (at K' b)
    right = turned_agrees (is_every q) _ _ s B

-- a gate whose inputs may be the same node
frame_gate : (T : Table) (K K' : Knowledge) (q : Quantifier) (i a b s : ℕ) (one : Bool)
    → AgreeAt s (K.nodes i) (K'.nodes i) → AgreeAt s (K.nodes a) (K'.nodes a) → AgreeAt s (K.nodes b) (K'.nodes b)
    → cond one (RestSame T K (K.nodes i) (K.nodes a) s) (RestBoth T K q i a b s)
    → cond one (RestSame T K' (K'.nodes i) (K'.nodes a) s) (RestBoth T K' q i a b s)
frame_gate T K K' q i a b s true I A B = frame_same T K K' (K.nodes i) (K.nodes a) (K'.nodes i) (K'.nodes a) s I A
frame_gate T K K' q i a b s false I A B = frame_both T K K' q i a b s I A B

-- ---- a node without levels, and a level

module _ (T : Table) (wf : Wellformed T) (K K' : Knowledge) (small : Small K) (small' : Small K') (ours : OfTable T K)
    (more : More K K')
    (s : ℕ) (h : s < length T.states) where
  over_small : (K : Knowledge) (q : Quantifier) (end : Row) → SmallRow (ahead_of T K q end)
  over_small K q end = turned_small (is_every q) _
      (ahead_small (target_set T.steps) K.steps (length T.states) _ (omega (arith, wf.few_states)))

  frame_next : (q : Quantifier) (i a : ℕ) → K'.steps s ≡ K.steps s → AgreeAt s (K.nodes i) (K'.nodes i)
      → AgreeOn (target_set T.steps s) (K.nodes a) (K'.nodes a) → RestNode T K i (next q a) s
      → RestNode T K' i (next q a) s
  frame_next q i a steps I A (up, back) =
      let over = ahead_agrees T K K' small q (K.nodes a) (K'.nodes a) (small.nodes a) (small'.nodes a) s h steps A
      (ours s h) in (
        within_agrees _ (K.nodes i) _ (K'.nodes i) s over I up,
        frame_back T K K' small s steps (K.nodes a) (K'.nodes a) (small.nodes a) (small'.nodes a) A (more.nodes a) q _ _
            (new_agrees (K.nodes i) _ (K'.nodes i) _ s (over_small K q _) (over_small K' q _) I over)
            back,
      )

  frame_level : (fam : Family) (q : Quantifier) (i a b m : ℕ) → K'.steps s ≡ K.steps s
      → AgreeAt s (K.nodes a) (K'.nodes a) → AgreeAt s (K.nodes b) (K'.nodes b)
      → AgreeAt s (K.levels i (suc m)) (K'.levels i (suc m))
      → AgreeOn (target_set T.steps s) (K.levels i m) (K'.levels i m)
      → RestLevel T K fam q a b (K.levels i (suc m)) (K.levels i m) s
      → RestLevel T K' fam q a b (K'.levels i (suc m)) (K'.levels i m) s
  frame_level fam q i a b m steps A B L below rest = record {
    inner_clear = clear_agrees _ _ s join.inner rest.inner_clear;
    ahead_clear = clear_agrees _ _ s join.ahead rest.ahead_clear;
    up = within_agrees _ (K.levels i (suc m)) _ (K'.levels i (suc m)) s join.level L rest.up;
    left = within_agrees _ (K.nodes a) _ (K'.nodes a) s join.a A rest.left;
    right = within_agrees _ (K.nodes b) _ (K'.nodes b) s join.b B rest.right;
    back = frame_back T K K' small s steps (K.levels i m) (K'.levels i m) (small.levels i m) (small'.levels i m) below
        (more.levels i m) q _ _
        join.more rest.back;
    clear = clear_agrees _ _ s L rest.clear;
  }
    where
      over : AgreeAt s (ahead_of T K q (K.levels i m)) (ahead_of T K' q (K'.levels i m))
      over = ahead_agrees T K K' small q _ _ (small.levels i m) (small'.levels i m) s h steps below (ours s h)

      join : JoinAgrees s
          (join_level T K fam q a b (K.levels i (suc m)) (K.levels i m))
          (join_level T K' fam q a b (K'.levels i (suc m)) (K'.levels i m))
          (inner_level T K fam q a b (K.levels i (suc m)) (K.levels i m))
          (inner_level T K' fam q a b (K'.levels i (suc m)) (K'.levels i m))
      join = join_agrees fam (K.levels i (suc m)) (K.nodes a) (K.nodes b) _ (K'.levels i (suc m)) (K'.nodes a)
          (K'.nodes b) _ s
          (over_small K q _) (over_small K' q _) L A B over

-- a child is found by comparing its number with itself
self : (a : ℕ) → eqb a a ≡ true
self a = eq-eqb a a refl

-- what is known one way at s still is
own_clear : (K K' : Knowledge) (i s : ℕ) → AgreeAt s (K.nodes i) (K'.nodes i) → ClearAt s (K.nodes i)
    → ClearAt s (K'.nodes i)
own_clear K K' i s = clear_agrees (K.nodes i) (K'.nodes i) s

pub frame_cell : (T : Table) (wf : Wellformed T) (K K' : Knowledge) → Small K → Small K' → OfTable T K → More K K'
    → (i m s : ℕ) → s < length T.states
    → (o : Operator) → SameCell T K K' i m o s → RestCell T K i m o s → RestCell T K' i m o s
frame_cell T wf K K' small small' ours more i m s h (constant b) same
    rest = (λ sign k. more.nodes i s sign (rest.0 sign k), own_clear K K' i s (same.own refl) rest.1)
frame_cell T wf K K' small small' ours more i m s h (atom p) same
    rest = (λ sign k. more.nodes i s sign (rest.0 sign k), own_clear K K' i s (same.own refl) rest.1)
frame_cell T wf K K' small small' ours more i m s h (negation a) same rest = (
  frame_same T K K' (K.nodes i) _ (K'.nodes i) _ s (same.own refl)
      (turned_agrees false (K.nodes a) (K'.nodes a) s (same.child a (self a))) rest.0,
  own_clear K K' i s (same.own refl) rest.1,
)
frame_cell T wf K K' small small' ours more i m s h (conjunction a b) same rest = (
  frame_gate T K K' every i a b s (eqb a b) (same.own refl) (same.child a (or_left _ _ (self a)))
      (same.child b (or_right (eqb a b) _ (self b))) rest.0,
  own_clear K K' i s (same.own refl) rest.1,
)
frame_cell T wf K K' small small' ours more i m s h (disjunction a b) same rest = (
  frame_gate T K K' some i a b s (eqb a b) (same.own refl) (same.child a (or_left _ _ (self a)))
      (same.child b (or_right (eqb a b) _ (self b))) rest.0,
  own_clear K K' i s (same.own refl) rest.1,
)
frame_cell T wf K K' small small' ours more i m s h (next q a) same rest = (
  frame_next T wf K K' small small' ours more s h q i a (same.steps refl) (same.own refl) (same.ends refl a (self a))
      rest.0,
  own_clear K K' i s (same.own refl) rest.1,
)
frame_cell T wf K K' small small' ours more i m s h (fixpoint fam q a b) same rest =
    frame_level T wf K K' small small' ours more s h fam q i a b m (same.steps refl)
    (same.child a (or_left _ _ (self a))) (same.child b (or_right (eqb a b) _ (self b))) (same.levels refl).0
    (same.levels refl).1 rest

-- ---- all cells that are not to be looked at

pub frame : (T : Table) (wf : Wellformed T) (looks looks' : List ℕ) (K K' : Knowledge) → Small K → Small K'
    → OfTable T K → More K K'
    → ((k s : ℕ) → member (get_or looks k 0) s ≡ true → member (get_or looks' k 0) s ≡ true)
    → Noted T looks' K K' → Watched T looks K → Watched T looks' K'
frame T wf looks looks' K K' small small' ours more wider noted watched = record {
  kept = λ s h n. frame_kept T K K' more s (noted.kept s h n) (watched.kept s h (before 0 s n));
  nodes = λ i m l few s h n.
      frame_cell T wf K K' small small' ours more i m s h (operator_of (node_at T i)) (noted.nodes i m l few s h n)
      (watched.nodes i m l few s h (before (first_word T i + m) s n));
}
  where
    -- a cell that is not in its word now was not in it before
    before : (k s : ℕ) → member (get_or looks' k 0) s ≡ false → member (get_or looks k 0) s ≡ false
    before k s n = not_so _ (λ e. true≢false (sym (wider k s e) ∙ n))
