-- From sweeps to the closure: what the rows reached so far have, and what a last sweep makes of it.
use Prim.Native.Nat.{ℕ, suc, ◌+◌, ◌*◌, ◌-◌, ◌^◌, ◌≤◌, ◌<◌}
use native.Mathlib.Omega.{arith}
use mathlib.Core.Path.{◌≡◌, refl, sym, ap, subst, ◌∙◌}
use mathlib.Core.Bool.{Bool, true, false, cond, false≢true, true≢false}
use mathlib.Core.Logic.{◌↔◌, ⊎_elim}
use mathlib.Core.List.{List, [], ◌∷◌, Memᴰ}
use lib.Dec.{eqb}
use lib.ListN.{length, get_or}
use Rattle.std.specs.Prelude.{Option, None, Some}
use Rattle.table.specs.Table.{Table, step_at, node_at}
use Rattle.table.specs.Facts.{Wellformed}
use Rattle.table.proofs.Bools.{or_parts, or_left, or_right}
use Rattle.circuit.specs.Logic.{Literal}
use Rattle.circuit.specs.Variables.{Var, step, literal}
use Rattle.circuit.specs.Clauses.{clauses}
use Rattle.rows.specs.declared.row.Report.{Report}
use Rattle.rows.specs.Words.{row_at, SmallRow, step_place}
use Rattle.rows.specs.Steps.{step_settled}
use Rattle.ctl.specs.Rule.{operator_of}
use Rattle.closure.specs.Closure.{Fails}
use Rattle.closure.specs.Knowledge.{
  Knowledge,
  knowledge,
  Small,
  Sized,
  level_total,
  level_base,
  second_child,
  sum,
  total,
}
use Rattle.propagate.specs.Memory.{Memory, node_place}
use Rattle.closure.specs.Rest.{Rest}
use Rattle.closure.specs.KnowledgeIn.{KnowledgeIn}
use Rattle.closure.specs.Advance.{ForcedBy, Grows, Advance}
use Rattle.closure.specs.Settled.{Settles}
use Rattle.closure.specs.Closes.{step_known, rows_settled, Between, Closes, ClosesEvery}
use Rattle.closure.proofs.Ends.{target_true, same_ends}
use Rattle.closure.proofs.RestForced.{rest_forced}

-- ---- sizes

sum_bound : (xs : List ℕ) → ((k : ℕ) → get_or xs k 0 < 2 ^ 32) → sum xs ≤ length xs * 2 ^ 32
unfolding sum
sum_bound [] small = omega arith
sum_bound (x ∷ xs) small = omega (arith, small 0, sum_bound xs (λ k. small (suc k)))

-- the sum of all words of a sized memory
pub total_bound : {T : Table} (M : Memory) → Sized T M → total M ≤ (length M.rows + length M.words) * 2 ^ 32
total_bound M z = omega (arith, sum_bound M.rows z.small_rows, sum_bound M.words z.small_words)

small_row : {T : Table} {M : Memory} → Sized T M → (b : Bool) (k : ℕ) → SmallRow (row_at (cond b M.rows M.words) k)
small_row z true k = (z.small_rows k, z.small_rows (k + 1))
small_row z false k = (z.small_words k, z.small_words (k + 1))

pub small_knowledge : {T : Table} {M : Memory} → Sized T M → Small (knowledge T M)
small_knowledge {T} {M} z = record {
  steps = λ s. small_row z true (step_place s);
  kept = small_row z true 128;
  nodes = λ i. small_row z true (node_place i);
  levels = λ i m. pick (eqb m 0) (eqb m (length T.states)) i m;
}
  where
    pick : (x y : Bool) (i m : ℕ)
        → SmallRow (cond x (row_at M.rows (node_place (second_child (operator_of (node_at T i)))))
        (cond y (row_at M.rows (node_place i)) (row_at M.words (level_base T i + 2 * (m - 1)))))
    pick true y i m = small_row z true _
    pick false true i m = small_row z true _
    pick false false i m = small_row z false _

-- ---- what sweeps have done

module _ (T : Table) where
  -- from M₀ on, all bits stay, the words past the levels stay, and what is added is forced
  pub record Swept (M₀ M : Memory) : Type 0 where
    pub sized : Sized T M
    pub grows : Grows M₀.rows M.rows
    pub same_words_length : length M.words ≡ length M₀.words
    pub beyond : (k : ℕ) → level_total T ≤ k → get_or M.words k 0 ≡ get_or M₀.words k 0
    pub sound : (P : List (Literal Var)) → KnowledgeIn T (ForcedBy T P) (knowledge T M₀)
        → KnowledgeIn T (ForcedBy T P) (knowledge T M)

  pub swept_first : (M : Memory) → Sized T M → Swept M M
  swept_first M z = record {
    sized = z;
    grows = λ k s e. e;
    same_words_length = refl;
    beyond = λ k h. refl;
    sound = λ P i. i;
  }

  pub swept_more : {Q : Knowledge → Type 0} {M₀ M M' : Memory} {r : Report} → Swept M₀ M → Advance T Q M M' r
      → Swept M₀ M'
  swept_more swept more = record {
    sized = more.sized;
    grows = λ k s e. more.grows_rows k s (swept.grows k s e);
    same_words_length = more.same_words_length ∙ swept.same_words_length;
    beyond = λ k h. more.beyond k h ∙ swept.beyond k h;
    sound = λ P i. more.sound P (swept.sound P i);
  }

  known_grows : (rows rows' : List ℕ) → Grows rows rows' → (sign : Bool) (j : ℕ) → step_known T rows sign j ≡ true
      → step_known T rows' sign j ≡ true
  known_grows rows rows' g true j = g _ _
  known_grows rows rows' g false j = g _ _

  -- the rows still lie between P and its closure
  between_still : {M₀ M : Memory} → Swept M₀ M → (P : List (Literal Var)) → Between T P M₀ → Between T P M
  between_still {M₀} {M} swept P b = record {
    of_steps = b.of_steps;
    above = λ j sign i. known_grows M₀.rows M.rows swept.grows sign j (b.above j sign i);
    below = swept.sound P b.below;
  }

  closed_with : {M₀ M : Memory} (c : Option ℕ) → Swept M₀ M
      → ((P : List (Literal Var)) → Between T P M₀ → Closes T P c M) → ClosesEvery T c M₀ M
  closed_with c swept closes = record {
    sized = swept.sized;
    same_words_length = swept.same_words_length;
    beyond = swept.beyond;
    closes = closes;
  }

  -- a sweep that fails: something is forced both ways
  pub closed_failing : {Q : Knowledge → Type 0} {M₀ M M' : Memory} {r : Report} → Swept M₀ M → Advance T Q M M' r
      → r.fails ≡ true
      → ClosesEvery T None M₀ M'
  closed_failing swept more f = closed_with _ (swept_more swept more) (λ P b.
      let x = more.clash f P (swept.sound P b.below) in
      let fails : Fails (clauses T) (λ l. Memᴰ l P) = (literal true x.0, x.1, x.2) in
      record {
        fails_exact = (λ _. fails, λ _. refl);
        settled = record { failed = λ _. refl; counted = λ n. absurd (n fails) };
        between = between_still (swept_more swept more) P b;
        exact = λ e. absurd (true≢false e);
      })

  -- a sweep that adds nothing and does not fail: the rows are at rest
  module _ (wf : Wellformed T) where
    known_forced : (M : Memory) (P : List (Literal Var)) → KnowledgeIn T (ForcedBy T P) (knowledge T M)
        → (j : ℕ) (sign : Bool) → j < length T.steps
        → step_known T M.rows sign j ≡ true → ForcedBy T P (literal sign (step j))
    known_forced M P inside j sign h e =
        let x = inside.steps (step_at T j).from (wf.from_state j h) sign (step_at T j).to e in
        subst (λ (k : ℕ). ForcedBy T P (literal sign (step k))) (same_ends T wf x.0 j x.1 h x.2 x.3) x.4

    -- the steps that are settled in the rows, where the rows have exactly the closure's literals of steps
    settles_exact : (M : Memory) (P : List (Literal Var))
        → ((j : ℕ) (sign : Bool) → j < length T.steps
        → (step_known T M.rows sign j ≡ true) ↔ ForcedBy T P (literal sign (step j)))
        → (j : ℕ) → j < length T.steps
        → (step_settled M.rows (step_at T j) ≡ true) ↔ Settles (clauses T) (λ l. Memᴰ l P) (step j)
    settles_exact M P exact j h = (
      λ e. ⊎_elim (λ k. (true, (exact j true h).0 k)) (λ k. (false, (exact j false h).0 k))
          (or_parts (step_known T M.rows true j) (step_known T M.rows false j) e),
      back,
    )
      where
        back : Settles (clauses T) (λ l. Memᴰ l P) (step j) → step_settled M.rows (step_at T j) ≡ true
        back (true, f) = or_left (step_known T M.rows true j) (step_known T M.rows false j) ((exact j true h).1 f)
        back (false, f) = or_right (step_known T M.rows true j) (step_known T M.rows false j) ((exact j false h).1 f)

    module _ (count : ℕ) where
      rest_closes : (M : Memory) → Sized T M → Rest T (knowledge T M) → count ≡ rows_settled T M.rows
          → (P : List (Literal Var)) → Between T P M → Closes T P (Some count) M
      rest_closes M z rest counted P b =
          let all = rest_forced T wf (knowledge T M) (small_knowledge z) rest
          (λ s h t e. let x = b.below.steps s h true t e in (target_true T wf s t).1 (x.0, x.1, x.2, x.3)) P
          (λ l i. let x = b.of_steps l i in (x.0, x.1, x.2, held l i x.0 x.2)) in
          let exact : (j : ℕ) (sign : Bool) → j < length T.steps
          → (step_known T M.rows sign j ≡ true) ↔ ForcedBy T P (literal sign (step j)) =
          λ j sign h. (known_forced M P b.below j sign h, all.1 j sign h) in
          record {
            fails_exact = (λ e. absurd (false≢true e), λ f. absurd (all.0 f));
            settled = record {
              failed = λ f. absurd (all.0 f);
              counted = λ _. (λ j. step_settled M.rows (step_at T j), settles_exact M P exact, counted);
            };
            between = b;
            exact = λ _. exact;
          }
        where
          held : (l : Literal Var) → Memᴰ l P → (j : ℕ) → l.var ≡ step j → step_known T M.rows l.sign j ≡ true
          held l i j e =
              b.above j l.sign (subst (λ (k : Literal Var). Memᴰ k P) (λ t. record { sign = l.sign; var = e t }) i)

      pub closed_resting : {M₀ M M' : Memory} {r : Report} → Swept M₀ M → Advance T (Rest T) M M' r → r.fails ≡ false
          → r.changed ≡ false
          → count ≡ rows_settled T M'.rows
          → ClosesEvery T (Some count) M₀ M'
      closed_resting {M₀} {M} {M'} swept more f c counted =
          let same = more.unchanged c in
          subst (ClosesEvery T (Some count) M₀) (sym same)
          (closed_with _ swept (λ P b. rest_closes M swept.sized (more.quiet c f)
          (counted ∙ ap (λ (N : Memory). rows_settled T N.rows) same) P (between_still swept P b)))
