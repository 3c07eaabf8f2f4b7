-- Going back from N advances the memory: at each state in turn its steps get what N adds to them, and then the row of
-- the ends gets what came for it. Where nothing was added, N at each state adds nothing to its steps, nor to the
-- ends.
use Prim.Native.Nat.{ℕ, zero, suc, ◌^◌, ◌≤◌, ◌<◌}
use native.Mathlib.Nat.{not-suc-le-zero}
use native.Mathlib.Omega.{arith}
use mathlib.Core.Path.{◌≡◌, refl, sym, subst, ◌∙◌}
use mathlib.Core.Bool.{Bool, true, false, cond, ◌&&◌, true≢false, false≢true}
use mathlib.Core.List.{List}
use borrow.Author.Count.{below_more}
use lib.Bits.{bit_and}
use lib.ListN.{length, get_or}
use Rattle.sets.specs.Member.{member}
use Rattle.sets.proofs.Laws.{member-zero}
use Rattle.table.specs.Table.{Table}
use Rattle.table.specs.Facts.{Wellformed}
use Rattle.table.specs.Rows.{target_set}
use Rattle.table.proofs.Bools.{and_parts}
use Rattle.ctl.specs.Rule.{Quantifier}
use Rattle.circuit.specs.Logic.{Literal}
use Rattle.circuit.specs.Variables.{Var}
use Rattle.rows.specs.declared.row.Row.{Row}
use Rattle.rows.specs.Row.{known, turn, only, Within, union}
use Rattle.rows.specs.Rules.{row, is_none, unmet, last_left, back_steps, back_end}
use Rattle.closure.specs.Dual.{is_every}
use Rattle.rows.specs.Words.{row_at, SmallRow, step_place}
use Rattle.closure.specs.Knowledge.{Knowledge, knowledge, Sized}
use Rattle.propagate.specs.Memory.{Memory, memory, Stepped, failing, go_back, go_back_more, add_step}
use Rattle.closure.specs.KnowledgeIn.{RowIn, StepsIn, KnowledgeIn}
use Rattle.propagate.specs.Back.{back_rows, back_row, back_report}
use Rattle.rows.proofs.RowLaws.{cond-true, turned_small}
use Rattle.closure.specs.Advance.{ForcedBy}
use Rattle.closure.proofs.Ends.{target_small}
use Rattle.closure.proofs.TurnedRows.{turned-union, turned_within, within_left, within_right}
use Rattle.closure.proofs.RulesSmall.{none_small, back_steps_small, back_end_small}
use Rattle.closure.proofs.NewRows.{none_known}
use Rattle.closure.proofs.AheadSound.{back_steps_of}
use Rattle.closure.proofs.KnowledgeInLess.{advance_less}
use Rattle.closure.proofs.Advances.{Advances, advance_so, advance_then, advance_failing}
use Rattle.closure.proofs.AddAdvance.{union_small, rows_small}
use Rattle.closure.proofs.AddSound.{union_in}
use Rattle.closure.proofs.AddPlaces.{Given, advance_step}

-- what N at state s, known as A says, adds to its steps and to `end`, with t the ends of the steps; without its last
-- dual for `end`
module _ (q : Quantifier) (A E : Row) (t s : ℕ) (x : Row) where
  abbrev pub steps_by : Row
  steps_by =
      back_steps t x (turn (is_every q) E) (known (turn (is_every q) A) true s) (known (turn (is_every q) A) false s)

  abbrev pub end_by : Row
  end_by = back_end t x (turn (is_every q) E) (known (turn (is_every q) A) true s) (known (turn (is_every q) A) false s)

  steps_by_small : t < 2 ^ 32 → SmallRow x → SmallRow E → SmallRow steps_by
  steps_by_small h k l = back_steps_small t x (turn (is_every q) E) (known (turn (is_every q) A) true s)
      (known (turn (is_every q) A) false s) h k
      (turned_small (is_every q) E l)

  end_by_small : t < 2 ^ 32 → SmallRow x → SmallRow E → SmallRow end_by
  end_by_small h k l = back_end_small t x (turn (is_every q) E) (known (turn (is_every q) A) true s)
      (known (turn (is_every q) A) false s) h k
      (turned_small (is_every q) E l)

  -- where A knows nothing, neither is of any state
  module _ (none : is_none A ≡ true) where
    abbrev E' : Row
    E' = turn (is_every q) E

    not-true_at : known (turn (is_every q) A) true s ≡ true → ⊥
    not-true_at = none_known (is_every q) A none true s

    not-false_at : (b : Bool) → known (turn (is_every q) A) false s && b ≡ true → ⊥
    not-false_at b m = none_known (is_every q) A none false s (and_parts (known (turn (is_every q) A) false s) b m).0

    none_left : (u : ℕ) → member (last_left t x E' (known (turn (is_every q) A) false s)) u ≡ true → ⊥
    none_left u m = not-false_at (only (unmet t x E'))
        ((cond-true (known (turn (is_every q) A) false s && only (unmet t x E')) (unmet t x E') u).0 m).0

    none_steps : (r : Row) → Within steps_by r
    none_steps r u true m = absurd (none_left u m)
    none_steps r u false m =
        absurd (not-true_at ((cond-true (known (turn (is_every q) A) true s) (bit_and t E'.no) u).0 m).0)

    none_end : (r : Row) → Within end_by r
    none_end r u true m = absurd (not-true_at ((cond-true (known (turn (is_every q) A) true s) x.yes u).0 m).0)
    none_end r u false m = absurd (none_left u m)

-- state s adds nothing to its steps, and what it has for the ends is in r
abbrev pub BackRest : Table → Quantifier → Row → Row → Row → Knowledge → ℕ → Type 0
BackRest T q A E r K s = Within (steps_by q A E (target_set T.steps s) s (K.steps s)) (K.steps s)
    × Within (end_by q A E (target_set T.steps s) s (K.steps s)) r

-- ---- the steps

module _ (T : Table) (wf : Wellformed T) (targets : List ℕ) (ends : (s : ℕ) → s < 32
    → get_or targets s 0 ≡ target_set T.steps s)
    (q : Quantifier) (A E : Row) (E_small : SmallRow E) (M : Memory) (sized : Sized T M)
    (in_steps : Given T M (λ S. (s : ℕ) → s < length T.states → (x : Row) → SmallRow x → StepsIn T S s x
    → StepsIn T S s (back_steps_of T q s x E A))) where
  -- the rows after the states below k, and the row of the ends
  abbrev rows : ℕ → List ℕ
  rows k = back_rows targets (turn (is_every q) A) (turn (is_every q) E) M.rows k

  abbrev back : ℕ → Stepped
  back k = record {
    memory = memory (rows k) M.words;
    report = back_report targets (turn (is_every q) A) (turn (is_every q) E) M.rows k;
  }

  abbrev row_of : ℕ → Row
  row_of k = back_row targets (turn (is_every q) A) (turn (is_every q) E) M.rows k

  -- a state below n has its ends in the list
  ends_at : (k : ℕ) → k < length T.states → target_set T.steps k ≡ get_or targets k 0
  ends_at k l = sym (ends k (omega (arith, wf.few_states)))

  -- one state, from a memory that has all that M has
  one_advance : (k : ℕ) → k < length T.states → (N : Memory) → Sized T N
      → ((S : Literal Var → Type 0) → KnowledgeIn T S (knowledge T N) → KnowledgeIn T S (knowledge T M))
      → Advances T (λ K. Within (steps_by q A E (target_set T.steps k) k (K.steps k)) (K.steps k)) N
      (add_step k (steps_by q A E (get_or targets k 0) k (row_at N.rows (step_place k))) N)
  one_advance k l N sized-N less =
      let here = row_at N.rows (step_place k) in
      let small = rows_small T N sized-N (step_place k) in
      subst (λ (t : ℕ). Advances T (λ K. Within (steps_by q A E (target_set T.steps k) k (K.steps k)) (K.steps k)) N
      (add_step k (steps_by q A E t k here) N)) (ends_at k l)
      (advance_so T (λ z. z.0) (advance_step T wf N sized-N (steps_by q A E (target_set T.steps k) k here)
      (steps_by_small q A E (target_set T.steps k) k here (target_small T.steps k) small E_small) k l
      (λ P inside. in_steps P (less (ForcedBy T P) inside) k l here small (inside.steps k l))))

  -- what it has for the ends is in the row of them, which has what it had
  one_end : (k : ℕ) → k < length T.states
      → Within (end_by q A E (target_set T.steps k) k (row_at (rows k) (step_place k))) (row_of (suc k))
  unfolding back_row
  one_end k l =
      let here = row_at (rows k) (step_place k) in
      subst (λ (t : ℕ). Within (end_by q A E (target_set T.steps k) k here) (union (row_of k) (end_by q A E t k here)))
      (ends_at k l)
      (within_right (row_of k) (end_by q A E (target_set T.steps k) k here))

  row_next_lem : (k : ℕ) → Within (row_of k) (row_of (suc k))
  unfolding back_row
  row_next_lem k = within_left (row_of k) (end_by q A E (get_or targets k 0) k (row_at (rows k) (step_place k)))

  back_advance : (k : ℕ) → k ≤ length T.states
      → Advances T (λ K. (s : ℕ) → s < k → BackRest T q A E (row_of k) K s) M (back k)
  unfolding back_rows back_report
  back_advance zero l =
      advance_so T (λ e s h. absurd (not-suc-le-zero h)) (advance_failing T false M sized (λ e. absurd (false≢true e)))
  back_advance (suc k) l =
      let before = back_advance k (omega arith) in
      let now = advance_so T {Q = λ K. BackRest T q A E (row_of (suc k)) K k} (λ z. (z, one_end k l))
      (one_advance k l (memory (rows k) M.words) before.sized (advance_less before)) in
      advance_so T (λ z s h. below_more (BackRest T q A E (row_of (suc k)) (knowledge T M)) k
      (λ s g. ((z.0 s g).0, λ t sign m. row_next_lem k t sign ((z.0 s g).1 t sign m))) z.1 s
      (omega arith)) (advance_then T before now)

  -- ---- the row of the ends

  row_small : (k : ℕ) → k ≤ length T.states → SmallRow (row_of k)
  unfolding back_row
  row_small zero l = none_small
  row_small (suc k) l = union_small (row_of k) _ (row_small k (omega arith))
      (end_by_small q A E (get_or targets k 0) k (row_at (rows k) (step_place k))
      (rw (← ends_at k l) (target_small T.steps k))
      (rows_small T (memory (rows k) M.words) (back_advance k (omega arith)).sized (step_place k)) E_small)

  module _ (end : ℕ → Var)
      (in-ends : Given T M (λ S. (s : ℕ) → s < length T.states → (x : Row) → SmallRow x → StepsIn T S s x
      → RowIn T S end (turn (is_every q) (end_by q A E (target_set T.steps s) s x)))) where
    row_in : (k : ℕ) → k ≤ length T.states → Given T M (λ S. RowIn T S end (turn (is_every q) (row_of k)))
    unfolding back_row
    row_in zero l P inside = none (is_every q)
      where
        none : (e : Bool) → RowIn T (ForcedBy T P) end (turn e (row 0 0))
        none true true s m = absurd (true≢false (sym m ∙ member-zero s))
        none true false s m = absurd (true≢false (sym m ∙ member-zero s))
        none false true s m = absurd (true≢false (sym m ∙ member-zero s))
        none false false s m = absurd (true≢false (sym m ∙ member-zero s))
    row_in (suc k) l P inside =
        let before = back_advance k (omega arith) in
        let here = row_at (rows k) (step_place k) in
        let small = rows_small T (memory (rows k) M.words) before.sized (step_place k) in
        let one = in-ends P inside k l here small ((before.sound P inside).steps k l) in
        subst (RowIn T (ForcedBy T P) end)
        (sym (turned-union (is_every q) (row_of k) (end_by q A E (get_or targets k 0) k here)))
        (union_in T (ForcedBy T P) end _ _ (row_in k (omega arith) P inside)
        (subst (λ (t : ℕ). RowIn T (ForcedBy T P) end (turn (is_every q) (end_by q A E t k here))) (ends_at k l) one))

    pub go_back_advance : (end_row : Knowledge → Row) (add_end : Row → Memory → Stepped)
        → ((x : Row) → SmallRow x → (N : Memory) → Sized T N → Given T N (λ S. RowIn T S end x)
        → Advances T (λ K. Within x (end_row K)) N (add_end x N))
        → Advances T (λ K. (s : ℕ) → s < length T.states → BackRest T q A E (turn (is_every q) (end_row K)) K s) M
        (go_back targets (length T.states) (is_every q) A E add_end M)
    go_back_advance end_row add_end add =
        let n = length T.states in
        let steps = back_advance n (omega arith) in
        let last = add (turn (is_every q) (row_of n))
        (turned_small (is_every q) (row_of n) (row_small n (omega arith))) (memory (rows n) M.words) steps.sized
        (λ P inside. row_in n (omega arith) P (advance_less steps (ForcedBy T P) inside)) in
        advance_so T (λ z s l. (
          (z.0 s l).0,
          λ t sign m.
              turned_within (is_every q) (row_of n) (end_row (knowledge T M)) z.1 t sign ((z.0 s l).1 t sign m),
        )) (advance_then T steps last)

    -- where there is nothing to take back, nothing is done, and nothing had to be
    pub go_back_more_advance : (end_row : Knowledge → Row) (add_end : Row → Memory → Stepped)
        → ((x : Row) → SmallRow x → (N : Memory) → Sized T N → Given T N (λ S. RowIn T S end x)
        → Advances T (λ K. Within x (end_row K)) N (add_end x N))
        → Advances T (λ K. (s : ℕ) → s < length T.states → BackRest T q A E (turn (is_every q) (end_row K)) K s) M
        (go_back_more targets (length T.states) (is_every q) A E add_end M)
    go_back_more_advance end_row add_end add = go (is_none A) refl
      where
        go : (b : Bool) → is_none A ≡ b
            → Advances T (λ K. (s : ℕ) → s < length T.states → BackRest T q A E (turn (is_every q) (end_row K)) K s) M
            (cond b (failing false M) (go_back targets (length T.states) (is_every q) A E add_end M))
        go true none = advance_so T (λ z s l. (
          none_steps q A E (target_set T.steps s) s ((knowledge T M).steps s) none ((knowledge T M).steps s),
          none_end q A E (target_set T.steps s) s ((knowledge T M).steps s) none
              (turn (is_every q) (end_row (knowledge T M))),
        )) (advance_failing T false M sized (λ e. absurd (false≢true e)))
        go false some = go_back_advance end_row add_end add
