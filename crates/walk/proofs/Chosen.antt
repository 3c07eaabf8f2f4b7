-- One step literal more: the rows with its bit lie between the literals with it and their closure.
use Prim.Native.Nat.{ℕ, ◌+◌, ◌*◌, ◌-◌, ◌^◌, ◌≤◌, ◌<◌}
use mathlib.Core.Path.{◌≡◌, refl, sym, ap, ◌∙◌}
use mathlib.Core.Bool.{Bool, true, false, cond}
use mathlib.Core.Logic.{◌⊎◌, inl, inr, ⊎_elim}
use mathlib.Core.List.Memᴰ
use mathlib.Core.List.{List, ◌∷◌, Memᴰ}
use native.Mathlib.Decide.{ℕ_discrete}
use native.Mathlib.Omega.{arith}
use lib.Dec.{eqb}
use lib.ListN.{length, get_or, length-set}
use lib.Seq.{get_or-set_same, get_or-set_other}
use Rattle.sets.specs.Member.{member}
use Rattle.sets.proofs.SetOf.{set_of-lt}
use Rattle.table.specs.Table.{Table, step_at, node_at}
use Rattle.table.specs.Facts.{Wellformed}
use Rattle.circuit.specs.Logic.{Literal}
use Rattle.circuit.specs.Variables.{Var, step, literal}
use Rattle.rows.specs.declared.row.Row.{Row}
use Rattle.closure.specs.Closure.{given}
use Rattle.rows.specs.Row.{known}
use Rattle.rows.specs.Words.{row_at, step_place}
use Rattle.rows.specs.Steps.{word_of}
use Rattle.rows.proofs.StepWords.{word_below, word_bit, word_apart}
use Rattle.ctl.specs.Rule.{operator_of}
use Rattle.closure.specs.Knowledge.{Sized, second_child, level_base}
use Rattle.propagate.specs.Memory.{node_place, kept_place, memory}
use Rattle.closure.specs.KnowledgeIn.{RowIn, StepsIn}
use Rattle.closure.specs.Advance.{ForcedBy}
use Rattle.closure.specs.Closes.{step_known, Between}
use Rattle.closure.proofs.Forced.{forced_monotone}
use Rattle.search.specs.StepRows.{with_step}
use Rattle.search.specs.Fine.{step_literals}
use Rattle.walk.proofs.OneMore.{more, more_only, more_keeps, more_new}

module _ (T : Table) (wf : Wellformed T) (rows words : List ℕ) (sized : Sized T (memory rows words)) (sign : Bool)
    (j : ℕ) (inside : j < length T.steps) where
  -- the rows with step j of this sign, and the word that changes
  next : List ℕ
  next = with_step T rows sign j

  at : ℕ
  at = word_of sign (step_at T j).from

  at_below : at < 64
  unfolding at
  at_below = word_below sign (step_at T j).from (omega (arith, wf.from_state j inside, wf.few_states))

  word_same : get_or next at 0 ≡ more (get_or rows at 0) (step_at T j).to
  unfolding next at
  word_same = get_or-set_same rows at _ 0 (omega (arith, at_below, sized.rows_size))

  word_other : (k : ℕ) → ¬ (k ≡ at) → get_or next k 0 ≡ get_or rows k 0
  unfolding next at
  word_other k d = get_or-set_other rows at k _ 0 d

  -- each bit of a word was there, or is the step's
  next_only : (k t : ℕ) → member (get_or next k 0) t ≡ true
      → (member (get_or rows k 0) t ≡ true) ⊎ ((k ≡ at) × (t ≡ (step_at T j).to))
  next_only k t e = go (ℕ_discrete k at)
    where
      go : Dec (k ≡ at) → (member (get_or rows k 0) t ≡ true) ⊎ ((k ≡ at) × (t ≡ (step_at T j).to))
      go (yes p) = rw p (⊎_elim inl (λ q. inr (refl, q))
          (more_only (get_or rows at 0) (step_at T j).to t
          (sym (ap (λ (w : ℕ). member w t) (ap (λ (i : ℕ). get_or next i 0) p ∙ word_same)) ∙ e)))
      go (no d) = inl (sym (ap (λ (w : ℕ). member w t) (word_other k d)) ∙ e)

  next_keeps : (k t : ℕ) → member (get_or rows k 0) t ≡ true → member (get_or next k 0) t ≡ true
  next_keeps k t e = go (ℕ_discrete k at)
    where
      go : Dec (k ≡ at) → member (get_or next k 0) t ≡ true
      go (yes p) =
          rw (p, word_same) (more_keeps (get_or rows at 0) (step_at T j).to (sized.small_rows at) t (rw p at e))
      go (no d) = ap (λ (w : ℕ). member w t) (word_other k d) ∙ e

  next_new : member (get_or next at 0) (step_at T j).to ≡ true
  next_new =
      rw word_same (more_new (get_or rows at 0) (step_at T j).to (omega (arith, wf.to_state j inside, wf.few_states)))

  -- ---- rows

  -- the other rows stay
  pub row_other : (p : ℕ) → 64 ≤ p → row_at (with_step T rows sign j) p ≡ row_at rows p
  unfolding next
  row_other p h = λ i. record {
    yes = word_other p (omega (arith, at_below)) i;
    no = word_other (p + 1) (omega (arith, at_below)) i;
  }

  -- and the step rows of other states
  pub step_row_other : (s : ℕ) → ¬ (s ≡ (step_at T j).from)
      → row_at (with_step T rows sign j) (step_place s) ≡ row_at rows (step_place s)
  unfolding next at
  step_row_other s d = λ i. record {
    yes = word_other (word_of true s) (λ e. d (word_apart true sign s (step_at T j).from e).1) i;
    no = word_other (word_of false s) (λ e. d (word_apart false sign s (step_at T j).from e).1) i;
  }

  step_only : (a : Bool) (s t : ℕ) → known (row_at next (step_place s)) a t ≡ true
      → (known (row_at rows (step_place s)) a t ≡ true)
      ⊎ ((sign ≡ a) × ((step_at T j).from ≡ s) × ((step_at T j).to ≡ t))
  unfolding at
  step_only a s t e = ⊎_elim
      (λ o. inl (sym (word_bit rows a s t) ∙ o))
      (λ n. let p = word_apart a sign s (step_at T j).from n.0 in inr (sym p.0, sym p.1, sym n.1))
      (next_only (word_of a s) t (word_bit next a s t ∙ e))

  step_keeps : (a : Bool) (s t : ℕ) → known (row_at rows (step_place s)) a t ≡ true
      → known (row_at next (step_place s)) a t ≡ true
  step_keeps a s t e = sym (word_bit next a s t) ∙ next_keeps (word_of a s) t (word_bit rows a s t ∙ e)

  step_new : step_known T next sign j ≡ true
  unfolding at
  step_new = sym (word_bit next sign (step_at T j).from (step_at T j).to) ∙ next_new

  -- ---- what they lie between

  module _ (P : List (Literal ℕ)) (b : Between T (step_literals P) (memory rows words)) where
    -- the literals with the new one
    abbrev Q : List (Literal Var)
    Q = step_literals (record { sign = sign; var = j } ∷ P)

    wider : {l : Literal Var} → ForcedBy T (step_literals P) l → ForcedBy T Q l
    wider = forced_monotone (λ l. Memᴰ.tail)

    row_wider : (v : ℕ → Var) (r q : Row) → q ≡ r → RowIn T (ForcedBy T (step_literals P)) v r
        → RowIn T (ForcedBy T Q) v q
    row_wider v r q same row a s e = let h = row a s (sym (ap (λ (x : Row). known x a s) same) ∙ e) in (h.0, wider h.1)

    in_steps : (s : ℕ) → s < length T.states → StepsIn T (ForcedBy T Q) s (row_at next (step_place s))
    in_steps s h a t e = ⊎_elim
        (λ o. let r = b.below.steps s h a t o in (r.0, r.1, r.2, r.3, wider r.4))
        (λ n. (j, inside, n.1, n.2, given (Memᴰ.head (λ i. literal (sym n.0 i) (step j)))))
        (step_only a s t e)

    chosen_above : (i : ℕ) (a : Bool) → Memᴰ (literal a (step i)) Q → step_known T next a i ≡ true
    chosen_above i a m = ⊎_elim
        (λ e. let v : step i ≡ step j = ap (λ (l : Literal Var). l.var) e in let p : i ≡ j = cc in let q : a
        ≡ sign = ap (λ (l : Literal Var). l.sign) e in rw (p, q) step_new)
        (λ o. step_keeps a (step_at T i).from (step_at T i).to (b.above i a o))
        (Memᴰ.cases_cons m)

    pub chosen_between : Between T Q (memory (with_step T rows sign j) words)
    unfolding next
    chosen_between = record {
      of_steps = λ l m. ⊎_elim (λ e. (j, inside, ap (λ (k : Literal Var). k.var) e)) (b.of_steps l) (Memᴰ.cases_cons m);
      above = chosen_above;
      below = record {
        steps = in_steps;
        kept = row_wider _ _ _ (row_other kept_place (omega arith)) b.below.kept;
        nodes = λ i h. row_wider _ _ _ (row_other (node_place i) (omega arith)) (b.below.nodes i h);
        levels = λ i fam q x y m h o l. row_wider _ _ _
            (λ k. cond (eqb m 0) (row_other (node_place (second_child (operator_of (node_at T i)))) (omega arith) k)
            (cond (eqb m (length T.states)) (row_other (node_place i) (omega arith) k)
            (row_at words (level_base T i + 2 * (m - 1)))))
            (b.below.levels i fam q x y m h o l);
      };
    }

  -- their size
  pub chosen_sized : Sized T (memory (with_step T rows sign j) words)
  unfolding next
  chosen_sized = record {
    rows_size = length-set rows _ _ ∙ sized.rows_size;
    words_size = sized.words_size;
    small_rows = small;
    small_words = sized.small_words;
  }
    where
      small : (k : ℕ) → get_or next k 0 < 2 ^ 32
      small k = go (ℕ_discrete k at)
        where
          go : Dec (k ≡ at) → get_or next k 0 < 2 ^ 32
          go (yes p) = rw (p, word_same) (set_of-lt 32 _)
          go (no d) = rw (word_other k d) (sized.small_rows k)
