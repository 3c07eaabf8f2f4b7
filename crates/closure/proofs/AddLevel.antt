-- A forced row added to a level of a fixed-point node advances the memory, whether it lies with the second child,
-- with the node itself, or in the words.
use Prim.Native.Nat.{ℕ, ◌+◌, ◌*◌, ◌-◌, ◌≤◌, ◌<◌}
use native.Mathlib.Omega.{arith}
use native.Mathlib.Decide.{dec_lt, ℕ_discrete}
use mathlib.Core.Path.{◌≡◌, refl, sym, ap, subst, ◌∙◌}
use mathlib.Core.Bool.{Bool, true, false, cond}
use mathlib.Core.Logic.{inl, inr}
use borrow.Author.Tests.{eqb-true, eqb-false}
use lib.Dec.{eqb}
use lib.ListN.{length}
use Rattle.table.specs.declared.operator.Family.{Family}
use Rattle.table.specs.Table.{Table, node_at}
use Rattle.table.specs.Facts.{Wellformed}
use Rattle.ctl.specs.Rule.{Quantifier, fixpoint as fixpoint_of, operator_of}
use Rattle.circuit.specs.Logic.{Literal}
use Rattle.circuit.specs.Variables.{Var, level}
use Rattle.rows.specs.declared.row.Row.{Row}
use Rattle.propagate.specs.declared.level.Fixpoint.{Fixpoint}
use Rattle.rows.specs.Words.{row_at, SmallRow}
use Rattle.readers.specs.Readers.{first_word}
use Rattle.closure.specs.Knowledge.{Sized, second_child, level_size, level_base, level_total}
use Rattle.propagate.specs.Memory.{Memory, node_place, add_row, add_word}
use Rattle.closure.specs.KnowledgeIn.{RowIn}
use Rattle.closure.specs.Advance.{ForcedBy}
use Rattle.propagate.specs.Level.{fixpoint_at, add_level}
use Rattle.closure.proofs.ClashSound.{clash_in}
use Rattle.closure.proofs.LevelsFit.{level_apart, level-place}
use Rattle.closure.proofs.NodeSound.{in_first, in_last}
use Rattle.propagate.proofs.AddedRow.{Apart}
use Rattle.closure.proofs.Advances.{Advances, advance_so}
use Rattle.closure.proofs.AddAdvance.{Quiet, union_small, words_small, add_word_lem}
use Rattle.closure.proofs.AddSound.{union_in, Suits, joined_so}
use Rattle.closure.proofs.AddPlaces.{Given, closed, advance_node}
use Rattle.closure.proofs.KnowledgeInParts.{fixpoint_below, word_place, inner_of, inside_of}

-- the node, its children, where its levels lie, and where their words do
abbrev pub fixpoint : Table → Family → ℕ → Bool → ℕ → ℕ → Fixpoint
fixpoint T fam i e a b = fixpoint_at fam i e a b (level_base T i) (first_word T i)

module _ (T : Table) (i : ℕ) (fam : Family) (q : Quantifier) (a b : ℕ) (h : i < length T.nodes)
    (op : operator_of (node_at T i) ≡ fixpoint_of fam q a b)
    (m : ℕ) (some : 0 < m) (few : m < length T.states) where
  -- a word place lies in the words
  word_fits : word_place T i m + 1 < level_total T
  word_fits = omega (arith, level-place T i fam q a b h op)

  -- apart from those of the other levels
  word_apart : (k : ℕ) (fam' : Family) (r : Quantifier) (c d : ℕ) → k < length T.nodes
      → operator_of (node_at T k) ≡ fixpoint_of fam' r c d
      → (j : ℕ) → 0 < j → j < length T.states → ¬ ((k ≡ i) × (j ≡ m)) → Apart (word_place T k j) (word_place T i m)
  word_apart k fam' r c d l o j some-j few-j differ = go (dec_lt k i) (dec_lt i k) (dec_lt j m)
    where
      size : (k : ℕ) (fam' : Family) (r : Quantifier) (c d : ℕ) → operator_of (node_at T k) ≡ fixpoint_of fam' r c d
          → level_size (length T.states) (operator_of (node_at T k)) ≡ 2 * (length T.states - 1)
      size k fam' r c d o = ap (level_size (length T.states)) o

      go : Dec (k < i) → Dec (i < k) → Dec (j < m) → Apart (word_place T k j) (word_place T i m)
      go (yes p) y z = inl (omega (arith, level_apart T k i p h, size k fam' r c d o))
      go (no p) (yes y) z = inr (omega (arith, level_apart T i k y l, size i fam q a b op))
      go (no p) (no y) (yes z) = let e : k ≡ i = omega (arith, p, y) in inl (omega (arith, ap (level_base T) e))
      go (no p) (no y) (no z) =
          let e : k ≡ i = omega (arith, p, y) in let f : ¬ (j ≡ m) =
          λ f. differ (e, f) in inr (omega (arith, ap (level_base T) e, z, f))

module _ (T : Table) (wf : Wellformed T) (M : Memory) (sized : Sized T M) (x : Row) (small : SmallRow x)
    (i : ℕ) (fam : Family) (q : Quantifier) (a b : ℕ) (h : i < length T.nodes)
    (op : operator_of (node_at T i) ≡ fixpoint_of fam q a b) where
  advance_word : (m : ℕ) → 0 < m → m < length T.states → Given T M (λ S. RowIn T S (level i m) x)
      → Advances T (λ K. Quiet x (row_at M.words (word_place T i m))) M (add_word (word_place T i m) x M)
  advance_word m some few given =
      add_word_lem T M sized (word_place T i m) x small (word_fits T i fam q a b h op m some few) (record {
        keeps = λ P inside. inside_of T wf (ForcedBy T P) (closed T P) (add_word (word_place T i m) x M).memory
            inside.steps inside.kept inside.nodes
            (λ k fam' r c d j l o s f. joined_so (RowIn T (ForcedBy T P) (level k j))
            (union_in T (ForcedBy T P) (level k j)) M.words (word_place T i m) x fits
            (word_place T k j) (suits (ForcedBy T P) (given P inside) k fam' r c d j l o s f (ℕ_discrete k i)
            (ℕ_discrete j m))
            (inner_of T wf (ForcedBy T P) (closed T P) M inside k fam' r c d j l o s f));
        clash = λ c P inside. clash_in T wf (ForcedBy T P) (closed T P) (level i m) _
            (union_small _ x (words_small T M sized (word_place T i m)) small)
            (union_in T (ForcedBy T P) (level i m) _ x
            (inner_of T wf (ForcedBy T P) (closed T P) M inside i fam q a b m h op some few) (given P inside)) c;
      })
    where
      fits : word_place T i m + 1 < length M.words
      fits = omega (arith, word_fits T i fam q a b h op m some few, sized.words_size)

      suits : (S : Literal Var → Type 0) → RowIn T S (level i m) x
          → (k : ℕ) (fam' : Family) (r : Quantifier) (c d j : ℕ) → k < length T.nodes
          → operator_of (node_at T k) ≡ fixpoint_of fam' r c d → 0 < j → j < length T.states
          → Dec (k ≡ i) → Dec (j ≡ m) → Suits (RowIn T S (level k j)) x (word_place T i m) (word_place T k j)
      suits S added k fam' r c d j l o s f (yes e) (yes g) = inr (
        ap (λ (y : ℕ). word_place T y j) e ∙ ap (word_place T i) g,
        subst (λ (y : ℕ). RowIn T S (level y j) x) (sym e) (subst (λ (y : ℕ). RowIn T S (level i y) x) (sym g) added),
      )
      suits S added k fam' r c d j l o s f (yes e) (no g) =
          inl (word_apart T i fam q a b h op m some few k fam' r c d l o j s f (λ z. g z.1))
      suits S added k fam' r c d j l o s f (no e) g =
          inl (word_apart T i fam q a b h op m some few k fam' r c d l o j s f (λ z. e z.0))

  pub advance_level : (e : Bool) (m : ℕ) → m ≤ length T.states → Given T M (λ S. RowIn T S (level i m) x)
      → Advances T (λ K. Quiet x (K.levels i m)) M (add_level (length T.states) (fixpoint T fam i e a b) m x M)
  advance_level e m few given = advance_so T (λ z. z) (go (eqb m 0) (eqb m (length T.states)) refl refl)
    where
      go : (p z : Bool) → eqb m 0 ≡ p → eqb m (length T.states) ≡ z
          → Advances T (λ K. Quiet x
          (cond p (row_at M.rows (node_place (second_child (operator_of (node_at T i)))))
          (cond z (row_at M.rows (node_place i)) (row_at M.words (word_place T i m)))))
          M (cond p (add_row (node_place b) x M)
          (cond z (add_row (node_place i) x M) (add_word (word_place T i m) x M)))
      go true z f g =
          advance_so T (subst (λ (k : ℕ). Quiet x (row_at M.rows (node_place k))) (sym (ap second_child op)))
          (advance_node T wf M sized x small b (omega (arith, (fixpoint_below T wf i fam q a b h op).1))
          (λ P inside. in_first T wf (ForcedBy T P) (closed T P) i h fam q a b op x
          (subst (λ (k : ℕ). RowIn T (ForcedBy T P) (level i k) x) (eqb-true m 0 f) (given P inside))))
      go false true f g = advance_so T (λ z. z) (advance_node T wf M sized x small i h
          (λ P inside. in_last T wf (ForcedBy T P) (closed T P) i h fam q a b op x
          (subst (λ (k : ℕ). RowIn T (ForcedBy T P) (level i k) x) (eqb-true m (length T.states) g) (given P inside))))
      go false false f g =
          advance_word m (omega (arith, eqb-false m 0 f)) (omega (arith, eqb-false m (length T.states) g)) given
