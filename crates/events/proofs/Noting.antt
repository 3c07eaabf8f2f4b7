-- Where the readers of every change are in their words, what a cell that is not in its word reads has not changed.
use Prim.Native.Nat.{ℕ, suc, ◌+◌, ◌*◌, ◌-◌, ◌<◌}
use native.Mathlib.Omega.{arith}
use mathlib.Core.Path.{◌≡◌, refl, sym, ap, ◌∙◌}
use mathlib.Core.Bool.{Bool, true, false, cond, true≢false, false≢true}
use mathlib.Core.Logic.{◌⊎◌, ⊎_elim}
use mathlib.Core.List.{List}
use borrow.Author.Tests.{eqb-true, eqb-false, eq-eqb}
use lib.Dec.{eqb}
use lib.ListN.{length, get_or}
use Rattle.sets.specs.Member.{member}
use Rattle.table.specs.Table.{Table, node_at}
use Rattle.table.specs.Facts.{Wellformed}
use Rattle.table.specs.Rows.{target_set}
use Rattle.table.proofs.Bools.{or_right}
use Rattle.ctl.specs.Rule.{Operator, constant, atom, negation, conjunction, disjunction, next, fixpoint, operator_of}
use Rattle.ctl.proofs.BottomUp.{children_below}
use Rattle.rows.specs.Row.{known}
use Rattle.rows.specs.Words.{row_at}
use Rattle.propagate.specs.declared.adding.RowOf.TheVariants.{Level}
use Rattle.propagate.specs.Memory.{Memory, node_row}
use Rattle.propagate.specs.Marked.{RowMarked, RowsMarked}
use Rattle.readers.specs.declared.who_reads.Readers.{Readers}
use Rattle.readers.specs.Reads.{is_child, has_levels, AgreeAt, AgreeOn}
use Rattle.readers.specs.Readers.{row_count, first_word, AreReaders, OfNode}
use Rattle.readers.proofs.NodeReads.{child_below}
use Rattle.readers.proofs.Places.{first_next}
use Rattle.closure.specs.Knowledge.{Knowledge, knowledge, level_size, second_child}
use Rattle.events.specs.Watched.{SameKept, SameCell, NotIn, Noted}
use Rattle.closure.proofs.KnowledgeInParts.{word_place}

-- of two ways, one is shut
pub other_way : {A B : Type 0} → A ⊎ B → (B → ⊥) → A
other_way p shut = ⊎_elim (λ a. a) (λ b. absurd (shut b)) p

-- a state is not in a word both ways
not_both : {w : Bool} → w ≡ true → w ≡ false → ⊥
not_both m out = true≢false (sym m ∙ out)

-- ---- children

-- the second child of a node with levels is a child; it has n rows of cells, and its levels have words; any other
-- node has one row
second_child_lem : (o : Operator) → has_levels o ≡ true → is_child o (second_child o) ≡ true
second_child_lem (constant b) e = absurd (false≢true e)
second_child_lem (atom p) e = absurd (false≢true e)
second_child_lem (negation a) e = absurd (false≢true e)
second_child_lem (conjunction a b) e = absurd (false≢true e)
second_child_lem (disjunction a b) e = absurd (false≢true e)
second_child_lem (next q a) e = absurd (false≢true e)
second_child_lem (fixpoint fam q a b) e = or_right (eqb a b) (eqb b b) (eq-eqb b b refl)

pub level_rows : (n : ℕ) (o : Operator) → has_levels o ≡ true → row_count n o ≡ n
level_rows n (constant b) e = absurd (false≢true e)
level_rows n (atom p) e = absurd (false≢true e)
level_rows n (negation a) e = absurd (false≢true e)
level_rows n (conjunction a b) e = absurd (false≢true e)
level_rows n (disjunction a b) e = absurd (false≢true e)
level_rows n (next q a) e = absurd (false≢true e)
level_rows n (fixpoint fam q a b) e = refl

pub plain_row : (n : ℕ) (o : Operator) → has_levels o ≡ false → row_count n o ≡ 1
plain_row n (constant b) e = refl
plain_row n (atom p) e = refl
plain_row n (negation a) e = refl
plain_row n (conjunction a b) e = refl
plain_row n (disjunction a b) e = refl
plain_row n (next q a) e = refl
plain_row n (fixpoint fam q a b) e = absurd (true≢false e)

pub level_words : (n : ℕ) (o : Operator) → has_levels o ≡ true → level_size n o ≡ 2 * (n - 1)
level_words n (constant b) e = absurd (false≢true e)
level_words n (atom p) e = absurd (false≢true e)
level_words n (negation a) e = absurd (false≢true e)
level_words n (conjunction a b) e = absurd (false≢true e)
level_words n (disjunction a b) e = absurd (false≢true e)
level_words n (next q a) e = absurd (false≢true e)
level_words n (fixpoint fam q a b) e = refl

module _ (T : Table) (wf : Wellformed T) (r : Readers) (looks₀ looks : List ℕ) (reads : AreReaders T r) (M N : Memory)
    (rows : RowsMarked r looks₀ looks M.rows N.rows) where
  abbrev K : Knowledge
  K = knowledge T M

  abbrev L : Knowledge
  L = knowledge T N

  -- the stored levels of a node agree, or their readers are in their words
  abbrev pub LevelsNoted : Type 0
  LevelsNoted = (i : ℕ) → i < length T.nodes → has_levels (operator_of (node_at T i)) ≡ true → (m : ℕ)
      → suc m < length T.states
      → RowMarked r looks (Level (first_word T i + m)) (row_at M.words (word_place T i (suc m)))
      (row_at N.words (word_place T i (suc m)))

  kept_same : (s : ℕ) → s < length T.states → member (get_or looks 0 0) s ≡ false → SameKept T K L s
  kept_same s h out = record {
    steps = other_way (rows.steps s (omega (arith, wf.few_states))) (λ m. not_both m.kept out);
    own = other_way (rows.kept s) (λ m. not_both m.here out);
    ends = λ t e. other_way (rows.kept t) (λ m. not_both (m.behind s (reads.of_state s t h e)) out);
  }

  -- where the words of a node lie
  begins : (i : ℕ) → i < length T.nodes → get_or r.first i 0 ≡ first_word T i
  begins i h = reads.firsts.at i (omega (arith, wf.few_nodes))

  ends_at : (i : ℕ) → i < length T.nodes
      → get_or r.first (suc i) 0 ≡ first_word T i + row_count (length T.states) (operator_of (node_at T i))
  ends_at i h = reads.firsts.at (suc i) (omega (arith, wf.few_nodes)) ∙ first_next T i h

  of_node : (i m : ℕ) → i < length T.nodes → m < row_count (length T.states) (operator_of (node_at T i))
      → OfNode r i (first_word T i + m)
  of_node i m h l = (omega (arith, begins i h), omega (arith, ends_at i h))

  module _ (levels : LevelsNoted) (i m : ℕ) (h : i < length T.nodes)
      (few : m < row_count (length T.states) (operator_of (node_at T i)))
      (s : ℕ) (l : s < length T.states) (out : NotIn T looks i m s) where
    abbrev o : Operator
    o = operator_of (node_at T i)

    abbrev mine : ℕ
    mine = first_word T i + m

    -- a word of the node by another number
    at_word : (k : ℕ) → k ≡ mine → member (get_or looks k 0) s ≡ true → ⊥
    at_word k e p = not_both (sym (ap (λ (j : ℕ). member (get_or looks j 0) s) e) ∙ p) out

    -- the last row of its cells: that of a node without levels, or the last level
    own_row : suc m ≡ row_count (length T.states) o → AgreeAt s (K.nodes i) (L.nodes i)
    own_row last = other_way (rows.nodes i (omega (arith, wf.few_nodes)) s)
        (λ p. at_word _ (omega (arith, ends_at i h, last)) p.own)

    below : (c : ℕ) → is_child o c ≡ true → c < 32
    below c e = omega (arith, child_below i o (children_below T wf i h) c e, wf.few_nodes)

    child_here : (c : ℕ) → is_child o c ≡ true → AgreeAt s (K.nodes c) (L.nodes c)
    child_here c e = other_way (rows.nodes c (below c e) s)
        (λ p. not_both (p.here i mine (reads.of_node i c h e) (of_node i m h few)) out)

    -- the first row of its cells reads the child at the ends of the steps
    child_ends : m ≡ 0 → (c : ℕ) → is_child o c ≡ true → AgreeOn (target_set T.steps s) (K.nodes c) (L.nodes c)
    child_ends first c e t g = other_way (rows.nodes c (below c e) t) (λ p.
        at_word _ (omega (arith, begins i h, first))
        (p.behind i s (reads.of_node i c h e) (
          omega arith,
          omega (arith, begins i h, ends_at i h, few),
        ) (reads.of_state s t l g)))

    -- a level by where it lies
    level_here : has_levels o ≡ true → AgreeAt s (K.levels i (suc m)) (L.levels i (suc m))
    level_here has = at (eqb (suc m) 0) (eqb (suc m) (length T.states)) refl refl
      where
        at : (first top : Bool) → eqb (suc m) 0 ≡ first → eqb (suc m) (length T.states) ≡ top
            → AgreeAt s (cond first (node_row M (second_child o))
            (cond top (node_row M i) (row_at M.words (word_place T i (suc m)))))
            (cond first (node_row N (second_child o))
            (cond top (node_row N i) (row_at N.words (word_place T i (suc m)))))
        at true top f e = absurd (let q = eqb-true (suc m) 0 f in omega arith)
        at false true f e = own_row (eqb-true (suc m) (length T.states) e ∙ sym (level_rows (length T.states) o has))
        at false false f e = other_way
            (levels i h has m (omega (
              arith,
              few,
              level_rows (length T.states) o has,
              eqb-false (suc m) (length T.states) e,
            )) s) (λ p. not_both p.own out)

    level_under : has_levels o ≡ true → AgreeOn (target_set T.steps s) (K.levels i m) (L.levels i m)
    level_under has t g = at (eqb m 0) (eqb m (length T.states)) refl refl
      where
        stored : (k : ℕ) → m ≡ suc k
            → AgreeAt t (row_at M.words (word_place T i (suc k))) (row_at N.words (word_place T i (suc k)))
        stored k e = other_way (levels i h has k (omega (arith, few, level_rows (length T.states) o has, e)) t)
            (λ p. at_word _ (omega (arith, e)) (p.behind s (reads.of_state s t l g)))

        at : (first last : Bool) → eqb m 0 ≡ first → eqb m (length T.states) ≡ last
            → AgreeAt t (cond first (node_row M (second_child o))
            (cond last (node_row M i) (row_at M.words (word_place T i m))))
            (cond first (node_row N (second_child o)) (cond last (node_row N i) (row_at N.words (word_place T i m))))
        at true last f e = child_ends (eqb-true m 0 f) (second_child o) (second_child_lem o has) t g
        at false true f e =
            absurd (let q = eqb-true m (length T.states) e in omega (arith, few, level_rows (length T.states) o has))
        at false false f e =
            let some = eqb-false m 0 f in
            let up : m ≡ suc (m - 1) = omega (arith, some) in
            λ sign. ap (λ (k : ℕ). known (row_at N.words (word_place T i k)) sign t) up ∙ stored (m - 1) up sign
            ∙ sym (ap (λ (k : ℕ). known (row_at M.words (word_place T i k)) sign t) up)

    cell_same : SameCell T K L i m o s
    cell_same = record {
      own = λ p. own_row (omega (arith, few, plain_row (length T.states) o p));
      child = child_here;
      ends = λ p. child_ends (omega (arith, few, plain_row (length T.states) o p));
      steps = λ e. other_way (rows.steps s (omega (arith, wf.few_states)))
          (λ p. not_both (p.nodes i mine (reads.of_steps i h e) (of_node i m h few)) out);
      levels = λ has. (level_here has, level_under has);
    }

  pub noted : LevelsNoted → Noted T looks K L
  noted levels = record { kept = kept_same; nodes = cell_same levels }
