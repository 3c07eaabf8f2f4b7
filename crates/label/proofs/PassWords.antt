-- The pass over the nodes: the word of each node is the set of the node.
use Prim.Native.Nat.{ℕ, zero, suc, ◌+◌, ◌-◌, ◌≤◌, ◌<◌}
use mathlib.Core.Path.{◌≡◌, refl, sym, ap, ap₂, ◌∙◌}
use mathlib.Core.Bool.{Bool, true, false, not, ◌&&◌, and-true, and-false, and-eq-true_iff}
use mathlib.Core.Logic.{⊎_elim}
use mathlib.Core.List.{List, []}
use native.Mathlib.Decide.{dec_lt, ℕ_discrete}
use native.Mathlib.Nat.{lt_of_lt_of_le, not-suc-le-zero}
use native.Mathlib.Omega.{arith}
use lib.Bits.{bit_and, bit_or}
use lib.ListN.{length, get_or, set, drop, replicate, length-set, get_or-replicate, drop_of_length-le, get_or-eq_default}
use lib.Seq.{drop-cons, get_or-set_same, get_or-set_other, ext_get_or}
use Rattle.sets.specs.Member.{member, set_of}
use Rattle.sets.proofs.SetOf.{set_of-lt, member-set_of-below, set_of_cong, empty}
use Rattle.table.specs.Table.{Table, node_at, state_at, zero_node}
use Rattle.table.specs.Facts.{Wellformed}
use Rattle.table.proofs.Bools.{or_parts}
use Rattle.ctl.specs.Rule.{
  Quantifier,
  Operator,
  constant,
  atom,
  negation,
  conjunction,
  disjunction,
  next,
  fixpoint,
  operator_of,
  bottom_up,
}
use Rattle.ctl.specs.Levels.{has, next_in, levels}
use Rattle.ctl.specs.Labels.{marks, targets, is_kept, label_of, label, marked}
use Rattle.ctl.proofs.Tabulate.{length_tabulate, get_d_tabulate, get_d_tabulate_past}
use Rattle.ctl.proofs.BottomUp.{OfChildren, of-children, bottom_up-length}
use Rattle.ctl.proofs.Targets.{is_kept_lem, next_of_kept}
use Rattle.ctl.proofs.Meaning.{KeptSet, label_of_lem, label_set}
use Rattle.label.specs.Words.{full, ChildrenBelow, node_word, next_word, pass_words}
use Rattle.label.specs.Analysis.{label_words}
use Rattle.label.proofs.Marks.{and_word, or_word, not_word, wider}
use Rattle.label.proofs.Next.{KeptRows, row_next_marks}
use Rattle.label.proofs.Levels.{levels_word_lem}
use Rattle.label.proofs.Kept.{StateBytes, kept_inside, labelled_word_lem}

-- ---- the children of a node

-- numbers that are below 32 each
below_32 : (o : Operator) → OfChildren (λ k. k < 32) o → ChildrenBelow 32 o
below_32 (constant b) h = tt
below_32 (atom p) h = tt
below_32 (negation a) h = h
below_32 (conjunction a b) h = h
below_32 (disjunction a b) h = h
below_32 (next q a) h = h
below_32 (fixpoint f q a b) h = h

pub node_children : (T : Table) → Wellformed T → (i : ℕ) → i < length T.nodes
    → ChildrenBelow 32 (operator_of (node_at T i))
node_children T wf i h =
    below_32 (operator_of (node_at T i)) (of-children T wf i h (λ k l. omega (arith, wf.few_nodes)))

-- ---- sets of kept states

-- a test that passes at kept states alone may be joined with the test for them
only_kept : (k x : Bool) → (x ≡ true → k ≡ true) → x ≡ k && x
only_kept true x f = refl
only_kept false true f = sym (f refl)
only_kept false false f = refl

module _ (T : Table) (wf : Wellformed T) (list : List ℕ) where
  -- the mark of a state in a set of kept states that have f
  has_marks : (f : ℕ → Bool) (s : ℕ) → has (marks T list f) s ≡ is_kept T list s && f s
  has_marks f s = go (dec_lt s (length T.states))
    where
      go : Dec (s < length T.states) → has (marks T list f) s ≡ is_kept T list s && f s
      go (yes h) = get_d_tabulate (length T.states) _ s false h
      go (no h) =
          get_d_tabulate_past (length T.states) _ s false (omega arith)
          ∙ sym (ap (λ (b : Bool). b && f s) (kept_inside T wf list s (omega arith)))

  -- the word of such a set
  marks_word : (f g : ℕ → Bool) → ((s : ℕ) → g s ≡ is_kept T list s && f s)
      → set_of 32 g ≡ set_of 32 (has (marks T list f))
  marks_word f g same = set_of_cong 32 g (has (marks T list f)) (λ s h. same s ∙ sym (has_marks f s))

-- ---- the word of one node

module _ {T : Table} {list rows : List ℕ} (k : KeptRows T list rows) (kept : ℕ)
    (kept_is : kept ≡ set_of 32 (is_kept T list))
    (states : List ℕ) (records : StateBytes T states) where
  -- a state of a set of kept states is kept
  set_kept : (X : List Bool) → KeptSet T list X → (s : ℕ) → has X s ≡ true → is_kept T list s ≡ true
  set_kept X x s e = (is_kept_lem T list s).1 (x.inside s e)

  -- the word of AX or EX is that of a set of kept states
  next_marks : (q : Quantifier) (X : ℕ) (Y : List Bool) → X ≡ set_of 32 (has Y)
      → next_word q rows (length T.states) X ≡ set_of 32 (has (marks T list (λ s. next_in q Y (targets T list s))))
  unfolding next_word
  next_marks q X Y e = wider (length T.states) _ _ k.table.few_states
      (λ s h.
      row_next_marks k q s X Y (lt_of_lt_of_le h k.table.few_states) e
      ∙ next_of_kept q Y (targets T list s)
      ∙ sym (has_marks T k.table list (λ s. next_in q Y (targets T list s)) s))
      (λ s h. get_d_tabulate_past (length T.states) _ s false h)

  -- the word of an operator is its set, if the words of its children are theirs
  operator_word : (words : List ℕ) (child : ℕ → List Bool) (o : Operator)
      → OfChildren (λ i. get_or words i 0 ≡ set_of 32 (has (child i))) o
      → OfChildren (λ i. KeptSet T list (child i)) o
      → node_word rows kept (length T.states) states words o ≡ set_of 32 (has (label_of T list o child))
  unfolding node_word label_of levels
  operator_word words child (constant false) e x =
      sym (empty 32 _ (set_of-lt 32 _)
      (λ s h. member-set_of-below 32 _ s h ∙ has_marks T k.table list (λ t. false) s ∙ and-false (is_kept T list s)))
  operator_word words child (constant true) e x =
      kept_is ∙ marks_word T k.table list _ _ (λ s. sym (and-true (is_kept T list s)))
  operator_word words child (atom p) e x =
      ap₂ bit_and kept_is (labelled_word_lem T k.table states records p)
      ∙ and_word (is_kept T list) (λ s. member (state_at T s).label p)
      ∙ marks_word T k.table list _ _ (λ s. refl)
  operator_word words child (negation a) e x =
      ap₂ (λ (m y : ℕ). bit_and m (full - y)) kept_is e
      ∙ ap (bit_and (set_of 32 (is_kept T list))) (not_word (has (child a)))
      ∙ and_word (is_kept T list) (λ s. not (has (child a) s))
      ∙ marks_word T k.table list _ _ (λ s. refl)
  operator_word words child (conjunction a b) e x =
      ap₂ bit_and e.0 e.1
      ∙ and_word (has (child a)) (has (child b))
      ∙ marks_word T k.table list _ _
      (λ s. only_kept (is_kept T list s) _
      (λ h. set_kept (child a) x.0 s ((and-eq-true_iff (has (child a) s) _).0 h).0))
  operator_word words child (disjunction a b) e x =
      ap₂ bit_or e.0 e.1
      ∙ or_word (has (child a)) (has (child b))
      ∙ marks_word T k.table list _ _ (λ s. only_kept (is_kept T list s) _ (λ h.
      ⊎_elim (set_kept (child a) x.0 s) (set_kept (child b) x.1 s) (or_parts (has (child a) s) (has (child b) s) h)))
  operator_word words child (next q a) e x = next_marks q (get_or words a 0) (child a) e
  operator_word words child (fixpoint f q a b) e x =
      levels_word_lem k f q (get_or words a 0) (get_or words b 0) (child a) (child b) e.0 e.1 x.1.size (length T.states)

  -- the word of node i, from the words of the nodes before it
  pub node_word_lem : (words : List ℕ) (i : ℕ) → i < length T.nodes
      → ((j : ℕ) → j < i → get_or words j 0 ≡ set_of 32 (marked T list j))
      → node_word rows kept (length T.states) states words (operator_of (node_at T i)) ≡ set_of 32 (marked T list i)
  node_word_lem words i h below =
      operator_word words (label T list) (operator_of (node_at T i))
      (of-children T k.table i h below) (of-children T k.table i h (λ j l. label_set T k.table list j (omega arith)))
      ∙ ap (λ (X : List Bool). set_of 32 (has X)) (sym (label_of_lem T k.table list i h))

-- ---- the pass over the nodes

-- past the last node no state is marked
word_past : (T : Table) (list : List ℕ) (i : ℕ) → length T.nodes ≤ i → set_of 32 (marked T list i) ≡ 0
unfolding label set_of
word_past T list i h =
    let values = bottom_up (label_of T list) [] [] T.nodes in
    ap (λ (X : List Bool). set_of 32 (has X))
    (get_or-eq_default values [] {n = i} (rw (bottom_up-length (label_of T list) [] T.nodes) h))

-- before node i: the words of the nodes before it are theirs, and the others are clear
pub record Passed (T : Table) (list : List ℕ) (i : ℕ) (words : List ℕ) : Type 0 where
  pub size : length words ≡ 32
  pub done : (j : ℕ) → j < i → get_or words j 0 ≡ set_of 32 (marked T list j)
  pub clear : (j : ℕ) → j < 32 → i ≤ j → get_or words j 0 ≡ 0

-- before the first node every word is clear
pub passed_none : (T : Table) (list : List ℕ) → Passed T list 0 (replicate 32 0)
passed_none T list = record {
  size = refl;
  done = λ j h. absurd (not-suc-le-zero h);
  clear = λ j h l. get_or-replicate 32 j 0 0 h;
}

-- behind the last node the words are those of all nodes
pub passed-all : (T : Table) (list : List ℕ) (i : ℕ) (words : List ℕ) → i ≡ length T.nodes → Passed T list i words
    → words ≡ label_words T list
passed-all T list i words e p =
    ext_get_or 0 words (label_words T list) (p.size ∙ sym (length_tabulate 32 _))
    (λ j h. go j (rw p.size at h) (dec_lt j i) ∙ sym (get_d_tabulate 32 _ j 0 (rw p.size at h)))
  where
    go : (j : ℕ) → j < 32 → Dec (j < i) → get_or words j 0 ≡ set_of 32 (marked T list j)
    go j l (yes h) = p.done j h
    go j l (no h) = p.clear j l (omega arith) ∙ sym (word_past T list j (omega arith))

module _ {T : Table} {list rows : List ℕ} (k : KeptRows T list rows) (kept : ℕ)
    (kept_is : kept ≡ set_of 32 (is_kept T list))
    (states : List ℕ) (records : StateBytes T states) where
  -- the word of a node is set behind those of the nodes before it
  pub passed_next : (i : ℕ) (words : List ℕ) → i < length T.nodes → Passed T list i words
      → Passed T list (suc i) (set words i
      (node_word rows kept (length T.states) states words (operator_of (node_at T i))))
  passed_next i words h p = record {
    size = length-set words i _ ∙ p.size;
    done = λ j l. go j l (ℕ_discrete j i);
    clear = λ j l m. get_or-set_other words i j _ 0 (omega arith) ∙ p.clear j l (omega arith);
  }
    where
      word : ℕ
      word = node_word rows kept (length T.states) states words (operator_of (node_at T i))

      go : (j : ℕ) → j < suc i → Dec (j ≡ i) → get_or (set words i word) j 0 ≡ set_of 32 (marked T list j)
      go j l (yes e) =
          ap (λ (x : ℕ). get_or (set words i word) x 0) e
          ∙ get_or-set_same words i word 0 (omega (arith, p.size, k.table.few_nodes))
          ∙ node_word_lem k kept kept_is states records words i h p.done
          ∙ ap (λ (x : ℕ). set_of 32 (marked T list x)) (sym e)
      go j l (no d) = get_or-set_other words i j word 0 d ∙ p.done j (omega arith)

  -- the pass from node i on gives the words of all nodes
  pass_from : (d i : ℕ) (words : List ℕ) → i + d ≡ length T.nodes → Passed T list i words
      → pass_words rows kept (length T.states) states i (drop i T.nodes) words ≡ label_words T list
  unfolding pass_words
  pass_from zero i words e p =
      rw (drop_of_length-le T.nodes {i = i} (omega arith)) (passed-all T list i words (omega arith) p)
  pass_from (suc d) i words e p =
      let h : i < length T.nodes = omega arith in
      rw (drop-cons T.nodes i zero_node h) (pass_from d (suc i) _ (omega arith) (passed_next i words h p))

  -- the pass over all nodes gives the words of all nodes
  pub pass_words_lem : pass_words rows kept (length T.states) states 0 T.nodes (replicate 32 0) ≡ label_words T list
  pass_words_lem = pass_from (length T.nodes) 0 (replicate 32 0) (omega arith) (passed_none T list)
