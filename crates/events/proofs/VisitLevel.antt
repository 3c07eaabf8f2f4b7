-- Looking at a level of a fixed point: where nothing was added it is at rest at the states of its word; like the one
-- seen last, it is so without a look.
use Prim.Native.Nat.{ℕ, suc, ◌+◌, ◌*◌, ◌-◌, ◌≤◌, ◌<◌}
use native.Mathlib.Omega.{arith}
use native.Mathlib.Decide.{ℕ_discrete, dec_lt}
use mathlib.Core.Path.{◌≡◌, refl, sym, ap, subst, subst₂, ◌∙◌}
use mathlib.Core.Bool.{true, false, true≢false, false≢true}
use mathlib.Core.Logic.{◌⊎◌, inl, inr}
use mathlib.Core.List.{List}
use lib.Bits.{bit_and}
use lib.Dec.{ltb}
use lib.ListN.{length, get_or, set}
use Rattle.std.specs.Prelude.{Option, None, Some}
use Rattle.std.proofs.lemmas.Option.{none-some, same_Some}
use Rattle.sets.specs.Member.{member, set_of}
use Rattle.table.specs.Table.{Table, node_at}
use Rattle.ctl.specs.Rule.{Quantifier, every, some, Operator, operator_of}
use Rattle.rows.specs.declared.row.Row.{Row}
use Rattle.rows.specs.declared.row.Report.{Report}
use Rattle.rows.specs.Row.{known}
use Rattle.rows.specs.Words.{row_at, quiet}
use Rattle.propagate.specs.declared.adding.RowOf.TheVariants.{Level}
use Rattle.propagate.specs.declared.level.Fixpoint.{Fixpoint}
use Rattle.propagate.specs.Memory.{Memory, memory, stepped, Stepped}
use Rattle.propagate.specs.Level.{level_at, level_step, Fits}
use Rattle.propagate.specs.Marked.{RowMarked, RowsMarked, LevelsMarked}
use Rattle.readers.specs.Reads.{has_levels}
use Rattle.readers.specs.Readers.{row_count, first_word, word_total}
use Rattle.readers.proofs.Places.{cells_in}
use Rattle.closure.specs.Dual.{is_every}
use Rattle.closure.specs.Knowledge.{Knowledge, knowledge, Sized, level_base, level_size, second_child}
use Rattle.closure.specs.Rest.{RestLevel}
use Rattle.closure.specs.Advance.{Advance}
use Rattle.closure.proofs.AddLevel.{fixpoint}
use Rattle.closure.proofs.Advances.{Advances, advance_failing, quiet_parts, quiet_still}
use Rattle.closure.proofs.KnowledgeInParts.{fixpoint_below, word_place}
use Rattle.closure.proofs.LevelAdvance.{level_advance}
use Rattle.closure.proofs.LevelsFit.{level_apart, level-place}
use Rattle.events.specs.declared.levels.Seen.{Seen}
use Rattle.events.specs.declared.net.Net.{Net}
use Rattle.events.specs.Levels.{IsFixpoint, SeenRest}
use Rattle.events.specs.NetTable.{table_in}
use Rattle.events.specs.Watched.{RestCell}
use Rattle.events.specs.Looked.{Always, Looked}
use Rattle.events.proofs.AlikeLevels.{LikeSeen}
use Rattle.events.proofs.LookWords.{word_inside, word_here}
use Rattle.events.proofs.Noting.{LevelsNoted, level_rows, level_words}
use Rattle.events.proofs.Looking.{looked_step, looked_still, looked_loud, cell_word, looked_emptied}
use Rattle.events.proofs.SettingFacts.{wellformed, low}

-- A or E, by whether it is of every path
same_quantifier : (q p : Quantifier) → is_every q ≡ is_every p → q ≡ p
same_quantifier every every e = refl
same_quantifier every some e = absurd (true≢false e)
same_quantifier some every e = absurd (false≢true e)
same_quantifier some some e = refl

-- ---- a fixed point of the table

module _ (T : Table) (x : Fixpoint) (is : IsFixpoint T x) where
  pub fixpoint_is : x ≡ fixpoint T x.family x.node (is_every is.quantifier) x.a x.b
  fixpoint_is = λ j. record {
    family = x.family;
    node = x.node;
    a = x.a;
    b = x.b;
    every = is.every j;
    base = is.base j;
    word = is.word j;
  }

  has : has_levels (operator_of (node_at T x.node)) ≡ true
  has = ap has_levels is.is

  pub rows_are : row_count (length T.states) (operator_of (node_at T x.node)) ≡ length T.states
  rows_are = level_rows (length T.states) (operator_of (node_at T x.node)) has

  -- its words
  pub in_room : (m : ℕ) → m < length T.states → x.word + m < word_total T
  in_room m l = omega (arith, is.word, rows_are, cells_in T x.node is.below)

  pub all_in_room : x.word + length T.states ≤ word_total T
  all_in_room = omega (arith, is.word, rows_are, cells_in T x.node is.below)

  -- a level at rest is a row of cells at rest
  pub level_cell : (K : Knowledge) (m s : ℕ)
      → RestLevel T K x.family is.quantifier x.a x.b (K.levels x.node (suc m)) (K.levels x.node m) s
      → RestCell T K x.node m (operator_of (node_at T x.node)) s
  level_cell K m s = subst (λ (o : Operator). RestCell T K x.node m o s) (sym is.is)

  -- a level as the code reads it is what is known of it
  pub level_known : (M : Memory) (m : ℕ) → level_at (length T.states) x m M ≡ (knowledge T M).levels x.node m
  level_known M m = (λ j. level_at (length T.states) (fixpoint_is j) m M)
      ∙ (λ j. level_at (length T.states) (fixpoint T x.family x.node (is_every is.quantifier) x.a (second j)) m M)
    where
      second : x.b ≡ second_child (operator_of (node_at T x.node))
      second = sym (ap second_child is.is)

module _ (net : Net) (x : Fixpoint) (is : IsFixpoint (table_in net) x) (m : ℕ) (few : m < length (table_in net).states)
    (rows words looks : List ℕ) (sized : Sized (table_in net) (memory rows words))
    (all : ℕ) (is_all : all ≡ set_of 32 (λ t. ltb t net.graph.states)) (look : ℕ)
    (looks_at : look ≡ bit_and (get_or looks (x.word + m) 0) all) where
  abbrev T : Table
  T = table_in net

  abbrev M : Memory
  M = memory rows words

  abbrev mine : Operator
  mine = operator_of (node_at T x.node)

  here : x.word + m ≡ first_word T x.node + m
  here = ap (λ (k : ℕ). k + m) is.word

  few_rows : m < row_count (length T.states) mine
  few_rows = omega (arith, few, rows_are T x is)

  -- the level is at rest at the states of a set
  abbrev AtRest : Knowledge → Type 0
  AtRest K = (s : ℕ) → s < length T.states → member look s ≡ true
      → RestLevel T K x.family is.quantifier x.a x.b (K.levels x.node (suc m)) (K.levels x.node m) s

  all_are : all ≡ set_of 32 (λ t. ltb t (length T.states))
  all_are = is_all ∙ ap (λ (n : ℕ). set_of 32 (λ t. ltb t n)) net.setting.states

  -- ---- its word is emptied, where it is at rest

  emptied : {D : ℕ → Type 0} {Q : Knowledge → Type 0} {looks' : List ℕ} {N : Memory} {r : Report}
      → word_total T ≤ length looks' → Looked T D Q looks looks' M N r → quiet r ≡ true
      → looks' ≡ looks → AtRest (knowledge T N)
      → Looked T (λ k. k ≡ x.word + m) Always looks (set looks' (x.word + m) 0) M N r
  emptied {looks' = looks'} {N} {r} room looked still same rest =
      subst (λ (k : ℕ). Looked T (λ j. j ≡ k) Always looks (set looks' k 0) M N r) (sym here)
      (looked_emptied (first_word T x.node + m) (omega (arith, here, in_room T x is m few, room)) looked still
      (cell_word T looks' (knowledge T N) x.node m is.below few_rows (λ s l g.
      level_cell T x is (knowledge T N) m s (rest s l (subst (λ (w : ℕ). member w s ≡ true) (sym looks_at)
      (word_here T (wellformed net).few_states (get_or looks (x.word + m) 0) all all_are s l (was s g)))))))
    where
      was : (s : ℕ) → member (get_or looks' (first_word T x.node + m) 0) s ≡ true
          → member (get_or looks (x.word + m) 0) s ≡ true
      was s g = ap (λ (k : ℕ). member (get_or looks k 0) s) here
          ∙ sym (ap (λ (ws : List ℕ). member (get_or ws (first_word T x.node + m) 0) s) same) ∙ g

  -- ---- its rule was applied

  module _ (rows' words' looks' : List ℕ) (r : Report) (room : word_total (table_in net) ≤ length looks')
      (did : stepped rows' words' r ≡ level_step net.graph.targets net.graph.states x m look (memory rows words))
      (calm : r.changed ≡ false → looks' ≡ looks) (marked : RowsMarked net.graph.readers looks looks' rows rows')
      (levels : LevelsMarked net.graph.readers net.graph.states x looks looks' words words') where
    abbrev N : Memory
    N = memory rows' words'

    pub advances : Advance (table_in net) AtRest (memory rows words) (memory rows' words') r
    advances = subst (λ (s : Stepped). Advances T AtRest M s)
        (sym (did ∙ (λ j. level_step net.graph.targets (net.setting.states j) (fixpoint_is T x is j) m look M)))
        (level_advance T (wellformed net) net.graph.targets net.setting.targets_at look
        (subst (λ (w : ℕ). (s : ℕ) → member w s ≡ true
        → s < length T.states) (sym looks_at) (word_inside T (get_or looks (x.word + m) 0) all all_are))
        x.node is.below x.family is.quantifier x.a x.b is.is m few M sized)

    -- a level by its word and by where it lies
    abbrev Marked : ℕ → ℕ → Type 0
    Marked word at = RowMarked net.graph.readers looks' (Level word) (row_at words at) (row_at words' at)

    levels_noted : LevelsNoted T (wellformed net) net.graph.readers looks looks' net.setting.reads M N marked
    levels_noted i h owns k l = go (ℕ_discrete i x.node) (dec_lt i x.node)
      where
        ours : Marked (x.word + k) (x.base + 2 * k)
        ours = levels.levels k (omega (arith, l, net.setting.states))

        -- the words of another node's level are not ours
        apart : (p : ℕ) → word_place T i (suc k) ≤ p → p ≤ word_place T i (suc k) + 1 → ¬ (i ≡ x.node)
            → get_or words' p 0 ≡ get_or words p 0
        apart p low high d = levels.elsewhere p (side (dec_lt i x.node))
          where
            size : level_size (length T.states) (operator_of (node_at T i)) ≡ 2 * (length T.states - 1)
            size = level_words (length T.states) (operator_of (node_at T i)) owns

            own : level_size (length T.states) mine ≡ 2 * (length T.states - 1)
            own = level_words (length T.states) mine (has T x is)

            side : Dec (i < x.node) → (p < x.base) ⊎ (x.base + 2 * (net.graph.states - 1) ≤ p)
            side (yes before) = inl (omega (arith, high, l, is.base, size, level_apart T i x.node before is.below))
            side (no not) = let behind : x.node < i = omega (
              arith,
              not,
              d,
            ) in inr (omega (arith, low, is.base, own, net.setting.states, level_apart T x.node i behind h))

        go : Dec (i ≡ x.node) → Dec (i < x.node) → Marked (first_word T i + k) (word_place T i (suc k))
        go (yes e) _ = subst (λ (at : ℕ). Marked (first_word T i + k) at) (omega (arith, is.base, ap (level_base T) e))
            (subst (λ (word : ℕ). Marked word (x.base + 2 * k)) (omega (arith, is.word, ap (first_word T) e)) ours)
        go (no d) _ = λ t. inl (λ sign. ap (λ (q : Row). known q sign t) (λ j. record {
          yes = apart (word_place T i (suc k)) (omega arith) (omega arith) d j;
          no = apart (word_place T i (suc k) + 1) (omega arith) (omega arith) d j;
        }))

    moved : Looked T (λ k. ⊥) AtRest looks looks' M N r
    moved = looked_step T (wellformed net) net.graph.readers looks looks' net.setting.reads M N sized advances calm
        marked levels_noted

    pub level_loud : quiet r ≡ false
        → Looked (table_in net) (λ k. k ≡ x.word + m) Always looks looks' (memory rows words) (memory rows' words') r
    level_loud loud = looked_loud loud moved

    pub level_calm : quiet r ≡ true
        → Looked (table_in net) (λ k. k ≡ x.word + m) Always looks (set looks' (x.word + m) 0) (memory rows words)
        (memory rows' words') r
    level_calm still = emptied room moved still (calm (quiet_parts r still).0) (quiet_still advances still)

    -- it had nothing to add: it is what was seen last
    pub seen_after : quiet r ≡ true → (level below : Row)
        → level ≡ level_at net.graph.states x (suc m) (memory rows words)
        → below ≡ level_at net.graph.states x m (memory rows words)
        → SeenRest (table_in net) x (Some (record { look = look; level = level; below = below }))
        (knowledge (table_in net) (memory rows' words'))
    seen_after still level below above under last found q of s l =
        subst (λ (z : Seen). member z.look s ≡ true → RestLevel T (knowledge T N) x.family q x.a x.b z.level z.below s)
        (same_Some (record { look = look; level = level; below = below }) last found) rests
      where
        rests : member look s ≡ true → RestLevel T (knowledge T N) x.family q x.a x.b level below s
        rests g =
            let same : N ≡ M = advances.unchanged (quiet_parts r still).0 in
            let up : level ≡ (knowledge T N).levels x.node (suc m) =
            above ∙ (λ j. level_at (net.setting.states j) x (suc m) M) ∙ level_known T x is M (suc m)
            ∙ (λ j. (knowledge T (sym same j)).levels x.node (suc m)) in
            let down : below ≡ (knowledge T N).levels x.node m =
            under ∙ (λ j. level_at (net.setting.states j) x m M) ∙ level_known T x is M m
            ∙ (λ j. (knowledge T (sym same j)).levels x.node m) in
            subst₂ (λ u v. RestLevel T (knowledge T N) x.family q x.a x.b u v s) (sym up) (sym down)
            (subst (λ (k : Quantifier). RestLevel T (knowledge T N) x.family k x.a x.b
            ((knowledge T N).levels x.node (suc m)) ((knowledge T N).levels x.node m) s)
            (same_quantifier is.quantifier q (sym is.every ∙ of)) (quiet_still advances still s l g))

  -- ---- it is like the one seen last

  pub level_alike : word_total (table_in net) ≤ length looks → (seen : Option Seen)
      → SeenRest (table_in net) x seen (knowledge (table_in net) (memory rows words)) → (level below : Row)
      → level ≡ level_at net.graph.states x (suc m) (memory rows words)
      → below ≡ level_at net.graph.states x m (memory rows words)
      → LikeSeen seen look level below → (r : Report) → r ≡ record { changed = false; fails = false }
      → Looked (table_in net) (λ k. k ≡ x.word + m) Always looks (set looks (x.word + m) 0) (memory rows words)
      (memory rows words) r
  level_alike room seen rests level below above under like r none =
      subst (Looked T (λ k. k ≡ x.word + m) Always looks (set looks (x.word + m) 0) M M) (sym none)
      (emptied room (looked_still looks (advance_failing T false M sized (λ e. absurd (false≢true e))) refl) refl refl
      (λ s l g.
      subst₂ (λ u v. RestLevel T (knowledge T M) x.family is.quantifier x.a x.b u v s) (like.level_same ∙ up)
      (like.below_same ∙ down)
      (rests like.last like.is is.quantifier is.every s l (like.has s g))))
    where
      up : level ≡ (knowledge T M).levels x.node (suc m)
      up = above ∙ (λ j. level_at (net.setting.states j) x (suc m) M) ∙ level_known T x is M (suc m)

      down : below ≡ (knowledge T M).levels x.node m
      down = under ∙ (λ j. level_at (net.setting.states j) x m M) ∙ level_known T x is M m

-- the fixed point fits the memory
pub level_fits : (net : Net) (x : Fixpoint) → IsFixpoint (table_in net) x → (rows words : List ℕ)
    → Sized (table_in net) (memory rows words) → Fits net.graph.states x rows words
level_fits net x is rows words sized =
    let T = table_in net in
    let below = fixpoint_below T (wellformed net) x.node x.family is.quantifier x.a x.b is.below is.is in
    record {
      rows_size = sized.rows_size;
      node_below = low net x.node is.below;
      a_below = omega (arith, below.0, low net x.node is.below);
      b_below = omega (arith, below.1, low net x.node is.below);
      levels_below = omega (
        arith,
        is.base,
        net.setting.states,
        sized.words_size,
        level-place T x.node x.family is.quantifier x.a x.b is.below is.is,
      );
    }

-- nothing was seen yet
pub seen_none : (T : Table) (x : Fixpoint) (K : Knowledge) (seen : Option Seen) → seen ≡ None → SeenRest T x seen K
seen_none T x K seen none r e = absurd (none-some r (sym none ∙ e))
