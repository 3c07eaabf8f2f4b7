-- Looking at some numbers in their order, at first and at the end: what a sweep that adds nothing leaves is at rest
-- everywhere.
use Prim.Native.Nat.{ℕ, suc, ◌+◌, ◌-◌, ◌<◌}
use native.Mathlib.Omega.{arith}
use native.Mathlib.Decide.{dec_lt}
use mathlib.Core.Path.{◌≡◌, refl, sym, ap, subst, ◌∙◌}
use mathlib.Core.Bool.{Bool, true, false, true≢false}
use mathlib.Core.Logic.{◌⊎◌, inl, inr}
use mathlib.Core.List.{List}
use lib.ListN.{length, get_or}
use Rattle.std.specs.Prelude.{Option, None, Some}
use Rattle.std.specs.Option.{ForSome}
use Rattle.sets.specs.Member.{member}
use Rattle.sets.proofs.Laws.{member-zero}
use Rattle.table.specs.Table.{Table, node_at}
use Rattle.table.specs.Facts.{Wellformed}
use Rattle.table.proofs.Bools.{not_so}
use Rattle.ctl.specs.Rule.{Operator, constant, atom, negation, conjunction, disjunction, next, fixpoint, operator_of}
use Rattle.rows.specs.declared.row.Report.{Report}
use Rattle.rows.specs.Row.{ClearAt}
use Rattle.rows.specs.Words.{row_at, both_reports}
use Rattle.propagate.specs.Memory.{Memory, node_place}
use Rattle.readers.specs.declared.who_reads.Readers.{Readers}
use Rattle.readers.specs.Readers.{row_count, first_word, word_total, words_end, AreReaders}
use Rattle.readers.proofs.Places.{first_next, first_last, cells_in}
use Rattle.closure.specs.Knowledge.{Knowledge, knowledge, second_child, level_row}
use Rattle.closure.specs.Rest.{RestStart, Rest}
use Rattle.events.specs.Ordered.{ordered}
use Rattle.events.specs.Watched.{RestPlain, RestCell, Watched, RestBut}
use Rattle.events.specs.Looked.{Always, AllCells, Looked, FirstLooks}
use Rattle.closure.proofs.Advances.{advance_failed}
use Rattle.closure.proofs.KnowledgeInParts.{level_last}
use Rattle.events.proofs.Ordered.{ordered-below, ordered_twice}
use Rattle.events.proofs.Looking.{looked_so, looked_then}

-- a node at rest has each row of its cells at rest
pub cell_of : (T : Table) (K : Knowledge) (i m : ℕ) (o : Operator) (s : ℕ) → m < row_count (length T.states) o
    → RestPlain T K i o s → RestCell T K i m o s
cell_of T K i m (constant b) s few rest = rest
cell_of T K i m (atom p) s few rest = rest
cell_of T K i m (negation a) s few rest = rest
cell_of T K i m (conjunction a b) s few rest = rest
cell_of T K i m (disjunction a b) s few rest = rest
cell_of T K i m (next q a) s few rest = rest
cell_of T K i m (fixpoint fam q a b) s few rest = rest.0 m few

-- ---- at first

-- all is to be looked at, or all is at rest but what reads the steps out of a state of a set, whose readers are in
-- their words
module _ (T : Table) (wf : Wellformed T) (readers : Readers) (looks : List ℕ) (reads : AreReaders T readers)
    (K : Knowledge) where
  begins : (i : ℕ) → i < length T.nodes → get_or readers.first i 0 ≡ first_word T i
  begins i h = reads.firsts.at i (omega (arith, wf.few_nodes))

  ends : (i : ℕ) → i < length T.nodes
      → get_or readers.first (suc i) 0 ≡ first_word T i + row_count (length T.states) (operator_of (node_at T i))
  ends i h = reads.firsts.at (suc i) (omega (arith, wf.few_nodes)) ∙ first_next T i h

  total : words_end readers ≡ word_total T
  total = reads.firsts.at 32 (omega arith) ∙ first_last T 32 (omega (arith, wf.few_nodes))

  pub first_watched : (changed : Option ℕ) → FirstLooks readers changed looks
      → ForSome changed (λ set. RestBut T set K) → Watched T looks K
  first_watched None all rest = record {
    kept = λ s l out. absurd (true≢false (sym (all 0 s (omega (arith, total)) (omega (arith, wf.few_states))) ∙ out));
    nodes = λ i m h few s l out. absurd
        (true≢false (sym (all (first_word T i + m) s (omega (arith, few, total, cells_in T i h))
        (omega (arith, wf.few_states))) ∙ out));
  }
  first_watched (Some set) marked rest = record {
    kept = λ s l out. (rest set refl).kept s l (not-in s (get_or looks 0 0) out (λ e. (marked s e).kept));
    nodes = λ i m h few s l out.
        cell_of T K i m (operator_of (node_at T i)) s few
        ((rest set refl).nodes i h s l (λ e. not-in s (get_or looks (first_word T i + m) 0) out (λ g.
        (marked s g).nodes i (first_word T i + m) (reads.of_steps i h e) (
          omega (arith, begins i h),
          omega (arith, few, ends i h),
        ))));
  }
    where
      not-in : (s word : ℕ) → member word s ≡ false → (member set s ≡ true → member word s ≡ true)
          → member set s ≡ false
      not-in s word out put = not_so _ (λ e. true≢false (sym (put e) ∙ out))

-- ---- the first k of some numbers

-- a word of one of them
abbrev pub Among : (ℕ → ℕ → Type 0) → Bool → ℕ → ℕ → ℕ → Type 0
Among Of down f k c = (j : ℕ) × (j < k) × Of (ordered down f j) c

module _ {T : Table} (Of : ℕ → ℕ → Type 0) (down : Bool) where
  -- with one more
  pub among_next : (f k i : ℕ) → i ≡ ordered down f k
      → {looks looks' looks'' : List ℕ} {M N O : Memory} {r s t : Report}
      → Looked T (Among Of down f k) Always looks looks' M N r → Looked T (Of i) Always looks' looks'' N O s
      → t ≡ both_reports r s
      → Looked T (Among Of down f (k + 1)) Always looks looks'' M O t
  among_next f k i e {looks} {looks'} {looks''} {M} {N} {O} a b is =
      subst (Looked T (Among Of down f (k + 1)) Always looks looks'' M O) (sym is)
      (looked_so (λ z y c m. go c m (dec_lt m.0 k)) (λ z. tt) (looked_then a b))
    where
      go : (c : ℕ) (m : Among Of down f (k + 1) c) → Dec (m.0 < k) → Among Of down f k c ⊎ Of i c
      go c m (yes l) = inl (m.0, l, m.2)
      go c m (no d) = inr (subst (λ (j : ℕ). Of j c)
          (ap (ordered down f) (let l = m.1 in let last : m.0 ≡ k = omega (arith, d) in last) ∙ sym e) m.2)

  -- each has had its turn
  pub among_all : (f : ℕ) {looks looks' : List ℕ} {M N : Memory} {r : Report} (k count : ℕ) → k ≡ f → f ≡ count
      → Looked T (Among Of down f k) Always looks looks' M N r
      → Looked T (λ c. (i : ℕ) × (i < count) × Of i c) Always looks looks' M N r
  among_all f k count e is a = looked_so (λ z y c m.
      let l = m.1 in
      let inside : m.0 < f = omega (arith, l, is) in (
        ordered down f m.0,
        subst (λ (n : ℕ). ordered down f m.0 < n) (sym e) (ordered-below down f m.0 inside),
        subst (λ (j : ℕ). Of j c) (sym (ordered_twice down f m.0 inside)) m.2,
      )) (λ z. tt) a

-- something is known both ways: nothing is said of the words, nor of the rows
pub looked_failed : {T : Table} {D E : ℕ → Type 0} {P Q : Knowledge
    → Type 0} {looks looks' : List ℕ} {M N : Memory} {r : Report} → r.fails ≡ true
    → Looked T D P looks looks' M N r → Looked T E Q looks looks' M N r
looked_failed {T} f a = record {
  advance = advance_failed T f a.advance;
  size = a.size;
  watched = a.watched;
  still = a.still;
  done = λ c z. absurd (true≢false (sym f ∙ z));
}

-- ---- at the end

-- the last level of a fixed point is its own row
cell_last : (T : Table) (M : Memory) (i : ℕ) (s : ℕ) → 0 < length T.states
    → ClearAt s ((knowledge T M).levels i (suc (length T.states - 1))) → ClearAt s ((knowledge T M).nodes i)
cell_last T M i s some =
    let second = second_child (operator_of (node_at T i)) in
    let top : suc (length T.states - 1) ≡ length T.states = omega (arith, some) in
    subst (ClearAt s) (ap (level_row T M i second) top ∙ level_last T M i second some)

-- each row of its cells at rest, a node is
pub cells_of : (T : Table) (M : Memory) (i : ℕ) (o : Operator) (s : ℕ) → 0 < length T.states
    → ((m : ℕ) → m < row_count (length T.states) o → RestCell T (knowledge T M) i m o s)
    → RestPlain T (knowledge T M) i o s
cells_of T M i (constant b) s some rest = rest 0 (omega arith)
cells_of T M i (atom p) s some rest = rest 0 (omega arith)
cells_of T M i (negation a) s some rest = rest 0 (omega arith)
cells_of T M i (conjunction a b) s some rest = rest 0 (omega arith)
cells_of T M i (disjunction a b) s some rest = rest 0 (omega arith)
cells_of T M i (next q a) s some rest = rest 0 (omega arith)
cells_of T M i (fixpoint fam q a b) s some rest = (
  rest,
  cell_last T M i s some (rest (length T.states - 1) (omega (arith, some))).clear,
)

-- no word has a state: all is at rest
pub swept_rest : (T : Table) → Wellformed T → (looks : List ℕ) (M : Memory)
    → ((k : ℕ) → AllCells T k → get_or looks k 0 ≡ 0) → Watched T looks (knowledge T M) → RestBut T 0 (knowledge T M)
swept_rest T wf looks M none w = record {
  kept = λ s l m. w.kept s l (clear 0 (inl refl) s);
  nodes = λ i h s l m. cells_of T M i (operator_of (node_at T i)) s wf.some_state (λ k few.
      w.nodes i k h few s l (clear (first_word T i + k) (inr (i, h, (omega arith, omega (arith, few)))) s));
}
  where
    clear : (k : ℕ) → AllCells T k → (s : ℕ) → member (get_or looks k 0) s ≡ false
    clear k e s = ap (λ (x : ℕ). member x s) (none k e) ∙ member-zero s

pub all_rest : (T : Table) → Wellformed T → (M : Memory) → RestStart T (knowledge T M) → RestBut T 0 (knowledge T M)
    → Rest T (knowledge T M)
all_rest T wf M start but = record {
  kept = λ s l. but.kept s l (member-zero s);
  start = start;
  nodes = λ i l s k. (but.nodes i l s k (λ e. member-zero s)).0;
  clear = λ i l s k. (but.nodes i l s k (λ e. member-zero s)).1;
  first = λ i fam q a b l e. ap (λ (o : Operator). row_at M.rows (node_place (second_child o))) e;
  last = λ i fam q a b l e. level_last T M i (second_child (operator_of (node_at T i))) wf.some_state;
}
