-- Looking at cells: a step whose changes are marked, a word that is emptied, nothing to look at; and one thing after
-- the other.
use Prim.Native.Nat.{ℕ, suc, ◌+◌, ◌<◌}
use native.Mathlib.Decide.{ℕ_discrete, dec_lt}
use native.Mathlib.Omega.{arith}
use mathlib.Core.Path.{◌≡◌, refl, sym, ap, subst, ◌∙◌}
use mathlib.Core.Bool.{Bool, true, false, cond, ◌||◌, true≢false}
use mathlib.Core.Logic.{◌⊎◌, inl, ⊎_elim}
use mathlib.Core.List.{List}
use borrow.Author.Tests.{not-false}
use lib.Dec.{eqb}
use lib.ListN.{length, get_or, set, length-set}
use lib.Seq.{get_or-set_same, get_or-set_other}
use Rattle.sets.specs.Member.{member}
use Rattle.table.specs.Table.{Table, node_at}
use Rattle.table.specs.Facts.{Wellformed}
use Rattle.table.proofs.Bools.{or_neither}
use Rattle.ctl.specs.Rule.{operator_of}
use Rattle.rows.specs.declared.row.Report.{Report}
use Rattle.rows.specs.Row.{known, Within}
use Rattle.rows.specs.Words.{row_at, both_reports, quiet}
use Rattle.propagate.specs.Memory.{Memory, node_place, kept_place, node_row}
use Rattle.propagate.specs.Marked.{RowsMarked}
use Rattle.readers.specs.declared.who_reads.Readers.{Readers}
use Rattle.readers.specs.Readers.{row_count, first_word, AreReaders}
use Rattle.readers.proofs.Places.{first_before}
use Rattle.closure.specs.Knowledge.{Knowledge, knowledge, Sized, second_child}
use Rattle.closure.specs.Advance.{Founded, Grows, Advance}
use Rattle.closure.specs.Rest.{RestKept}
use Rattle.events.specs.Watched.{More, RestCell, Watched}
use Rattle.events.specs.Looked.{Always, Looked}
use Rattle.closure.proofs.Ends.{target_true}
use Rattle.closure.proofs.RestBackFull.{OfTable}
use Rattle.propagate.proofs.Chain.{quiet_is}
use Rattle.closure.proofs.Advances.{advance_failing, Both, advance_so, advance_then, quiet_parts}
use Rattle.closure.proofs.KnowledgeInParts.{word_place}
use Rattle.events.proofs.Closing.{small_knowledge}
use Rattle.events.proofs.Frame.{frame}
use Rattle.events.proofs.Noting.{LevelsNoted, noted}

-- ---- what frames need

-- the step rows have only steps of the table, where what is known is forced
pub founded_steps : (T : Table) → Wellformed T → (M : Memory) → Founded T M → OfTable T (knowledge T M)
founded_steps T wf M (P, inside) s h t e = let x = inside.steps s h true t e in (target_true T wf s t).1 (
  x.0,
  x.1,
  x.2,
  x.3,
)

-- rows whose words only got bits
row_more : (xs ys : List ℕ) → Grows xs ys → (at : ℕ) → Within (row_at xs at) (row_at ys at)
row_more xs ys g at s true e = g at s e
row_more xs ys g at s false e = g (at + 1) s e

pub advance_knows : {T : Table} {Q : Knowledge → Type 0} {M N : Memory} {r : Report} → Advance T Q M N r
    → More (knowledge T M) (knowledge T N)
advance_knows {T} {Q} {M} {N} a = record {
  kept = row_more M.rows N.rows a.grows_rows kept_place;
  nodes = λ i. row_more M.rows N.rows a.grows_rows (node_place i);
  levels = λ i m. pick i m (eqb m 0) (eqb m (length T.states));
}
  where
    pick : (i m : ℕ) (first last : Bool)
        → Within (cond first (node_row M (second_child (operator_of (node_at T i))))
        (cond last (node_row M i) (row_at M.words (word_place T i m))))
        (cond first (node_row N (second_child (operator_of (node_at T i))))
        (cond last (node_row N i) (row_at N.words (word_place T i m))))
    pick i m true last = row_more M.rows N.rows a.grows_rows _
    pick i m false true = row_more M.rows N.rows a.grows_rows _
    pick i m false false = row_more M.words N.words a.grows_words _

-- ---- a step of the rules, whose changes are marked

-- where no words of levels have changed
pub levels_stay : (T : Table) (wf : Wellformed T) (r : Readers) (looks₀ looks : List ℕ) (reads : AreReaders T r)
    (M N : Memory) (rows : RowsMarked r looks₀ looks M.rows N.rows)
    → N.words ≡ M.words → LevelsNoted T wf r looks₀ looks reads M N rows
levels_stay T wf r looks₀ looks reads M N rows e i h has m few t =
    inl (λ sign. ap (λ (ws : List ℕ). known (row_at ws (word_place T i (suc m))) sign t) e)

pub looked_step : (T : Table) (wf : Wellformed T) {Q : Knowledge
    → Type 0} (r : Readers) (looks looks' : List ℕ) (reads : AreReaders T r) (M N : Memory) {p : Report} → Sized T M
    → Advance T Q M N p → (p.changed ≡ false → looks' ≡ looks) → (rows : RowsMarked r looks looks' M.rows N.rows)
    → LevelsNoted T wf r looks looks' reads M N rows → Looked T (λ k. ⊥) Q looks looks' M N p
looked_step T wf r looks looks' reads M N {p} sized a calm rows levels = record {
  advance = a;
  size = rows.raised.same_length;
  watched = λ f founded watched. frame T wf looks looks' (knowledge T M) (knowledge T N) (small_knowledge sized)
      (small_knowledge a.sized)
      (founded_steps T wf M founded) (advance_knows a) rows.raised.stays
      (noted T wf r looks looks' reads M N rows levels) watched;
  still = λ c f k e. ap (λ (ws : List ℕ). get_or ws k 0) (calm c) ∙ e;
  done = λ c f k e. absurd e;
}

-- ---- nothing is done

pub looked_still : {T : Table} {Q : Knowledge → Type 0} (looks : List ℕ) {M N : Memory} {r : Report}
    → Advance T Q M N r → quiet r ≡ true
    → Looked T (λ k. get_or looks k 0 ≡ 0) Q looks looks M N r
looked_still {T} {Q} looks {M} {N} {r} a calm = record {
  advance = a;
  size = refl;
  watched = λ f founded w. subst (λ (O : Memory). Watched T looks (knowledge T O))
      (sym (a.unchanged (quiet_parts r calm).0)) w;
  still = λ c f k e. e;
  done = λ c f k e. e;
}

pub looked_none : (T : Table) (looks : List ℕ) (M : Memory) → Sized T M → (r : Report)
    → (r.changed ≡ false) × (r.fails ≡ false)
    → Looked T (λ k. get_or looks k 0 ≡ 0) Always looks looks M M r
looked_none T looks M sized r none =
    subst (Looked T (λ k. get_or looks k 0 ≡ 0) Always looks looks M M) (sym (quiet_is r none))
    (looked_still looks (advance_so T (λ z. tt) (advance_failing T false M sized (λ e. absurd (true≢false (sym e)))))
    refl)

-- ---- told another way

pub looked_so : {T : Table} {D E : ℕ → Type 0} {P Q : Knowledge
    → Type 0} {looks looks' : List ℕ} {M N : Memory} {r : Report}
    → (r.changed ≡ false → r.fails ≡ false → (k : ℕ) → E k → D k) → (P (knowledge T M) → Q (knowledge T M))
    → Looked T D P looks looks' M N r → Looked T E Q looks looks' M N r
looked_so {T} d q l = record {
  advance = advance_so T q l.advance;
  size = l.size;
  watched = l.watched;
  still = l.still;
  done = λ c f k e. l.done c f k (d c f k e);
}

-- something was added, or something is known both ways: no word need be empty
pub looked_loud : {T : Table} {D E : ℕ → Type 0} {P : Knowledge
    → Type 0} {looks looks' : List ℕ} {M N : Memory} {r : Report} → quiet r ≡ false
    → Looked T D P looks looks' M N r → Looked T E Always looks looks' M N r
looked_loud {r = r} loud = looked_so
    (λ c f k e. absurd (true≢false (sym (not-false (r.changed || r.fails) loud) ∙ (λ i. c i || f i)))) (λ z. tt)

-- ---- a word is emptied, whose cells are at rest

-- the cells that a word has
pub record WordRests (T : Table) (looks : List ℕ) (k : ℕ) (K : Knowledge) : Type 0 where
  pub kept : k ≡ 0 → (s : ℕ) → s < length T.states → member (get_or looks k 0) s ≡ true → RestKept T K s
  pub nodes : (i m : ℕ) → i < length T.nodes → m < row_count (length T.states) (operator_of (node_at T i))
      → first_word T i + m ≡ k
      → (s : ℕ) → s < length T.states → member (get_or looks k 0) s ≡ true
      → RestCell T K i m (operator_of (node_at T i)) s

-- that of K has no others, and neither has one of a node
pub kept_word : (T : Table) (looks : List ℕ) (K : Knowledge)
    → ((s : ℕ) → s < length T.states → member (get_or looks 0 0) s ≡ true → RestKept T K s) → WordRests T looks 0 K
kept_word T looks K rest = record { kept = λ e. rest; nodes = λ i m h l e. absurd (omega (arith, e)) }

pub cell_word : (T : Table) (looks : List ℕ) (K : Knowledge) (i m : ℕ) → i < length T.nodes
    → m < row_count (length T.states) (operator_of (node_at T i))
    → ((s : ℕ) → s < length T.states → member (get_or looks (first_word T i + m) 0) s ≡ true
    → RestCell T K i m (operator_of (node_at T i)) s)
    → WordRests T looks (first_word T i + m) K
cell_word T looks K i m h l rest = record {
  kept = λ e. absurd (omega (arith, e));
  nodes = λ j k g g' e s few here. go j k g g' e s few here (dec_lt i j) (dec_lt j i);
}
  where
    go : (j k : ℕ) → j < length T.nodes → k < row_count (length T.states) (operator_of (node_at T j))
        → first_word T j + k ≡ first_word T i + m
        → (s : ℕ) → s < length T.states → member (get_or looks (first_word T i + m) 0) s ≡ true → Dec (i < j)
        → Dec (j < i) → RestCell T K j k (operator_of (node_at T j)) s
    go j k g g' e s few here (yes p) d = absurd (omega (arith, e, l, first_before T i j p g))
    go j k g g' e s few here (no p) (yes q) = absurd (omega (arith, e, g', first_before T j i q h))
    go j k g g' e s few here (no p) (no q) =
        let same : j ≡ i = omega (arith, p, q) in
        let row : k ≡ m = omega (arith, e, ap (first_word T) same) in
        subst (λ (x : ℕ). RestCell T K x k (operator_of (node_at T x)) s) (sym same)
        (subst (λ (x : ℕ). RestCell T K i x (operator_of (node_at T i)) s) (sym row) (rest s few here))

module _ {T : Table} {D : ℕ → Type 0} {Q : Knowledge
    → Type 0} {looks looks' : List ℕ} {M N : Memory} {r : Report} (k : ℕ) (inside : k < length looks')
    (a : Looked T D Q looks looks' M N r) (calm : quiet r ≡ true) (rests : WordRests T looks' k (knowledge T N)) where
  parts : (r.changed ≡ false) × (r.fails ≡ false)
  parts = quiet_parts r calm

  empty : get_or (set looks' k 0) k 0 ≡ 0
  empty = get_or-set_same looks' k 0 0 inside

  -- a state that is not in a word now: it was not in it before, or the word is this one
  not-in : (j s : ℕ) → member (get_or (set looks' k 0) j 0) s ≡ false → ¬ (j ≡ k) → member (get_or looks' j 0) s ≡ false
  not-in j s out d = sym (ap (λ (w : ℕ). member w s) (get_or-set_other looks' k j 0 0 d)) ∙ out

  watched : Watched T looks' (knowledge T N) → Watched T (set looks' k 0) (knowledge T N)
  watched w = record {
    kept = λ s l out. kept s l out (ℕ_discrete 0 k) (member (get_or looks' k 0) s) refl;
    nodes = λ i m h few s l out. node i m h few s l out (ℕ_discrete (first_word T i + m) k)
        (member (get_or looks' k 0) s) refl;
  }
    where
      kept : (s : ℕ) → s < length T.states → member (get_or (set looks' k 0) 0 0) s ≡ false → Dec (0 ≡ k) → (b : Bool)
          → member (get_or looks' k 0) s ≡ b → RestKept T (knowledge T N) s
      kept s l out (no d) b m = w.kept s l (not-in 0 s out d)
      kept s l out (yes e) true m = rests.kept (sym e) s l m
      kept s l out (yes e) false m = w.kept s l (ap (λ (j : ℕ). member (get_or looks' j 0) s) e ∙ m)

      node : (i m : ℕ) → i < length T.nodes → m < row_count (length T.states) (operator_of (node_at T i)) → (s : ℕ)
          → s < length T.states
          → member (get_or (set looks' k 0) (first_word T i + m) 0) s ≡ false → Dec (first_word T i + m ≡ k)
          → (b : Bool) → member (get_or looks' k 0) s ≡ b
          → RestCell T (knowledge T N) i m (operator_of (node_at T i)) s
      node i m h few s l out (no d) b q = w.nodes i m h few s l (not-in (first_word T i + m) s out d)
      node i m h few s l out (yes e) true q = rests.nodes i m h few e s l q
      node i m h few s l out (yes e) false q =
          w.nodes i m h few s l (ap (λ (j : ℕ). member (get_or looks' j 0) s) e ∙ q)

  pub looked_emptied : Looked T (λ j. j ≡ k) Always looks (set looks' k 0) M N r
  looked_emptied = record {
    advance = advance_so T (λ z. tt) a.advance;
    size = length-set looks' k 0 ∙ a.size;
    watched = λ f founded w. watched (a.watched f founded w);
    still = λ c f j e. go j e (ℕ_discrete j k);
    done = λ c f j e. subst (λ (i : ℕ). get_or (set looks' k 0) i 0 ≡ 0) (sym e) empty;
  }
    where
      go : (j : ℕ) → get_or looks j 0 ≡ 0 → Dec (j ≡ k) → get_or (set looks' k 0) j 0 ≡ 0
      go j e (yes p) = subst (λ (i : ℕ). get_or (set looks' k 0) i 0 ≡ 0) (sym p) empty
      go j e (no d) = get_or-set_other looks' k j 0 0 d ∙ a.still parts.0 parts.1 j e

-- ---- one thing after the other

pub looked_then : {T : Table} {D E : ℕ → Type 0} {P Q : Knowledge
    → Type 0} {looks looks' looks'' : List ℕ} {M N O : Memory} {r s : Report}
    → Looked T D P looks looks' M N r → Looked T E Q looks' looks'' N O s
    → Looked T (λ k. D k ⊎ E k) (Both P Q) looks looks'' M O (both_reports r s)
looked_then {T} {r = r} {s} a b = record {
  advance = advance_then T a.advance b.advance;
  size = b.size ∙ a.size;
  watched = λ f founded w.
      let g = or_neither r.fails s.fails f in
      b.watched g.1 (founded.0, a.advance.sound founded.0 founded.1) (a.watched g.0 founded w);
  still = λ c f k e.
      let p = or_neither r.changed s.changed c in
      let g = or_neither r.fails s.fails f in
      b.still p.1 g.1 k (a.still p.0 g.0 k e);
  done = λ c f k.
      let p = or_neither r.changed s.changed c in
      let g = or_neither r.fails s.fails f in
      ⊎_elim (λ d. b.still p.1 g.1 k (a.done p.0 g.0 k d)) (λ e. b.done p.1 g.1 k e);
}
