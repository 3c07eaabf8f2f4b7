-- Looking at K and at the initial states: rows alone change, and where nothing was added they are at rest.
use Prim.Native.Nat.{ℕ, ◌^◌, ◌<◌}
use mathlib.Core.Path.{◌≡◌, refl, sym, ap, subst, ◌∙◌}
use mathlib.Core.Bool.{true, false}
use mathlib.Core.List.{List}
use lib.Bits.{bit_and}
use lib.Dec.{ltb}
use lib.ListN.{length, get_or, set}
use Rattle.sets.specs.Member.{member, set_of}
use Rattle.sets.proofs.Walk.{others}
use Rattle.table.specs.Table.{Table}
use Rattle.table.specs.Facts.{Wellformed}
use Rattle.table.specs.Rows.{target_set}
use Rattle.ctl.specs.Rule.{root_index}
use Rattle.rows.specs.declared.row.Report.{Report}
use Rattle.rows.specs.Words.{both_reports, quiet}
use Rattle.propagate.specs.Memory.{Memory, memory, stepped, Stepped}
use Rattle.propagate.specs.Marked.{RowsMarked}
use Rattle.readers.proofs.MarkLaws.{Gone, gone_next, gone_last}
use Rattle.closure.specs.Knowledge.{Knowledge, knowledge, Sized}
use Rattle.closure.specs.Rest.{initial_set, RestKept, RestStart}
use Rattle.closure.specs.Advance.{Advance}
use Rattle.closure.specs.MemoryRules.{kept_step, start_step}
use Rattle.closure.proofs.Advances.{advance_so, advance_then, advance_failed, quiet_parts, quiet_still}
use Rattle.closure.proofs.KeptAdvance.{kept_advance, start_advance}
use Rattle.events.specs.declared.net.Net.{Net}
use Rattle.events.specs.NetTable.{table_in}
use Rattle.events.specs.Looked.{Always, KeptAlone, Looked}
use Rattle.events.proofs.SettingFacts.{wellformed}
use Rattle.events.proofs.LookWords.{word_here}
use Rattle.events.proofs.Looking.{levels_stay, looked_step, looked_loud, kept_word, looked_emptied}

-- ---- a step of the rules that changes rows alone

module _ (net : Net) (rows rows' looks looks' : List ℕ) (r : Report) (calm : r.changed ≡ false → looks' ≡ looks)
    (marked : RowsMarked net.graph.readers looks looks' rows rows') where
  pub rows_step : {Q : Knowledge → Type 0} (w : List ℕ) → Sized (table_in net) (memory rows w)
      → Advance (table_in net) Q (memory rows w) (memory rows' w) r
      → Looked (table_in net) (λ k. ⊥) Q looks looks' (memory rows w) (memory rows' w) r
  rows_step w sized a = looked_step (table_in net) (wellformed net) net.graph.readers looks looks' net.setting.reads
      (memory rows w) (memory rows' w) sized a calm marked
      (levels_stay (table_in net) (wellformed net) net.graph.readers looks looks' net.setting.reads (memory rows w)
      (memory rows' w) marked refl)

-- ---- K at the states of a set, one after the other

-- those that are not left were looked at, whatever the levels are
abbrev pub KeptOn : Table → ℕ → ℕ → List ℕ → List ℕ → Report → Type 0
KeptOn T look left rows₀ rows r = (w : List ℕ) → Sized T (memory rows₀ w)
    → Advance T (λ K. Gone look left (RestKept T K)) (memory rows₀ w) (memory rows w) r

module _ (T : Table) (look : ℕ) where
  pub kept_next : Wellformed T → (targets : List ℕ) (left s : ℕ) → get_or targets s 0 ≡ target_set T.steps s
      → s < length T.states
      → (rows₀ rows rows' : List ℕ) (r q z : Report) → KeptOn T look left rows₀ rows r
      → ((w : List ℕ) → stepped rows' w q ≡ kept_step targets s (memory rows w)) → z ≡ both_reports r q
      → KeptOn T look (others left s) rows₀ rows' z
  kept_next wf targets left s e l rows₀ rows rows' r q z before step both w sized =
      let b = before w sized in
      let go = subst (λ (x : Stepped). Advance T (λ K. RestKept T K s) (memory rows w) x.memory x.report) (sym (step w))
      (kept_advance T wf (memory rows w) b.sized targets s e l) in
      subst (Advance T (λ K. Gone look (others left s) (RestKept T K)) (memory rows₀ w) (memory rows' w)) (sym both)
      (advance_so T (λ p. gone_next look left s _ _ (λ t h. h) p.0 p.1) (advance_then T b go))

  pub kept_last : (left : ℕ) → look < 2 ^ 32 → left ≡ 0 → (rows₀ rows : List ℕ) (r : Report)
      → KeptOn T look left rows₀ rows r
      → (w : List ℕ) → Sized T (memory rows₀ w) → KeptAlone T look (memory rows₀ w) (memory rows w) r
  kept_last left small none rows₀ rows r g w sized =
      advance_so T (λ p s l m. gone_last look left _ small none p s m) (g w sized)

  -- something is known both ways
  pub kept_failed : (left : ℕ) (rows₀ rows : List ℕ) (r : Report) → r.fails ≡ true → KeptOn T look left rows₀ rows r
      → (w : List ℕ) → Sized T (memory rows₀ w) → KeptAlone T look (memory rows₀ w) (memory rows w) r
  kept_failed left rows₀ rows r f g w sized = advance_failed T f (g w sized)

-- ---- K, when it was looked at

module _ (net : Net) (rows rows' looks looks' : List ℕ) (r : Report) (calm : r.changed ≡ false → looks' ≡ looks)
    (marked : RowsMarked net.graph.readers looks looks' rows rows') (all : ℕ)
    (is_all : all ≡ set_of 32 (λ t. ltb t net.graph.states))
    (alone : (w : List ℕ) → Sized (table_in net) (memory rows w)
    → KeptAlone (table_in net) (bit_and (get_or looks 0 0) all) (memory rows w) (memory rows' w) r)
    (w : List ℕ) (sized : Sized (table_in net) (memory rows w)) where
  abbrev T : Table
  T = table_in net

  pub kept_loud : quiet r ≡ false
      → Looked (table_in net) (λ k. k ≡ 0) Always looks looks' (memory rows w) (memory rows' w) r
  kept_loud loud = looked_loud loud (rows_step net rows rows' looks looks' r calm marked w sized (alone w sized))

  pub kept_calm : (inside : 0 < length looks') → quiet r ≡ true
      → Looked (table_in net) (λ k. k ≡ 0) Always looks (set looks' 0 0) (memory rows w) (memory rows' w) r
  kept_calm inside still =
      looked_emptied 0 inside (rows_step net rows rows' looks looks' r calm marked w sized (alone w sized)) still
      (kept_word T looks' (knowledge T (memory rows' w)) (λ s l m. quiet_still (alone w sized) still s l
      (word_here T (wellformed net).few_states (get_or looks 0 0) all
      (is_all ∙ ap (λ (n : ℕ). set_of 32 (λ t. ltb t n)) net.setting.states) s l
      (sym (ap (λ (ws : List ℕ). member (get_or ws 0 0) s) (calm (unchanged still))) ∙ m))))
    where
      unchanged : quiet r ≡ true → r.changed ≡ false
      unchanged e = (quiet_parts r e).0

-- ---- the initial states of a net and its root are the table's

module _ (T : Table) (wf : Wellformed T) where
  starts : (initial root : ℕ) → initial ≡ initial_set T → root ≡ root_index T → (M N : Memory) (r : Report) → Sized T M
      → record { memory = N; report = r } ≡ start_step initial root M → Advance T (RestStart T) M N r
  starts initial root p q M N r sized e =
      subst (λ (x : Stepped). Advance T (RestStart T) M x.memory x.report) (sym e)
      (subst (λ (k : ℕ). Advance T (RestStart T) M (start_step initial k M).memory (start_step initial k M).report)
      (sym q)
      (subst (λ (i : ℕ). Advance T (RestStart T) M (start_step i (root_index T) M).memory
      (start_step i (root_index T) M).report) (sym p) (start_advance T wf M sized)))

pub start_does : (net : Net) (root : ℕ) → root ≡ root_index (table_in net) → (M N : Memory) (r : Report)
    → Sized (table_in net) M
    → record { memory = N; report = r } ≡ start_step net.initial root M
    → Advance (table_in net) (RestStart (table_in net)) M N r
start_does net root = starts (table_in net) (wellformed net) net.initial root net.setting.initial_states
