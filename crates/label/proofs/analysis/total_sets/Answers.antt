-- `total_sets` meets its contract: the words of the code are the sets of the definitions.
use Prim.Native.Nat.{ℕ, ◌-◌, ◌≤◌, ◌<◌}
use mathlib.Core.Path.{◌≡◌, sym, ap, ◌∙◌}
use mathlib.Core.Bool.{Bool, true, false, cond}
use mathlib.Core.List.{List}
use native.Mathlib.Omega.{arith}
use lib.ListN.{length, get_or, replicate}
use Rattle.std.specs.Prelude.{Ok, Err}
use Rattle.sets.specs.Member.{set_of}
use Rattle.table.specs.declared.refusal.Refusal.TheVariants.{NotTotal}
use Rattle.table.specs.Table.{table_of, states_part, initial_at}
use Rattle.table.specs.Accept.{table_verdict}
use Rattle.table.specs.Rows.{target_sets}
use Rattle.table.specs.StateSets.{initial_word}
use Rattle.table.proofs.Facts.{accepted, state_read_lem}
use Rattle.table.proofs.TargetSets.{targets_rows}
use Rattle.ctl.specs.Labels.{kept_steps, is_kept, marked}
use Rattle.ctl.specs.Rule.{root_index}
use Rattle.ctl.specs.Tests.{is_total}
use Rattle.ctl.proofs.Tabulate.{get_d_tabulate}
use Rattle.label.specs.declared.analysis.Analysis.{Analysis}
use Rattle.label.specs.declared.rows.KeptRows.{KeptRows as Rows}
use Rattle.label.specs.Words.{kept_word, total_rows, pass_words}
use Rattle.label.specs.Analysis.{label_words, sets_of}
use Rattle.label.proofs.Next.{KeptRows}
use Rattle.label.proofs.Kept.{StateBytes, kept_word_lem, total_word, initial_word_lem}
use Rattle.label.proofs.PassWords.{pass_words_lem}
use Rattle.label.proofs.analysis.total_sets.Goals as goal

module _ (table list : List ℕ) (ok : table_verdict table ≡ Ok tt) where
  few_nodes : (f : ℕ) → f ≡ length (table_of table).nodes → (1 ≤ f) × (f ≤ 32)
  few_nodes f e =
      (omega (arith, (accepted table ok).table.some_node), omega (arith, (accepted table ok).table.few_nodes))

  -- the states' bytes are those of the table's states
  bytes : StateBytes (table_of table) (states_part table)
  bytes s h = state_read_lem table s (omega (arith, (accepted table ok).states_count, h))

  module _ (k : Rows) (r : k.rows ≡ target_sets (kept_steps (table_of table).steps list))
      (n : k.states ≡ length (table_of table).states) where
    abbrev kept_rows : KeptRows (table_of table) list k.rows
    kept_rows = record {
      table = (accepted table ok).table;
      steps = rw r (targets_rows (kept_steps (table_of table).steps list));
    }

    kept_word_is : k.kept ≡ kept_word k.rows (length (table_of table).states)
    kept_word_is = k.kept_are ∙ ap (kept_word k.rows) n

    kept_is : k.kept ≡ set_of 32 (is_kept (table_of table) list)
    kept_is = kept_word_is ∙ kept_word_lem kept_rows

    total-is : (b : Bool) → b ≡ total_rows k.rows k.kept → b ≡ is_total (table_of table) list
    total-is b f = f ∙ ap (total_rows k.rows) kept_word_is ∙ total_word kept_rows

    initial_is : (part : List ℕ) → part ≡ states_part table → (i : ℕ) → i ≡ initial_word part k.states
        → i ≡ set_of 32 (initial_at (table_of table))
    initial_is part e i f =
        f ∙ (λ j. initial_word (e j) (n j))
        ∙ initial_word_lem (table_of table) (accepted table ok).table (states_part table) bytes

    words_are : (w : List ℕ)
        → w ≡ pass_words k.rows k.kept k.states (states_part table) 0 (table_of table).nodes (replicate 32 0)
        → w ≡ label_words (table_of table) list
    words_are w f =
        f
        ∙ ap (λ (m : ℕ). pass_words k.rows k.kept m (states_part table) 0 (table_of table).nodes (replicate 32 0)) n
        ∙ pass_words_lem kept_rows k.kept kept_is (states_part table) bytes

    -- the word of the last node is the root's set
    root_is : (f : ℕ) → f ≡ length (table_of table).nodes → (w : List ℕ) → w ≡ label_words (table_of table) list
        → get_or w (f - 1) 0 ≡ set_of 32 (marked (table_of table) list (root_index (table_of table)))
    root_is f e w v =
        let inside : root_index (table_of table) < 32 = omega (arith, (accepted table ok).table.few_nodes) in
        (λ j. get_or (v j) (e j - 1) 0)
        ∙ get_d_tabulate 32 (λ i. set_of 32 (marked (table_of table) list i)) (root_index (table_of table)) 0 inside

pub returns-then-not-is_total : goal.returns-then-not-is_total
returns-then-not-is_total c =
    let t = c.args.table.now in
    let l = c.args.list.now in
    let k = c.new-k in
    let total : is_total (table_of t.bytes.now) l ≡ false =
    sym (total-is t.bytes.now l t.passes k.result k.ensures.rows_are k.ensures.states_are c.is_total.result
    c.is_total.ensures) ∙ c.if-not-is_total.true in
    sym (ap (λ (b : Bool). cond b (Ok (sets_of (table_of t.bytes.now) l)) (Err NotTotal)) total)

pub overflow_sub-result : goal.overflow_sub-result
overflow_sub-result c =
    let t = c.args.table.now in
    (few_nodes t.bytes.now c.args.list.now t.passes c.node_count.result c.node_count.ensures).0

pub offset_bounds-words-node_count : goal.offset_bounds-words-node_count
offset_bounds-words-node_count c =
    let t = c.args.table.now in
    omega (arith, (few_nodes t.bytes.now c.args.list.now t.passes c.node_count.result c.node_count.ensures).1)

pub bounds-words-node_count : goal.bounds-words-node_count
bounds-words-node_count c =
    let t = c.args.table.now in
    let few = few_nodes t.bytes.now c.args.list.now t.passes c.node_count.result c.node_count.ensures in
    omega (arith, few.0, few.1)

pub returns : goal.returns
returns c =
    let t = c.args.table.now in
    let b = t.bytes.now in
    let l = c.args.list.now in
    let k = c.new-k in
    let total : is_total (table_of b) l ≡ true =
    sym (total-is b l t.passes k.result k.ensures.rows_are k.ensures.states_are c.is_total.result c.is_total.ensures)
    ∙ c.if-not-is_total.false in
    let words = words_are b l t.passes k.result k.ensures.rows_are k.ensures.states_are c.label_pass-words.result
    c.label_pass-words.ensures in
    let sets : ◌≡◌ {A = Analysis} (record {
      rows = k.result.rows;
      initial = c.initial_states.result;
      kept = k.result.kept;
      root = get_or c.label_pass-words.result (c.node_count.result - 1) 0;
      words = c.label_pass-words.result;
    }) (sets_of (table_of b) l) =
    (λ j. record {
      rows = k.ensures.rows_are j;
      initial =
          initial_is b l t.passes k.result k.ensures.rows_are k.ensures.states_are t.states.now t.states_are
          c.initial_states.result c.initial_states.ensures j;
      kept = kept_is b l t.passes k.result k.ensures.rows_are k.ensures.states_are j;
      root =
          root_is b l t.passes k.result k.ensures.rows_are k.ensures.states_are c.node_count.result c.node_count.ensures
          c.label_pass-words.result words j;
      words = words j;
    }) in
    ap Ok sets ∙ sym (ap (λ (q : Bool). cond q (Ok (sets_of (table_of b) l)) (Err NotTotal)) total)
