-- Label's words are the path meaning: bit s of entry i is set exactly where s is kept and node i holds, and nothing
-- else is written.
use Prim.Native.Nat.{ℕ, ◌≤◌, ◌<◌}
use mathlib.Core.Path.{◌≡◌, sym, ap, subst, ◌∙◌}
use mathlib.Core.Bool.{Bool, true, false}
use mathlib.Core.Logic.{◌↔◌}
use mathlib.Core.List.{List}
use native.Mathlib.Decide.{dec_lt}
use native.Mathlib.Omega.{arith}
use borrow.Author.Tests.{leb-true}
use lib.Dec.{leb}
use lib.ListN.{length, get_or, take}
use lib.Seq.{get_or-take, length-take-le}
use Rattle.sets.specs.Member.{member, set_of}
use Rattle.sets.proofs.Laws.{member_past}
use Rattle.sets.proofs.SetOf.{member-set_of-below, set_of-lt}
use Rattle.table.specs.declared.refusal.Refusal.{Refusal}
use Rattle.table.specs.Verdict.{Verdict}
use Rattle.std.specs.Prelude.{Ok, Err, OnOk, OnErr}
use Rattle.table.specs.Buffer.{on_accepted, over, Written}
use Rattle.table.specs.Table.{table_of}
use Rattle.table.specs.Facts.{Wellformed}
use Rattle.table.proofs.Facts.{accepted}
use Rattle.table.proofs.Buffer.{over-written}
use Rattle.table.proofs.Bools.{not_so}
use Rattle.ctl.specs.Kept.{Kept, NodeHolds}
use Rattle.ctl.specs.Labels.{marked}
use Rattle.ctl.proofs.Meaning.{labels_are_meaning, marked_kept}
use Rattle.ctl.proofs.Repair.{is-total}
use Rattle.ctl.proofs.Tabulate.{length_tabulate, get_d_tabulate}
use Rattle.ctl.proofs.Targets.{next_inside}
use Rattle.label.specs.Analysis.{label_words}
use Rattle.label.specs.Calls.{label_verdict, label_buffer}
use Rattle.label.specs.Exact.{LabelIsExact}
use Rattle.label.proofs.Order.{table_accepted, room_accepted, total_accepted}

-- a refusal leaves the buffer as it was
pub label_untouched : (table list buffer : List ℕ) (r : Refusal) → label_verdict table list (length buffer) ≡ Err r
    → label_buffer table list buffer ≡ buffer
label_untouched table list buffer r e =
    ap (λ (v : Verdict). on_accepted v
    (over (length (table_of table).nodes) (label_words (table_of table) list) buffer) buffer) e

module _ (table list buffer : List ℕ) (ok : label_verdict table list (length buffer) ≡ Ok tt) where
  abbrev wf : Wellformed (table_of table)
  wf = (accepted table (table_accepted (leb (length (table_of table).nodes) (length buffer)) table list ok)).table

  words_length : length (label_words (table_of table) list) ≡ 32
  words_length = length_tabulate 32 (λ i. set_of 32 (marked (table_of table) list i))

  front : length (take (length (table_of table).nodes) (label_words (table_of table) list))
      ≡ length (table_of table).nodes
  front =
      length-take-le (length (table_of table).nodes) (label_words (table_of table) list)
      (omega (arith, words_length, wf.few_nodes))

  -- a word for each node, and the rest as it was
  pub label_written : Written (take (length (table_of table).nodes) (label_words (table_of table) list)) buffer
      (label_buffer table list buffer)
  label_written =
      let f = length (table_of table).nodes in
      let words = label_words (table_of table) list in
      subst (λ (after : List ℕ). Written (take f words) buffer after)
      (ap (λ (v : Verdict). on_accepted v (over f words buffer) buffer) (sym ok))
      (over-written f words buffer (omega (arith, words_length, wf.few_nodes))
      (leb-true f (length buffer) (room_accepted (leb (length (table_of table).nodes) (length buffer)) table list ok)))

  -- entry i is the word of node i
  word_at : (i : ℕ) → i < length (table_of table).nodes
      → get_or (label_buffer table list buffer) i 0 ≡ set_of 32 (marked (table_of table) list i)
  word_at i h =
      label_written.front i (omega (arith, front))
      ∙ get_or-take (length (table_of table).nodes) (label_words (table_of table) list) i 0 h
      ∙ get_d_tabulate 32 (λ i. set_of 32 (marked (table_of table) list i)) i 0 (omega (arith, wf.few_nodes))

  -- no state past the last is marked
  unmarked : (i : ℕ) → i < length (table_of table).nodes → (s : ℕ) → length (table_of table).states ≤ s
      → marked (table_of table) list i s ≡ false
  unmarked i h s past = not_so (marked (table_of table) list i s) (λ e.
      let k = marked_kept (table_of table) wf list i h s e in
      omega (arith, (next_inside (table_of table) wf list s k.0 k.1).0))

  -- bit s of entry i is the mark
  bit_at : (i : ℕ) → i < length (table_of table).nodes → (s : ℕ)
      → member (get_or (label_buffer table list buffer) i 0) s ≡ marked (table_of table) list i s
  bit_at i h s = ap (λ (m : ℕ). member m s) (word_at i h) ∙ go (dec_lt s 32)
    where
      go : Dec (s < 32) → member (set_of 32 (marked (table_of table) list i)) s ≡ marked (table_of table) list i s
      go (yes l) = member-set_of-below 32 (marked (table_of table) list i) s l
      go (no d) =
          member_past 32 (set_of 32 (marked (table_of table) list i)) s (set_of-lt 32 (marked (table_of table) list i))
          (omega (arith, d))
          ∙ sym (unmarked i h s (omega (arith, d, wf.few_states)))

  pub label_exact : LabelIsExact (table_of table) list buffer (label_buffer table list buffer)
  label_exact = record {
    size = label_written.size;
    bits = λ i h s.
        let total = (is-total (table_of table) list).0
        (total_accepted (leb (length (table_of table).nodes) (length buffer)) table list ok) in
        subst (λ (b : Bool). (b ≡ true) ↔ (Kept (table_of table) list s × NodeHolds (table_of table) list i s))
        (sym (bit_at i h s))
        (labels_are_meaning (table_of table) wf list total i h s);
    high = λ i h s past. bit_at i h s ∙ unmarked i h s past;
    rest = λ i h. label_written.rest i (omega (arith, front));
  }

-- the same of an answer that is the verdict, and a buffer that is the one after it
module _ (table list before after : List ℕ) (now : after ≡ label_buffer table list before) where
  pub label_marks : (v : Verdict) → v ≡ label_verdict table list (length before)
      → OnOk v (LabelIsExact (table_of table) list before after)
  label_marks (Ok tt) e = rw now (label_exact table list before (sym e))
  label_marks (Err r) e = tt

  pub label_unmarked : (v : Verdict) → v ≡ label_verdict table list (length before) → OnErr v (after ≡ before)
  label_unmarked (Ok tt) e = tt
  label_unmarked (Err r) e = now ∙ label_untouched table list before r (sym e)
