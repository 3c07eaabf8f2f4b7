-- `label_nodes` meets its contract: a refusal writes nothing, and an accepted list has a word for each node.
use Prim.Native.Nat.{ℕ, ◌≤◌}
use mathlib.Core.Path.{◌≡◌, sym, ap, ◌∙◌}
use mathlib.Core.List.{List, ◌++◌}
use native.Mathlib.Omega.{arith}
use borrow.Author.Tests.{leb-true}
use lib.ListN.{length, take, drop}
use Rattle.std.proofs.Common.{rules}
use Rattle.std.specs.Prelude.{Result, Ok, Err}
use Rattle.table.specs.declared.refusal.Refusal.{Refusal}
use Rattle.table.specs.Verdict.{Verdict}
use Rattle.table.specs.Table.{table_of}
use Rattle.table.specs.Buffer.{on_accepted, over}
use Rattle.table.proofs.Facts.{accepted}
use Rattle.label.specs.declared.analysis.Analysis.{Analysis}
use Rattle.label.specs.declared.room.Room.TheVariants.{Nodes}
use Rattle.label.specs.Analysis.{label_words, analysis_of}
use Rattle.label.specs.Calls.{label_verdict, label_buffer}
use Rattle.label.proofs.Exact.{label_marks, label_unmarked}
use Rattle.label.proofs.Order.{table_refused_first, table_accepted, room_accepted}
use Rattle.label.proofs.Tests.{verdict_passes, verdict_refuses}
use Rattle.label.proofs.Ways.{analysis_moved, way_refused, way_passed}
use Rattle.label.proofs.label.label_nodes.Goals as goal

-- what the buffer holds by the verdict
buffer_at : (table list out : List ℕ) (v : Verdict) → label_verdict table list (length out) ≡ v
    → on_accepted v (over (length (table_of table).nodes) (label_words (table_of table) list) out) out
    ≡ label_buffer table list out
buffer_at table list out v e =
    sym (ap (λ (w : Verdict). on_accepted w
    (over (length (table_of table).nodes) (label_words (table_of table) list) out) out) e)

pub returns-in_err-table : goal.returns-in_err-table
returns-in_err-table c =
    let t = c.args.table.now in
    let l = c.args.list.now in
    let out = c.args.out.now in
    let entries = length (table_of t).nodes in
    let r = c.in_err-table.field-0.0 in
    let gives : c.from_residual.result ≡ Err r = search rules in
    let refused = table_refused_first _ t l r c.in_err-table.ensures.0 in
    let told = gives ∙ sym refused in
    let left = buffer_at t l out (Err r) refused in
    record {
      value = told;
      out_after = left;
      accepted = verdict_passes entries (length out) t l _ told;
      refused = verdict_refuses entries (length out) t l _ told;
      marks = label_marks t l out out left _ told;
      untouched = label_unmarked t l out out left _ told;
    }

pub returns-in_err-a : goal.returns-in_err-a
returns-in_err-a c =
    let t = c.args.table.now in
    let l = c.args.list.now in
    let out = c.args.out.now in
    let entries = length (table_of t).nodes in
    let r = c.in_err-a.field-0.0 in
    let gives : c.from_residual-in_err-a.result ≡ Err r = search rules in
    let refused = way_refused (Nodes (length out)) t l r
    (sym c.in_err-a.was ∙ analysis_moved (Nodes (length out)) l _ t c.in_ok-table.ensures.0 _ c.analyse.ensures) in
    let told = gives ∙ sym refused in
    let left = buffer_at t l out (Err r) refused in
    record {
      value = told;
      out_after = left;
      accepted = verdict_passes entries (length out) t l _ told;
      refused = verdict_refuses entries (length out) t l _ told;
      marks = label_marks t l out out left _ told;
      untouched = label_unmarked t l out out left _ told;
    }

-- an accepted table has at most 32 nodes, and the buffer has an entry for each
counted : (bytes table list : List ℕ) (room : ℕ) (a : Analysis) (x : Result Analysis Refusal) → x ≡ Ok a
    → x ≡ analysis_of (Nodes room) bytes list → bytes ≡ table
    → (k : ℕ) → k ≡ length (table_of bytes).nodes → (k ≡ length (table_of table).nodes) × (k ≤ 32) × (k ≤ room)
counted bytes table list room a x was gives same k e =
    let ok = (way_passed (Nodes room) table list a
    (sym was ∙ analysis_moved (Nodes room) list bytes table same x gives)).0 in
    let f : k ≡ length (table_of table).nodes = e ∙ ap (λ (b : List ℕ). length (table_of b).nodes) same in
    let fits = leb-true (length (table_of table).nodes) room (room_accepted _ table list ok) in
    (f, omega (arith, f, (accepted table (table_accepted _ table list ok)).table.few_nodes), omega (arith, f, fits))

pub copy_from_slice-requires : goal.copy_from_slice-requires
copy_from_slice-requires c =
    let k = counted _ c.args.table.now c.args.list.now
    (length c.args.out.now) c.in_ok-a.a _ c.in_ok-a.was c.analyse.ensures c.in_ok-table.ensures.0
    c.node_count-f.result c.node_count-f.ensures in
    search (rules, k)

pub slice_bounds-copy_from_slice-end : goal.slice_bounds-copy_from_slice-end
slice_bounds-copy_from_slice-end c =
    let k = counted _ c.args.table.now c.args.list.now
    (length c.args.out.now) c.in_ok-a.a _ c.in_ok-a.was c.analyse.ensures c.in_ok-table.ensures.0
    c.node_count-f.result c.node_count-f.ensures in
    k.2

pub slice_bounds-copy_from_slice-end-2 : goal.slice_bounds-copy_from_slice-end-2
slice_bounds-copy_from_slice-end-2 c =
    let k = counted _ c.args.table.now c.args.list.now
    (length c.args.out.now) c.in_ok-a.a _ c.in_ok-a.was c.analyse.ensures c.in_ok-table.ensures.0
    c.node_count-f.result c.node_count-f.ensures in
    search (rules, k)

pub returns : goal.returns
returns c =
    let t = c.args.table.now in
    let l = c.args.list.now in
    let out = c.args.out.now in
    let entries = length (table_of t).nodes in
    let way = way_passed (Nodes (length out)) t l c.in_ok-a.a
    (sym c.in_ok-a.was ∙ analysis_moved (Nodes (length out)) l _ t c.in_ok-table.ensures.0 _ c.analyse.ensures) in
    let f = (counted _ t l
    (length out) c.in_ok-a.a _ c.in_ok-a.was c.analyse.ensures c.in_ok-table.ensures.0
    c.node_count-f.result c.node_count-f.ensures).0 in
    let words : c.in_ok-a.a.words ≡ label_words (table_of t) l = ap (λ (x : Analysis). x.words) way.1 in
    let written : c.copy_from_slice.new.self ≡ take c.node_count-f.result c.in_ok-a.a.words = search rules in
    let told = sym way.0 in
    let left = ap (λ (xs : List ℕ). xs ++ drop c.node_count-f.result out) written ∙ (λ i. over (f i) (words i) out)
    ∙ buffer_at t l out (Ok tt) way.0 in
    record {
      value = told;
      out_after = left;
      accepted = verdict_passes entries (length out) t l _ told;
      refused = verdict_refuses entries (length out) t l _ told;
      marks = label_marks t l out _ left _ told;
      untouched = tt;
    }
