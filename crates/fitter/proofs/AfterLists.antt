-- What Label and Holding answer and leave.
use Prim.Native.Nat.{ℕ}
use mathlib.Core.Path.{◌≡◌, refl}
use mathlib.Core.Bool.{false≢true}
use mathlib.Core.Logic.Iff
use mathlib.Core.Logic.{◌↔◌}
use mathlib.Core.List.{List}
use lib.ListN.{length}
use Rattle.std.specs.Prelude.{Ok, Err, IsOk}
use Rattle.table.specs.Verdict.{Verdict}
use Rattle.table.specs.Table.{table_of}
use Rattle.table.proofs.Verdicts.{refused}
use Rattle.label.specs.Calls.{label_verdict, label_buffer, holding_answer, holding_buffer}
use Rattle.label.proofs.Exact.{label_marks, label_unmarked}
use Rattle.label.proofs.HeldExact.{holding_passes, holding_refuses, holding_holds, holding_untouched}
use Rattle.label.proofs.Tests.{verdict_passes, verdict_refuses}
use Rattle.fitter.specs.LentMemory.{LabelLeaves, HoldingLeaves}

-- a verdict that is no refusal is the one that accepts
pub accepts : (v : Verdict) → IsOk v ↔ (v ≡ Ok tt)
accepts (Ok tt) = (λ e. refl, λ e. refl)
accepts (Err r) = (λ e. absurd (false≢true e), λ e. absurd (refused r e))

pub label_leaves : (table list before : List ℕ)
    → LabelLeaves table list (label_verdict table list (length before)) before (label_buffer table list before)
label_leaves table list before =
    let nodes = length (table_of table).nodes in
    let room = length before in
    let v = label_verdict table list room in
    let after = label_buffer table list before in
    record {
      refused = verdict_refuses nodes room table list v refl;
      untouched = label_unmarked table list before after refl v refl;
      answered = Iff.trans (accepts v) (verdict_passes nodes room table list v refl);
      written = label_marks table list before after refl v refl;
    }

pub holding_leaves : (table list before : List ℕ)
    → HoldingLeaves table list (holding_answer table list (length before)) before (holding_buffer table list before)
holding_leaves table list before =
    let answer = holding_answer table list (length before) in
    let after = holding_buffer table list before in
    record {
      refused = holding_refuses table list before after refl answer refl;
      untouched = holding_untouched table list before after refl answer refl;
      answered = holding_passes table list before after refl answer refl;
      written = holding_holds table list before after refl answer refl;
    }
