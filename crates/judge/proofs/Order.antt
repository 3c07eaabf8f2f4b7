-- The judge's tests in their order: those of the analysis, and then 12, 16 and 13.
use Prim.Native.Nat.{ℕ}
use mathlib.Core.Path.{◌≡◌, sym, ap, ◌∙◌}
use mathlib.Core.Bool.{true}
use mathlib.Core.List.{List}
use lib.ListN.{length}
use Rattle.table.specs.declared.refusal.Refusal.TheVariants.{NotTotal, NoInitialKept, RootFails, UnreachedStep}
use Rattle.table.specs.Verdict.{Verdict, require, ◌then◌}
use Rattle.table.specs.Table.{Table, table_of}
use Rattle.table.specs.Accept.{table_verdict, list_verdict}
use Rattle.ctl.specs.Tests.{is_total, keeps_initial, leaves_reached, root_marked, judge_verdict}
use Rattle.label.specs.Analysis.{analysis_verdict}
use Rattle.table.proofs.Verdicts.{then_assoc}

-- what is tested after the analysis
abbrev pub last_tests : Table → List ℕ → Verdict
last_tests T list =
    require NoInitialKept (keeps_initial T list) then require UnreachedStep (leaves_reached T list)
    then require RootFails (root_marked T list)

pub judge_order : (table list : List ℕ)
    → judge_verdict table list ≡ analysis_verdict true table list then last_tests (table_of table) list
unfolding judge_verdict analysis_verdict
judge_order table list =
    let t = table_verdict table in
    let l = list_verdict (length (table_of table).steps) list in
    let total = require NotTotal (is_total (table_of table) list) in
    let rest = last_tests (table_of table) list in
    sym (then_assoc t (l then total) rest ∙ ap (λ (v : Verdict). t then v) (then_assoc l total rest))
