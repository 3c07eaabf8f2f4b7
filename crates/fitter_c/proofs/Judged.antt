-- The judge's number is 0 exactly where it accepts, and it accepts exactly the narrow repairs.
use Prim.Native.Nat.{ℕ}
use mathlib.Core.Path.{◌≡◌, refl, sym, ap, ◌∙◌}
use mathlib.Core.Logic.{◌↔◌}
use mathlib.Core.List.{List}
use Rattle.std.specs.Prelude.{Ok, Err}
use Rattle.table.specs.Verdict.{Verdict, verdict_number}
use Rattle.table.specs.Table.{table_of}
use Rattle.table.specs.Facts.{IsTable}
use Rattle.ctl.specs.Kept.{NarrowRepair}
use Rattle.ctl.specs.Tests.{judge_verdict}
use Rattle.ctl.proofs.Refused.{judge_exact}
use Rattle.fitter.proofs.Numbers.{of_none}

number_0 : (v : Verdict) → verdict_number v ≡ 0 → v ≡ Ok tt
number_0 (Ok tt) e = refl
number_0 (Err r) e = absurd (of_none 0 refl r e)

pub judged_exact : (table list : List ℕ) (n : ℕ) → n ≡ verdict_number (judge_verdict table list)
    → (n ≡ 0) ↔ (IsTable table × NarrowRepair (table_of table) list)
judged_exact table list n e =
    let exact = judge_exact table list in
    (λ z. exact.0 (number_0 (judge_verdict table list) (sym e ∙ z)), λ h. e ∙ ap verdict_number (exact.1 h))
