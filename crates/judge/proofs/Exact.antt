-- What the judge's tests mean, of an answer that is their verdict.
use Prim.Native.Nat.{ℕ}
use mathlib.Core.Path.{◌≡◌, sym, ◌∙◌}
use mathlib.Core.Logic.{◌↔◌}
use mathlib.Core.List.{List}
use Rattle.std.specs.Prelude.{Ok, Err, IfErr}
use Rattle.table.specs.Verdict.{Verdict}
use Rattle.table.specs.Table.{table_of}
use Rattle.table.specs.Facts.{IsTable}
use Rattle.ctl.specs.Kept.{NarrowRepair}
use Rattle.ctl.specs.Refused.{JudgeRefused}
use Rattle.ctl.specs.Tests.{judge_verdict}
use Rattle.ctl.proofs.Refused.{judge_exact, judge_refused}

module _ (table list : List ℕ) where
  pub verdict_exact : (v : Verdict) → v ≡ judge_verdict table list → (v ≡ Ok tt)
      ↔ (IsTable table × NarrowRepair (table_of table) list)
  verdict_exact v e = (λ ok. (judge_exact table list).0 (sym e ∙ ok), λ h. e ∙ (judge_exact table list).1 h)

  pub verdict_refuses : (v : Verdict) → v ≡ judge_verdict table list → IfErr v (JudgeRefused table list)
  verdict_refuses (Ok tt) e = tt
  verdict_refuses (Err r) e = judge_refused table list r (sym e)
