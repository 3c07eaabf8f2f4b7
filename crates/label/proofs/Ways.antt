-- What an analysis that was made says of the verdict.
use mathlib.Core.Path.{◌≡◌, refl, ap, ◌∙◌}
use Prim.Native.Nat.{ℕ}
use mathlib.Core.Bool.{Bool, true, false, cond}
use mathlib.Core.List.{List}
use Rattle.std.specs.Prelude.{Result, Ok, Err}
use Rattle.table.specs.declared.refusal.Refusal.{Refusal}
use Rattle.table.specs.declared.refusal.Refusal.TheVariants.{NotTotal}
use Rattle.table.specs.Verdict.{Verdict, require}
use Rattle.table.specs.Table.{table_of}
use Rattle.label.specs.declared.analysis.Analysis.{Analysis}
use Rattle.label.specs.declared.room.Room.{Room}
use Rattle.label.specs.Analysis.{analysis_verdict, analysis_at, analysis_of, room_fits, sets_of}

-- the test 11 and its sets are the last part of the analysis
pub at_total : (b : Bool) (sets : Analysis)
    → ◌≡◌ {A = Result Analysis Refusal} (cond b (Ok sets) (Err NotTotal)) (analysis_at (require NotTotal b) sets)
at_total true sets = refl
at_total false sets = refl

passed : (v : Verdict) (sets a : Analysis) → ◌≡◌ {A = Result Analysis Refusal} (Ok a) (analysis_at v sets)
    → (v ≡ Ok tt) × (a ≡ sets)
passed (Ok tt) sets a e = (refl, cc)
passed (Err r) sets a e = absurd cc

refused : (v : Verdict) (sets : Analysis) (r : Refusal) → ◌≡◌ {A = Result Analysis Refusal} (Err r) (analysis_at v sets)
    → v ≡ Err r
refused (Ok tt) sets r e = absurd cc
refused (Err q) sets r e = cc

module _ (room : Room) (table list : List ℕ) where
  abbrev verdict : Verdict
  verdict = analysis_verdict (room_fits room (table_of table)) table list

  pub way_passed : (a : Analysis) → Ok a ≡ analysis_of room table list
      → (verdict ≡ Ok tt) × (a ≡ sets_of (table_of table) list)
  way_passed a e = passed verdict (sets_of (table_of table) list) a e

  pub way_refused : (r : Refusal) → Err r ≡ analysis_of room table list → verdict ≡ Err r
  way_refused r e = refused verdict (sets_of (table_of table) list) r e

-- an analysis of the same bytes under another name
pub analysis_moved : (room : Room) (list bytes table : List ℕ) → bytes ≡ table → (x : Result Analysis Refusal)
    → x ≡ analysis_of room bytes list
    → x ≡ analysis_of room table list
analysis_moved room list bytes table same x e = e ∙ ap (λ (b : List ℕ). analysis_of room b list) same
