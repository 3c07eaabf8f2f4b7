-- A text that is read to a table: what it is packed into is a table, and each price in it is at most 255.
use Prim.Native.Nat.{ℕ, zero, suc, ◌≤◌}
use mathlib.Core.Path.{◌≡◌, sym, ap, subst, ◌∙◌}
use mathlib.Core.List.{List, [], ◌∷◌}
use native.Mathlib.Omega.{arith}
use lib.ListN.{get_or}
use Rattle.std.specs.Prelude.{Ok}
use Rattle.table.specs.declared.record.Step.{Step}
use Rattle.table.specs.Table.{Table, table_of, zero_step, step_at}
use Rattle.table.specs.Accept.{table_verdict}
use Rattle.sheet.specs.Form.{StepInRange, Every}
use Rattle.sheet.specs.Parse.{parse}
use Rattle.sheet.proofs.Whole.{parse_exact}
use Rattle.reader.specs.Read.{packed, read_verdict}
use Rattle.reader.proofs.Found.{found_good}
use Rattle.reader.proofs.PackedSheet.{table_pack}

step_prices : (steps : List Step) → Every StepInRange steps → (j : ℕ) → (get_or steps j zero_step).price ≤ 255
step_prices [] h j = omega arith
step_prices (x ∷ steps) h zero = h.0.price
step_prices (x ∷ steps) h (suc j) = step_prices steps h.1 j

module _ (text : List ℕ) (e : read_verdict text 580 ≡ Ok tt) where
  pub read_accepted : table_verdict (packed (parse text)) ≡ Ok tt
  read_accepted = let f = found_good text e in ap (λ p. table_verdict (packed p)) f.1 ∙ f.2

  -- a sheet has a byte's value for each price
  pub read_prices : (j : ℕ) → (step_at (table_of (packed (parse text))) j).price ≤ 255
  read_prices j =
      let f = found_good text e in
      let range = ((parse_exact text f.0).0 f.1).0 in
      subst (λ (T : Table). (step_at T j).price ≤ 255) (sym (ap (λ p. table_of (packed p)) f.1 ∙ table_pack f.0 range))
      (step_prices f.0.steps range.steps j)
