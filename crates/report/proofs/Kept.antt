-- The lines of the steps from i on: the line at i, and the others.
use Prim.Native.Nat.{ℕ, ◌+◌, ◌≤◌, ◌<◌}
use mathlib.Core.Path.{◌≡◌, sym, ap, ◌∙◌}
use mathlib.Core.List.{List, [], ◌++◌}
use native.Mathlib.Numerals.{add-one}
use lib.ListN.{length, get_or, drop, drop_of_length-le}
use lib.Seq.{drop-cons}
use Rattle.table.specs.declared.record.Step.{Step}
use Rattle.table.specs.Table.{zero_step}
use Rattle.table.proofs.Scan.{drop_next}
use Rattle.report.specs.Texts.{kept_line, kept_lines}

module _ (steps : List Step) (list : List ℕ) where
  -- the lines from i on
  abbrev pub kept_from : ℕ → List ℕ
  kept_from i = kept_lines (drop i steps) (drop i list)

  pub kept_next : (i : ℕ) → i < length steps → i < length list
      → kept_from i ≡ kept_line (get_or steps i zero_step) (get_or list i 0) ++ kept_from (i + 1)
  unfolding kept_lines
  kept_next i h l =
      (λ k. kept_lines (drop-cons steps i zero_step h k) (drop_next list i l k))
      ∙ (λ k. kept_line (get_or steps i zero_step) (get_or list i 0)
      ++ kept_lines (drop (sym (add-one i) k) steps) (drop (i + 1) list))

  -- past the last step there is none
  pub kept_done : (i : ℕ) → length steps ≤ i → kept_from i ≡ []
  unfolding kept_lines
  kept_done i h = ap (λ (rest : List Step). kept_lines rest (drop i list)) (drop_of_length-le steps {i = i} h)
