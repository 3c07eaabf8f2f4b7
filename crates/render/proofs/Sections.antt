-- The lines of a section's records, written one after the other: the line at i, and the others.
use Prim.Native.Nat.{ℕ, ◌+◌, ◌*◌, ◌≤◌, ◌<◌}
use mathlib.Core.Path.{◌≡◌, sym, ap, ◌∙◌}
use mathlib.Core.List.{List, ◌++◌}
use native.Mathlib.Numerals.{add-one}
use lib.ListN.{drop}
use Rattle.table.specs.Table.{records}
use Rattle.table.proofs.Records.{records_next, records_done}
use Rattle.sheet.specs.Form.{concat_map}
use Rattle.render.specs.Stored.{Stored}
use Rattle.render.proofs.Left.{Left, left_as, left_done}

module _ {A : Type 0} (f : A → List ℕ) (read : List ℕ → A) (width count : ℕ) (section before : List ℕ) (at : ℕ) where
  -- the lines from i on
  abbrev lines_from : ℕ → List ℕ
  lines_from i = concat_map f (drop i (records read width count section))

  -- of all lines, those from i on are left
  abbrev pub LinesLeft : ℕ → List ℕ → ℕ → Type 0
  LinesLeft i text place = Left before at (concat_map f (records read width count section)) text place (lines_from i)

  module _ (i : ℕ) (text : List ℕ) (place : ℕ) (l : LinesLeft i text place) where
    -- the next is that of x, the record that was read at i
    pub line_next : i < count → (x : A) → x ≡ read (drop (width * i) section)
        → Left before at (concat_map f (records read width count section)) text place (f x ++ lines_from (i + 1))
    unfolding concat_map
    line_next h x here = left_as _ _ _ _ _ _ _
        (ap (concat_map f) (records_next read width count section i h)
        ∙ (λ k. f (sym here k) ++ concat_map f (drop (sym (add-one i) k) (records read width count section))))
        l

    -- past the last record there is none
    pub lines_done : count ≤ i → Stored before at (concat_map f (records read width count section)) text place
    unfolding concat_map
    lines_done h =
        left_done _ _ _ _ _ (left_as _ _ _ _ _ _ _ (ap (concat_map f) (records_done read width count section i h)) l)
