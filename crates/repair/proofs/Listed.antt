-- The list that a search finds has a byte for each step.
use mathlib.Core.Path.{◌≡◌, ◌∙◌}
use lib.ListN.{length, length-map}
use Rattle.table.specs.Table.{Table}
use Rattle.ctl.specs.Range.{below}
use Rattle.ctl.proofs.Tabulate.{length_tabulate}
use Rattle.closure.specs.Computed.{Marks, mark_at}
use Rattle.search.specs.TableSearch.{bit_of, list_of}

pub list_size : (T : Table) (m : Marks) → length (list_of T m) ≡ length T.steps
list_size T m =
    length-map (below (length T.steps)) (λ j. bit_of (mark_at m j)) ∙ length_tabulate (length T.steps) (λ k. k)
