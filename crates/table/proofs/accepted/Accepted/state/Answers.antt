-- `state` meets its contract: the section's record is the table's, at any number.
use Prim.Native.Nat.{◌*◌, ℕ}
use mathlib.Core.List.{List}
use mathlib.Core.Path.{ap, ◌∙◌}
use lib.ListN.{drop}
use Rattle.table.specs.Table.{record_width, state_of}
use Rattle.table.proofs.Facts.{state_anywhere}
use Rattle.table.proofs.accepted.Accepted.state.Goals as goal

pub returns : goal.returns
returns c =
    let t = c.args.self.now in
    c.record_at.ensures ∙ ap (λ (l : List ℕ). state_of (drop (record_width * c.args.s) l)) t.states_are
    ∙ state_anywhere t.bytes.now c.args.s
