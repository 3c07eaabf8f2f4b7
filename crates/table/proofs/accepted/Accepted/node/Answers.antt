-- `node` meets its contract: the section's record is the table's, at any number.
use Prim.Native.Nat.{◌*◌, ℕ}
use mathlib.Core.List.{List}
use mathlib.Core.Path.{ap, ◌∙◌}
use lib.ListN.{drop}
use Rattle.table.specs.Table.{record_width, node_of}
use Rattle.table.proofs.Facts.{node_anywhere}
use Rattle.table.proofs.accepted.Accepted.node.Goals as goal

pub returns : goal.returns
returns c =
    let t = c.args.self.now in
    c.record_at.ensures ∙ ap (λ (l : List ℕ). node_of (drop (record_width * c.args.i) l)) t.nodes_are
    ∙ node_anywhere t.bytes.now c.args.i
