-- The loop's invariant: the pass over all nodes ends where the pass over those from i on does.
use mathlib.Core.Path.{◌≡◌}
use lib.ListN.{drop}
use Rattle.table.specs.Table.{table_of, states_part}
use Rattle.label.specs.Words.{pass_words}
use Rattle.label.proofs.pass.label_pass.Given as goal

abbrev pub invariant-loop-i : goal.invariant-loop-i
invariant-loop-i l =
    pass_words l.k.rows l.k.kept l.k.states (states_part l.table.bytes.now) 0
    (table_of l.table.bytes.now).nodes l.fn.words
    ≡ pass_words l.k.rows l.k.kept l.k.states (states_part l.table.bytes.now) l.i
    (drop l.i (table_of l.table.bytes.now).nodes) l.next
