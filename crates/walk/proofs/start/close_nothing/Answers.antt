-- `close_nothing` meets its contract: rows and words of 0 lie between nothing and its closure.
use Prim.Native.Nat.{ℕ}
use mathlib.Core.Path.{◌≡◌}
use mathlib.Core.List.{List, []}
use lib.ListN.{length, replicate}
use Rattle.std.proofs.Common.{rules}
use Rattle.table.specs.Table.{Table}
use Rattle.propagate.specs.Memory.{memory}
use Rattle.closure.specs.Closes.{Between}
use Rattle.events.specs.NetTable.{table_in}
use Rattle.walk.proofs.Zeroed.{none_between}
use Rattle.walk.proofs.start.close_nothing.Goals as goal

-- rows and words of 0
nothing_between : (T : Table) (rows words : List ℕ) (k : ℕ) → rows ≡ replicate 130 0 → words ≡ replicate k 0
    → Between T [] (memory rows words)
nothing_between T rows words k no_step no_level = rw (no_step, no_level) (none_between T k)

pub close_parts-requires-clause-founded : goal.close_parts-requires-clause-founded
close_parts-requires-clause-founded c =
    let zeroed : c.fill.new.self ≡ replicate (length c.args.words.now) 0 = search rules in
    ([], (nothing_between (table_in c.args.net.now) _ _ _ c.requires.rows_value zeroed).below)

pub returns-clause-closes : goal.returns-clause-closes
returns-clause-closes c =
    let zeroed : c.fill.new.self ≡ replicate (length c.args.words.now) 0 = search rules in
    c.close_parts.ensures.closes [] (nothing_between (table_in c.args.net.now) _ _ _ c.requires.rows_value zeroed)
