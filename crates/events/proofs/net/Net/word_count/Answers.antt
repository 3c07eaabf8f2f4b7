-- `word_count` meets its contract: all words end where those past the last node would begin.
use mathlib.Core.Path.{◌∙◌}
use native.Mathlib.Omega.{arith}
use Rattle.table.specs.Table.{table_of}
use Rattle.table.proofs.Facts.{accepted}
use Rattle.readers.proofs.Places.{first_last}
use Rattle.events.proofs.net.Net.word_count.Goals as goal

pub returns : goal.returns
returns c =
    let net = c.args.self.now in
    net.setting.reads.firsts.at 32 (omega arith)
    ∙ first_last (table_of net.table.bytes.now) 32
    (omega (arith, (accepted net.table.bytes.now net.table.passes).table.few_nodes))
