-- `walk_table` meets its contract.
use Rattle.std.proofs.Common.{rules}
use Rattle.walk.proofs.Netted.{net_table}
use Rattle.walk.proofs.FromStart.{start_ended, start_rests, start_stands, start_onward}
use Rattle.walk.proofs.start.walk_table.Goals as goal

pub kept_try-requires-clause-resting : goal.kept_try-requires-clause-resting
kept_try-requires-clause-resting c = search (rules, start_rests, net_table)

pub kept_try-requires-clause-somewhere : goal.kept_try-requires-clause-somewhere
kept_try-requires-clause-somewhere c = search (rules, start_stands, net_table)

pub returns-in-Ended : goal.returns-in-Ended
returns-in-Ended c = search (rules, start_ended, net_table)

pub returns-in-Unsettled : goal.returns-in-Unsettled
returns-in-Unsettled c = search (rules, start_onward, net_table)
