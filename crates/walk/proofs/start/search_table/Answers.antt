-- `search_table` meets its contract.
use mathlib.Core.Path.{◌∙◌}
use mathlib.Core.List.{[]}
use native.Mathlib.Omega.{arith}
use Rattle.closure.specs.Closes.{settled_of}
use Rattle.events.specs.NetTable.{table_in}
use Rattle.search.proofs.StepClosure.{settled_only}
use Rattle.search.proofs.ClosureRight.{closure-is_right}
use Rattle.walk.proofs.Netted.{net_table}
use Rattle.walk.proofs.Closing.{number_of}
use Rattle.walk.proofs.FromStart.{start_answer, start_list}
use Rattle.walk.proofs.start.search_table.Goals as goal

pub finish-requires : goal.finish-requires
finish-requires c =
    let few = (net_table c.args.net.now).few_steps in
    (omega arith, c.requires.list_room)

pub returns-clause-value : goal.returns-clause-value
returns-clause-value c =
    let T = table_in c.args.net.now in
    let wf = net_table c.args.net.now in
    let r = c.walk_table-walked.result in
    let find = c.walk_table-walked.new.find in
    let closed = c.close_nothing-closed in
    let settled = settled_only T wf [] (closure-is_right T wf).fine_none (settled_of closed.result)
    closed.ensures.closes.settled in
    c.finish.ensures.value ∙ start_answer T c.args.cap find r c.walk_table-walked.ensures c.unwrap_or.result
    (c.unwrap_or.ensures ∙ number_of closed.result ∙ settled)

pub returns-clause-list_after : goal.returns-clause-list_after
returns-clause-list_after c =
    c.finish.ensures.list_after
    ∙ start_list (table_in c.args.net.now) c.args.cap c.walk_table-walked.new.find c.walk_table-walked.result
    c.walk_table-walked.ensures c.args.list.now
