-- Every sample of the settled steps has its answer, by computation from the definitions.
use mathlib.Core.Path.{◌≡◌, refl}
use mathlib.Core.Bool.{true}
use Rattle.sets.specs.Member.{member, count_of}
use Rattle.table.specs.Table.{records}
use Rattle.table.specs.Accept.{all, any, distinct, nodes_fit, table_verdict}
use Rattle.ctl.specs.Range.{tabulate, select}
use Rattle.ctl.specs.Levels.{iterate, next_in, level, levels}
use Rattle.ctl.specs.Labels.{kept_steps, ends_from}
use Rattle.ctl.specs.Price.{sum_below}
use Rattle.ctl.specs.Reached.{reached_set, strike}
use Rattle.circuit.specs.Logic.{gate_clauses}
use Rattle.circuit.specs.Variables.{concat, out_of, node_variables, variables, costs, variable_formula}
use Rattle.circuit.specs.Gates.{node_gates, gates}
use Rattle.circuit.specs.Clauses.{demands, clauses}
use Rattle.closure.specs.Computed.{open_in, take_clause, round, rounds, marks_of}
use Rattle.search.specs.Search.{walk, search}
use Rattle.closure.specs.Numbered.{same_code, place, numbered_clauses}
use Rattle.search.specs.TableSearch.{table_search}
use Rattle.repair.specs.Effect.{repair_verdict}
use Rattle.samples.proofs.Once.{ends, once, all_pass}
use Rattle.samples.specs.Samples.{searches, answers, passes}
use Rattle.samples.specs.Settled.{settled_cases}

pub settled_pass : all passes settled_cases ≡ true
unfolding member count_of records all any tabulate iterate next_in level levels kept_steps ends_from sum_below
    reached_set strike gate_clauses concat out_of node_variables variables node_gates gates select demands clauses
    open_in take_clause round rounds marks_of walk search same_code place numbered_clauses table_search ends once
    searches answers passes distinct nodes_fit table_verdict costs variable_formula repair_verdict
settled_pass = all_pass settled_cases refl
