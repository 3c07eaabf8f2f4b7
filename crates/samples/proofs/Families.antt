-- Every sample of the kinds 10 to 15 has its answer, by computation from the definitions.
use mathlib.Core.Path.{◌≡◌, refl}
use mathlib.Core.Bool.{true}
use Rattle.sets.specs.Member.{member, count_of}
use Rattle.table.specs.Table.{records}
use Rattle.table.specs.Accept.{all, any, distinct, nodes_fit, table_verdict, list_verdict}
use Rattle.ctl.specs.Rule.{bottom_up}
use Rattle.ctl.specs.Range.{tabulate, select}
use Rattle.ctl.specs.Levels.{iterate, next_in, level, levels}
use Rattle.ctl.specs.Labels.{kept_steps, ends_from, label_of, label}
use Rattle.ctl.specs.Price.{sum_below}
use Rattle.ctl.specs.Reached.{reached_set, strike}
use Rattle.ctl.specs.Tests.{judge_verdict}
use Rattle.circuit.specs.Logic.{gate_clauses}
use Rattle.circuit.specs.Variables.{concat, out_of, node_variables, variables, costs, variable_formula}
use Rattle.circuit.specs.Gates.{node_gates, gates}
use Rattle.circuit.specs.Clauses.{demands, clauses}
use Rattle.closure.specs.Computed.{open_in, take_clause, round, rounds, marks_of}
use Rattle.search.specs.Search.{walk, search}
use Rattle.closure.specs.Numbered.{same_code, place, numbered_clauses}
use Rattle.search.specs.TableSearch.{table_search}
use Rattle.repair.specs.Effect.{repair_verdict}
use Rattle.samples.proofs.Once.{ends, once, all_pass}
use Rattle.samples.specs.Samples.{searches, answers, passes}
use Rattle.samples.specs.Families.{family_cases}

pub families_pass : all passes family_cases ≡ true
unfolding member count_of records all any distinct nodes_fit table_verdict list_verdict bottom_up tabulate iterate
    next_in level levels kept_steps ends_from label_of label sum_below reached_set strike judge_verdict gate_clauses
    concat out_of node_variables variables node_gates gates select demands clauses open_in take_clause round rounds
    marks_of walk search same_code place numbered_clauses table_search ends once searches answers passes costs
    variable_formula repair_verdict
families_pass = all_pass family_cases refl
