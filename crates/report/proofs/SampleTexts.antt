-- What is printed of every sample sheet, by computation from the definitions.
use mathlib.Core.Path.{refl}
use Rattle.sets.specs.Member.{member}
use Rattle.table.specs.Table.{records}
use Rattle.table.specs.Accept.{all, any, distinct, nodes_fit, table_verdict}
use Rattle.ctl.specs.Range.{tabulate, select}
use Rattle.ctl.specs.Levels.{iterate, next_in, level, levels}
use Rattle.ctl.specs.Labels.{kept_steps, ends_from}
use Rattle.ctl.specs.Price.{sum_below}
use Rattle.ctl.specs.Reached.{reached_set, strike}
use Rattle.circuit.specs.Logic.{gate_clauses}
use Rattle.circuit.specs.Variables.{concat, out_of, node_variables, variables, costs, variable_formula}
use Rattle.circuit.specs.Gates.{node_gates, gates}
use Rattle.circuit.specs.Clauses.{demands, clauses}
use Rattle.closure.specs.Computed.{open_in, take_clause, round, rounds, marks_of}
use Rattle.closure.specs.Numbered.{same_code, place, numbered_clauses}
use Rattle.search.specs.Search.{walk, search}
use Rattle.search.specs.TableSearch.{table_search}
use Rattle.sheet.specs.Form.{digits, decimal, line, concat_map}
use Rattle.sheet.specs.Parse.{exactly, digits_up_to, field, times, sheet_parser, parse}
use Rattle.reader.specs.Read.{pack, read_verdict}
use Rattle.repair.specs.Effect.{repair_verdict}
use Rattle.report.specs.Texts.{kept_lines}
use Rattle.report.specs.Report.{table_text, text_under}
use Rattle.report.specs.Samples.{SamplesPrinted}

pub samples_printed : SamplesPrinted
unfolding member records all any distinct nodes_fit table_verdict tabulate select iterate next_in level levels
    kept_steps ends_from sum_below reached_set strike gate_clauses concat out_of node_variables variables costs
    variable_formula node_gates gates demands clauses open_in take_clause round rounds marks_of same_code place
    numbered_clauses walk search table_search digits decimal line concat_map exactly digits_up_to field times
    sheet_parser parse pack read_verdict repair_verdict kept_lines table_text text_under
samples_printed = refl
