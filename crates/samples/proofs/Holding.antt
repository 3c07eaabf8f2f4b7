-- Every sample of Holding has its answer and leaves the buffer as it says, by computation from the definitions.
use mathlib.Core.Path.{◌≡◌, refl}
use mathlib.Core.Bool.{true}
use Rattle.sets.specs.Member.{member}
use Rattle.table.specs.Table.{records}
use Rattle.table.specs.Accept.{all, any, distinct, nodes_fit, table_verdict, list_verdict}
use Rattle.ctl.specs.Rule.{bottom_up}
use Rattle.ctl.specs.Range.{tabulate, select}
use Rattle.ctl.specs.Levels.{iterate, next_in, level, levels}
use Rattle.ctl.specs.Labels.{kept_steps, ends_from, label_of, label}
use Rattle.label.specs.Analysis.{analysis_verdict}
use Rattle.closure.specs.Numbered.{same_code}
use Rattle.samples.specs.Holding.{gives, writes, holding_cases}

pub holding_pass : all writes holding_cases ≡ true
unfolding member records all any distinct nodes_fit table_verdict list_verdict bottom_up tabulate iterate next_in level
    levels kept_steps ends_from label_of label select analysis_verdict same_code gives writes
holding_pass = refl
