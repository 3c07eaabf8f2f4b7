-- `check_form` meets its contract: block by block, and nothing behind the last.
use mathlib.Core.Path.{sym}
use Rattle.sheet.specs.Parse.{sheet_parser, parse}
use Rattle.sheet.proofs.Whole.{whole_read, not_whole}
use Rattle.sheet.proofs.form.check_form.Goals as goal

pub returns-then-not-is_empty : goal.returns-then-not-is_empty
unfolding parse sheet_parser
returns-then-not-is_empty c =
    rw (← c.in_ok-counts.ensures, ← c.in_ok-states.ensures, ← c.in_ok-steps.ensures, ← c.in_ok-nodes.ensures)
    (sym (not_whole _ c.in_ok-nodes.rest.now (sym c.if-not-is_empty.ensures)))

pub returns : goal.returns
unfolding parse sheet_parser
returns c =
    rw (← c.in_ok-counts.ensures, ← c.in_ok-states.ensures, ← c.in_ok-steps.ensures, ← c.in_ok-nodes.ensures)
    (sym (whole_read _ c.in_ok-nodes.rest.now (sym c.if-not-is_empty.ensures)))
