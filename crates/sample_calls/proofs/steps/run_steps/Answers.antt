-- `run_steps` is safe: the part of the table that is checked lies within it.
use Rattle.std.proofs.Common.{rules, sym, length-set, length-take-le}
use Rattle.sample_calls.proofs.steps.run_steps.Goals as goal

pub slice_bounds-print_checked-end : goal.slice_bounds-print_checked-end
slice_bounds-print_checked-end g c = sym (length-take-le 487 _ (simp length-set (search rules)))
