-- `write_list` meets its contract.
use Prim.Native.Nat.{ℕ}
use mathlib.Core.Path.{◌≡◌, sym, ap, ◌∙◌}
use mathlib.Core.Bool.{Bool, true, cond}
use mathlib.Core.List.{List, ◌++◌}
use native.Mathlib.Omega.{arith}
use mir.Val.{bool_byte}
use lib.ListN.{length, get_or, set, drop}
use lib.Seq.{take_all}
use Rattle.table.specs.Buffer.{over}
use Rattle.table.specs.Table.{table_of, step_at}
use Rattle.table.proofs.Bools.{flag_byte}
use Rattle.table.proofs.Buffer.{over_next}
use Rattle.ctl.proofs.Tabulate.{length_tabulate, get_d_tabulate}
use Rattle.rows.specs.Steps.{step_bit}
use Rattle.search.specs.StepRows.{kept_bytes}
use Rattle.search.proofs.step_rows.write_list.Goals as goal

pub loop-j-preserved : goal.loop-j-preserved
loop-j-preserved c =
    let l = c.loop-j in
    let T = table_of c.args.table.now.bytes.now in
    let rows = c.args.rows.now in
    let known : c.is_known.result ≡ step_bit rows true (step_at T l.j) =
    c.is_known.ensures ∙ ap (step_bit rows true) c.step.ensures in
    let value : bool_byte c.is_known.result ≡ get_or (kept_bytes T rows) l.j 0 =
    flag_byte c.is_known.result
    ∙ ap (λ (b : Bool). cond b 1 0) known
    ∙ sym (get_d_tabulate (length T.steps) (λ j. cond (step_bit rows true (step_at T j)) 1 0) l.j 0 (omega arith)) in (
      l.invariant.0,
      (λ k. set (l.invariant.1 k) l.j (value k))
          ∙ over_next l.j (kept_bytes T rows) c.args.list.now 0 (rw length_tabulate (omega arith)) (omega arith),
    )

pub returns : goal.returns
returns c =
    let l = c.loop-j in
    let T = table_of c.args.table.now.bytes.now in
    let bytes = kept_bytes T c.args.rows.now in
    let all : l.j ≡ length T.steps = omega arith in
    l.invariant.1
    ∙ ap (λ (k : ℕ). over k bytes c.args.list.now) all
    ∙ ap (λ (w : List ℕ). w ++ drop (length T.steps) c.args.list.now)
    (take_all (length T.steps) bytes (rw length_tabulate (omega arith)))
