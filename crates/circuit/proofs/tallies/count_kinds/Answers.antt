-- `count_kinds` meets its contract. The loop's invariant: the nodes before i are counted.
use Prim.Native.Nat.{ℕ, ◌+◌}
use mathlib.Core.List.{List}
use mathlib.Core.Path.{◌≡◌, refl, sym, ap, ◌∙◌}
use mathlib.Core.Bool.{Bool, cond}
use native.Mathlib.Omega.{arith}
use mir.Val.{bool_byte}
use lib.ListN.{get_or}
use Rattle.sets.specs.Member.{count_of}
use Rattle.sets.proofs.SetOf.{count_of_next, count_of-le}
use Rattle.table.specs.declared.record.Node.{Node}
use Rattle.table.specs.Table.{table_of, zero_node}
use Rattle.table.proofs.Bools.{flag_byte}
use Rattle.circuit.specs.Tally.{of_kinds}
use Rattle.circuit.proofs.tallies.count_kinds.Goals as goal

-- whether node i is of the kinds
abbrev is_of : ℕ → ℕ → List Node → ℕ → Bool
is_of first last nodes i = of_kinds first last (get_or nodes i zero_node)

-- with the nodes before i counted, and node i tested, those before i + 1 are counted
count_more : (p : ℕ → Bool) (count i : ℕ) → count ≡ count_of i p → (tested : Bool) → tested ≡ p i
    → count + bool_byte tested ≡ count_of (i + 1) p
count_more p count i before tested is =
    (λ j. before j + (flag_byte tested ∙ ap (λ (b : Bool). cond b 1 0) is) j) ∙ sym (count_of_next i p)

pub loop-i-init : goal.loop-i-init
unfolding count_of
loop-i-init c = refl

pub overflow_add-count : goal.overflow_add-count
overflow_add-count c =
    let a = c.args in
    let l = c.loop-i in
    let p = is_of a.first a.last (table_of a.table.now.bytes.now).nodes in
    let more = count_more p l.count l.i l.invariant c.is_of_kinds.result
    (c.is_of_kinds.ensures ∙ ap (of_kinds a.first a.last) c.node.ensures) in
    omega (arith, more, count_of-le (l.i + 1) p)

pub loop-i-preserved : goal.loop-i-preserved
loop-i-preserved c =
    let a = c.args in
    let l = c.loop-i in
    count_more (is_of a.first a.last (table_of a.table.now.bytes.now).nodes) l.count l.i l.invariant
    c.is_of_kinds.result
    (c.is_of_kinds.ensures ∙ ap (of_kinds a.first a.last) c.node.ensures)
