-- `node_visit` meets its contract: nothing where its words are empty; else a fixed point by its levels, any other
-- node as a whole.
use native.Mathlib.Omega.{arith}
use mathlib.Core.Path.{sym, ap, ◌∙◌}
use Rattle.ctl.specs.Rule.{operator_of}
use Rattle.propagate.specs.Memory.{memory}
use Rattle.readers.proofs.Places.{cells_in}
use Rattle.events.specs.NetTable.{table_in}
use Rattle.events.proofs.Looking.{looked_so, looked_none}
use Rattle.events.proofs.SettingFacts.{low, words_begin, words_end_at}
use Rattle.events.proofs.nodes.node_visit.Goals as goal

pub offset_bounds-net-i : goal.offset_bounds-net-i
offset_bounds-net-i c = record { fits = omega (arith, low c.args.net.now c.args.i c.requires.i_below) }

pub bounds-net-i : goal.bounds-net-i
bounds-net-i c = omega (arith, low c.args.net.now c.args.i c.requires.i_below)

pub offset_bounds-net-i-2 : goal.offset_bounds-net-i-2
offset_bounds-net-i-2 c = record { fits = omega (arith, low c.args.net.now c.args.i c.requires.i_below) }

pub bounds-net-i-2 : goal.bounds-net-i-2
bounds-net-i-2 c = omega (arith, low c.args.net.now c.args.i c.requires.i_below)

pub offset_bounds-net-i-3 : goal.offset_bounds-net-i-3
offset_bounds-net-i-3 c = record { fits = omega (arith, low c.args.net.now c.args.i c.requires.i_below) }

pub bounds-net-i-3 : goal.bounds-net-i-3
bounds-net-i-3 c = omega (arith, low c.args.net.now c.args.i c.requires.i_below)

pub overflow_add-end : goal.overflow_add-end
overflow_add-end c = record { fits = omega (arith, low c.args.net.now c.args.i c.requires.i_below) }

pub are_empty-requires : goal.are_empty-requires
are_empty-requires c =
    let net = c.args.net.now in
    omega (
      arith,
      words_end_at net c.args.i c.requires.i_below,
      cells_in (table_in net) c.args.i c.requires.i_below,
      c.requires.room,
    )

pub returns-then-are_empty : goal.returns-then-are_empty
returns-then-are_empty c =
    let a = c.args in
    let net = a.net.now in
    let T = table_in net in
    looked_so (λ x f k e. c.are_empty.ensures c.if-are_empty.true k
    (omega (arith, e.0, words_begin net a.i c.requires.i_below))
    (omega (arith, e.1, words_end_at net a.i c.requires.i_below))) (λ z. z)
    (looked_none T a.looks.now (memory a.rows.now a.words.now) c.requires.sized c.default.result c.default.ensures)

pub returns-in_default : goal.returns-in_default
returns-in_default c = c.plain_visit.ensures c.args.words.now c.requires.sized

pub levels_visit-requires-clause-fixpoint : goal.levels_visit-requires-clause-fixpoint
levels_visit-requires-clause-fixpoint c =
    let a = c.args in
    let net = a.net.now in
    record {
      below = c.requires.i_below;
      quantifier = c.in-Fixpoint.q;
      is = ap operator_of (sym c.node.ensures) ∙ sym c.from-operator.ensures ∙ c.in-Fixpoint.is;
      every = c.is_every-every.ensures;
      base = net.setting.bases_at a.i (low net a.i c.requires.i_below);
      word = words_begin net a.i c.requires.i_below;
    }
