-- `levels_visit` meets its contract: the first k of the levels, one after the other, in their order.
use Prim.Native.Nat.{ℕ, ◌-◌, ◌<◌}
use native.Mathlib.Omega.{arith}
use mathlib.Core.Path.{refl}
use mathlib.Core.List.{List}
use lib.ListN.{length}
use Rattle.std.specs.Prelude.{None}
use Rattle.table.specs.Table.{Table}
use Rattle.rows.specs.declared.row.Report.{Report}
use Rattle.propagate.specs.declared.level.Fixpoint.{Fixpoint}
use Rattle.propagate.specs.Memory.{Memory, memory}
use Rattle.closure.specs.Knowledge.{knowledge}
use Rattle.events.specs.NetTable.{table_in}
use Rattle.events.specs.Levels.{IsFixpoint}
use Rattle.events.specs.Looked.{Always, CellsOf, Looked}
use Rattle.events.proofs.Looking.{looked_so, looked_none}
use Rattle.events.proofs.VisitAll.{among_next, among_all, looked_failed}
use Rattle.events.proofs.VisitLevel.{rows_are, seen_none}
use Rattle.events.proofs.levels.levels_visit.Invariants.{WordOf}
use Rattle.events.proofs.levels.levels_visit.Goals as goal

-- the words of all levels are those of the node
all_cells : (T : Table) (x : Fixpoint) (is : IsFixpoint T x) {looks looks' : List ℕ} {M N : Memory} {r : Report}
    → Looked T (λ k. (m : ℕ) × (m < length T.states) × WordOf x.word m k) Always looks looks' M N r
    → Looked T (CellsOf T x.node) Always looks looks' M N r
all_cells T x is = looked_so
    (λ c f k e. (k - x.word, omega (arith, e.0, e.1, is.word, rows_are T x is), omega (arith, e.0, is.word))) (λ z. z)

pub level_visit-v-requires-clause-sized : goal.level_visit-v-requires-clause-sized
level_visit-v-requires-clause-sized c = c.loop-k.invariant.looked.advance.sized

pub returns-then-report : goal.returns-then-report
returns-then-report c =
    let a = c.args in
    let l = c.loop-k in
    let m = c.in_order-m in
    looked_failed c.if-report.true
    (among_next (WordOf a.x.word) a.down a.net.now.graph.states l.k m.result m.ensures l.invariant.looked
    c.level_visit-v.ensures.looked c.both-report.ensures)

pub loop-k-init : goal.loop-k-init
loop-k-init c =
    let a = c.args in
    let T = table_in a.net.now in
    let M = memory a.rows.now a.words.now in
    record {
      looked = looked_so (λ x f k e. absurd (omega (arith, e.1))) (λ z. z)
          (looked_none T a.looks.now M c.requires.sized c.default-report.result c.default-report.ensures);
      seen_rests = seen_none T a.x (knowledge T M) None refl;
    }

pub loop-k-preserved : goal.loop-k-preserved
loop-k-preserved c =
    let a = c.args in
    let l = c.loop-k in
    let m = c.in_order-m in
    record {
      looked = among_next (WordOf a.x.word) a.down a.net.now.graph.states l.k m.result m.ensures l.invariant.looked
          c.level_visit-v.ensures.looked c.both-report.ensures;
      seen_rests = c.level_visit-v.ensures.seen_rests;
    }

pub returns : goal.returns
returns c =
    let a = c.args in
    let l = c.loop-k in
    let net = a.net.now in
    all_cells (table_in net) a.x c.requires.fixpoint
    (among_all (WordOf a.x.word) a.down net.graph.states l.k (length (table_in net).states)
    (omega (arith, l.auto.k-end, c.loop-k-test.false)) net.setting.states l.invariant.looked)
