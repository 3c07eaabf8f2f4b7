-- `sweep_once` meets its contract: K, the initial states and the nodes are looked at one after the other.
use mathlib.Core.Path.{◌≡◌, sym, subst}
use mathlib.Core.Logic.{inl}
use mathlib.Core.List.{List}
use Prim.Native.Nat.{ℕ}
use Rattle.table.specs.Table.{Table}
use Rattle.rows.specs.declared.row.Report.{Report}
use Rattle.rows.specs.Words.{both_reports}
use Rattle.propagate.specs.Memory.{Memory, memory}
use Rattle.closure.specs.Rest.{RestStart}
use Rattle.events.specs.NetTable.{table_in}
use Rattle.events.specs.Looked.{Always, AllCells, Looked}
use Rattle.events.proofs.Looking.{looked_so, looked_then}
use Rattle.events.proofs.VisitAll.{looked_failed}
use Rattle.events.proofs.sweep.sweep_once.Goals as goal

-- K and the initial states were looked at
started : {T : Table} {looks looks' looks'' : List ℕ} {M N O : Memory} {r s t : Report}
    → Looked T (λ k. k ≡ 0) Always looks looks' M N r
    → Looked T (λ k. ⊥) (RestStart T) looks' looks'' N O s → t ≡ both_reports r s
    → Looked T (λ k. k ≡ 0) (RestStart T) looks looks'' M O t
started {T} {looks} {looks'} {looks''} {M} {N} {O} a b is = subst
    (Looked T (λ k. k ≡ 0) (RestStart T) looks looks'' M O) (sym is)
    (looked_so (λ x f k e. inl e) (λ z. z.1) (looked_then a b))

pub returns-then-first : goal.returns-then-first
returns-then-first c = looked_failed c.if-first.true (c.kept_visit-first.ensures c.args.words.now c.requires.sized)

pub returns-then-second : goal.returns-then-second
returns-then-second c =
    let words = c.args.words.now in
    let first = c.kept_visit-first.ensures words c.requires.sized in
    looked_failed c.if-second.true
    (started first (c.start_visit.ensures words first.advance.sized) c.both-second.ensures)

pub returns : goal.returns
returns c =
    let a = c.args in
    let v = c.nodes_visit in
    let T = table_in a.net.now in
    let words = a.words.now in
    let first = c.kept_visit-first.ensures words c.requires.sized in
    let second = started first (c.start_visit.ensures words first.advance.sized) c.both-second.ensures in
    subst (Looked T (AllCells T) (RestStart T) a.looks.now v.new.looks (memory a.rows.now a.words.now)
    (memory v.new.rows v.new.words)) (sym c.both.ensures)
    (looked_so (λ x f k e. e) (λ z. z.0) (looked_then second v.ensures))
