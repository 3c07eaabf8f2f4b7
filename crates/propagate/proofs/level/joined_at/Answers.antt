-- `joined_at` meets its contract: what was read is what the model reads.
use Prim.Native.Nat.{ℕ, suc}
use mathlib.Core.Path.{◌≡◌, ap, ◌∙◌}
use native.Mathlib.Numerals.{add-one}
use lib.ListN.{get_or}
use Rattle.rows.specs.Row.{turn}
use Rattle.rows.specs.Rules.{ahead_at, masked, join_of}
use Rattle.rows.specs.Words.{row_at, step_place}
use Rattle.propagate.specs.Memory.{memory, ahead_in}
use Rattle.propagate.specs.Level.{level_at}
use Rattle.propagate.proofs.level.joined_at.Goals as goal

pub returns : goal.returns
returns c =
    let a = c.args in
    let M = memory a.rows.now a.words.now in
    let t = c.turn in
    let h = c.ahead in
    let u = c.turn-up in
    let l = c.level_row in
    let p = c.node_row in
    let q = c.node_row-2 in
    let up : u.result ≡ ahead_in a.graph.now.targets a.look a.x.every a.below M =
    u.ensures ∙ ap (turn a.x.every)
    (h.ensures ∙ ap (ahead_at (λ s. get_or a.graph.now.targets s 0) (λ s. row_at a.rows.now (step_place s)) a.look)
    t.ensures) in
    let here : l.result ≡ level_at a.graph.now.states a.x (suc a.m) M =
    l.ensures ∙ ap (λ (k : ℕ). level_at a.graph.now.states a.x k M) (add-one a.m) in
    let level = c.mask-level.ensures ∙ ap (masked a.look) here in
    let left = c.mask-a.ensures ∙ ap (masked a.look) p.ensures in
    let right = c.mask-b.ensures ∙ ap (masked a.look) q.ensures in
    c.join.ensures ∙ (λ i. join_of a.x.family (level i) (left i) (right i) (up i))
