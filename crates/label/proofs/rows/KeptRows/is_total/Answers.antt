-- `is_total` meets its contract: a row that fails is one of all, and behind the last row nothing is left to pass.
use lib.ListN.{length, get_or, drop, drop_of_length-le}
use borrow.Author.Tests.{eq-eqb, ne_eqb}
use mathlib.Core.List.{List}
use Prim.Native.Nat.{ℕ, ◌+◌, ◌≤◌, ◌<◌}
use mathlib.Core.Path.{◌≡◌, sym, ap, ◌∙◌}
use mathlib.Core.Bool.{Bool, true, false, not, ◌&&◌}
use native.Mathlib.Omega.{arith}
use lib.Dec.{eqb}
use Rattle.sets.specs.Member.{member, set_of}
use Rattle.table.specs.Accept.{all}
use Rattle.ctl.specs.Range.{below}
use Rattle.ctl.proofs.Tabulate.{length_tabulate, get_d_tabulate}
use Rattle.table.proofs.Scan.{all_next}
use Rattle.label.proofs.rows.KeptRows.is_total.Goals as goal

-- the row of s has no state that is not kept
passes : List ℕ → ℕ → ℕ → Bool
passes rows kept s = eqb (set_of 32 (λ t. member (get_or rows s 0) t && not (member kept t))) 0

-- the test of the rows from s on is that of row s, and that of the rest
next : (p : ℕ → Bool) (s : ℕ) → s < 32 → all p (drop s (below 32)) ≡ p s && all p (drop (s + 1) (below 32))
next p s h =
    all_next p (below 32) s (rw (length_tabulate {A = ℕ} 32 (λ s. s)) h)
    ∙ ap (λ (k : ℕ). p k && all p (drop (s + 1) (below 32))) (get_d_tabulate 32 (λ s. s) s 0 h)

pub returns-then-minus-ne0 : goal.returns-then-minus-ne0
unfolding passes
returns-then-minus-ne0 c =
    let rows = c.args.self.now.rows in
    let kept = c.args.self.now.kept in
    let s = c.loop-row.row-index in
    let fails : passes rows kept s ≡ false =
    ap (λ (k : ℕ). eqb k 0) (sym c.minus.ensures) ∙ ne_eqb c.minus.result 0 c.if-minus-ne0.true in
    sym (c.loop-row.invariant ∙ next (passes rows kept) s (omega arith)
    ∙ ap (λ (b : Bool). b && all (passes rows kept) (drop (s + 1) (below 32))) fails)

pub loop-row-preserved : goal.loop-row-preserved
unfolding passes
loop-row-preserved c =
    let rows = c.args.self.now.rows in
    let kept = c.args.self.now.kept in
    let s = c.loop-row.row-index in
    let fits : passes rows kept s ≡ true =
    ap (λ (k : ℕ). eqb k 0) (sym c.minus.ensures) ∙ eq-eqb c.minus.result 0 c.if-minus-ne0.false in
    c.loop-row.invariant ∙ next (passes rows kept) s (omega arith)
    ∙ ap (λ (b : Bool). b && all (passes rows kept) (drop (s + 1) (below 32))) fits

pub returns : goal.returns
unfolding all
returns c =
    let at_end : length (below 32)
    ≤ c.loop-row.row-index = rw (length_tabulate {A = ℕ} 32 (λ s. s)) (omega (arith, c.loop-row-test.false)) in
    sym (c.loop-row.invariant ∙ ap (all _) (drop_of_length-le (below 32) {i = c.loop-row.row-index} at_end))
