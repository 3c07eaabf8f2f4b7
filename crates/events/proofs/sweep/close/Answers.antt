-- `close` meets its contract: sweeps until one fails or adds nothing. It ends because the words only grow.
use Prim.Native.Nat.{ℕ, ◌+◌, ◌*◌, ◌^◌, ◌<◌}
use mathlib.Core.Path.{◌≡◌, refl, ap, subst, ◌∙◌}
use native.Mathlib.Omega.{arith}
use borrow.Author.Tests.{not-true, not-false}
use lib.ListN.{length}
use Rattle.table.specs.Table.{Table}
use Rattle.events.specs.NetTable.{table_in}
use Rattle.closure.specs.Knowledge.{knowledge, total}
use Rattle.closure.specs.Rest.{Rest}
use Rattle.closure.specs.Advance.{Founded}
use Rattle.events.specs.Watched.{RestBut}
use Rattle.propagate.specs.Memory.{Memory, memory}
use Rattle.events.proofs.SettingFacts.{wellformed}
use Rattle.events.proofs.VisitAll.{first_watched, swept_rest, all_rest}
use Rattle.closure.proofs.Advances.{advance_so}
use Rattle.events.proofs.Closing.{Swept, swept_first, swept_more, closed_failing, closed_resting, total_bound}
use Rattle.events.proofs.sweep.close.Goals as goal

-- what is known is forced still
founded : {T : Table} {M N : Memory} → Founded T M → Swept T M N → Founded T N
founded f r = (f.0, r.sound f.0 f.1)

pub loop-r-init : goal.loop-r-init
loop-r-init c =
    let net = c.args.net.now in
    let T = table_in net in (
      swept_first T _ c.requires.sized,
      first_watched T (wellformed net) _ _ net.setting.reads _ c.args.changed c.first_looks.ensures.first
          c.requires.rest_but,
      refl,
    )

pub returns-then-r-clause-closed : goal.returns-then-r-clause-closed
returns-then-r-clause-closed c =
    closed_failing (table_in c.args.net.now) c.loop-r.invariant.0 c.sweep_once-r.ensures.advance c.if-r.true

pub returns-then-r-clause-looks_len_unchanged : goal.returns-then-r-clause-looks_len_unchanged
returns-then-r-clause-looks_len_unchanged c =
    c.sweep_once-r.ensures.size ∙ c.loop-r.invariant.2 ∙ c.first_looks.ensures.looks_len_unchanged

pub sweep_once-r-requires-clause-room : goal.sweep_once-r-requires-clause-room
sweep_once-r-requires-clause-room c =
    omega (arith, c.requires.room, c.first_looks.ensures.looks_len_unchanged, c.loop-r.invariant.2)

pub sweep_once-r-requires-clause-sized : goal.sweep_once-r-requires-clause-sized
sweep_once-r-requires-clause-sized c = c.loop-r.invariant.0.sized

pub returns-then-not-r : goal.returns-then-not-r
returns-then-not-r c =
    let T = table_in c.args.net.now in
    let wf = wellformed c.args.net.now in
    let l = c.loop-r in
    let v = c.sweep_once-r in
    let w = v.ensures in
    let f = c.if-r.false in
    let calm = not-true v.result.changed c.if-not-r.true in
    let same = w.advance.unchanged calm in
    let rests : RestBut T 0 (knowledge T (memory v.new.rows v.new.words)) =
    swept_rest T wf v.new.looks (memory v.new.rows v.new.words) (w.done calm f)
    (w.watched f (founded c.requires.founded l.invariant.0) l.invariant.1) in
    record {
      closed = closed_resting T wf c.settled_steps.result l.invariant.0
          (advance_so T {Q = Rest T}
          (λ z. all_rest T wf (memory l.rows l.words) z
          (subst (λ (M : Memory). RestBut T 0 (knowledge T M)) same rests)) w.advance)
          f calm c.settled_steps.ensures;
      resting = λ e. rests;
      looks_len_unchanged = w.size ∙ l.invariant.2 ∙ c.first_looks.ensures.looks_len_unchanged;
    }

pub loop-r-smaller : goal.loop-r-smaller
loop-r-smaller c =
    let a = c.args in
    let l = c.loop-r in
    let v = c.sweep_once-r in
    let did = c.sweep_once-r.ensures.advance in
    let less : total (memory l.rows l.words) < total (memory v.new.rows v.new.words) =
    did.more (not-false v.result.changed c.if-not-r.false) in
    let most = total_bound {T = table_in a.net.now} (memory v.new.rows v.new.words) did.sized in
    let size : length v.new.rows + length v.new.words ≡ length a.rows.now + length a.words.now =
    omega (
      arith,
      did.sized.rows_size,
      c.requires.sized.rows_size,
      did.same_words_length,
      l.invariant.0.same_words_length,
    ) in
    let fixed = ap (λ (k : ℕ). k * 2 ^ 32) size in
    omega (arith, less, most, fixed)

pub loop-r-preserved : goal.loop-r-preserved
loop-r-preserved c =
    let w = c.sweep_once-r.ensures in
    let l = c.loop-r in (
      swept_more (table_in c.args.net.now) l.invariant.0 w.advance,
      w.watched c.if-r.false (founded c.requires.founded l.invariant.0) l.invariant.1,
      w.size ∙ l.invariant.2,
    )
