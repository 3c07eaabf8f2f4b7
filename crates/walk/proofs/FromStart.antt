-- The search of a table from nothing chosen, in the code's steps.
use Prim.Native.Nat.{ℕ}
use native.Mathlib.Omega.{arith}
use mathlib.Core.Path.{◌≡◌, refl, sym, ap, subst, ◌∙◌}
use mathlib.Core.Bool.{false}
use mathlib.Core.List.{List, []}
use Rattle.table.specs.Table.{Table}
use Rattle.table.specs.Facts.{Wellformed}
use Rattle.ctl.proofs.Tabulate.{length_tabulate}
use Rattle.closure.specs.Closes.{Closes, is_failed}
use Rattle.closure.specs.Computed.{settled_below}
use Rattle.propagate.specs.Memory.{Memory, memory}
use Rattle.std.specs.Prelude.{Option, Ok}
use Rattle.walk.specs.declared.assess.Assessed.{Assessed}
use Rattle.walk.specs.declared.assess.Assessed.TheVariants.{Ended, Unsettled}
use Rattle.search.specs.Search.{unfound, search, outcome_of}
use Rattle.search.specs.TableSearch.{table_search, search_under}
use Rattle.search.specs.Answer.{answer_of, list_after}
use Rattle.search.specs.Finds.{Held, NoFind, Finished, finished, written, Gives}
use Rattle.search.specs.Fine.{closure_of}
use Rattle.search.proofs.ClosureRight.{closure-is_right}
use Rattle.walk.specs.Stands.{StandsAt, GoesOn, Resting, Somewhere, GivesFrom, Comes, ComesOf, walk_from, search_from}
use Rattle.walk.proofs.Giving.{gives_same, gives-answer, gives_list}
use Rattle.walk.proofs.WalkOn.{walk_passed, search_marked}
use lib.ListN.{length}

module _ (T : Table) (cap : ℕ) where
  -- the settled steps of the closure of nothing
  first : ℕ
  first = settled_below (length T.steps) (closure_of T [])

  as_search : search_under T cap ≡ outcome_of first (search_from T cap 0 [] unfound 0)
  unfolding table_search search first
  as_search = ap (λ (e : ℕ). outcome_of (settled_below e (closure_of T [])) (search_from T cap 0 [] unfound 0))
      (length_tabulate (length T.steps) (λ k. k))

  -- what is answered and written, where all was walked as the search does
  module _ (bytes : List ℕ) (r : Finished) (g : Gives T cap (search_from T cap 0 [] unfound 0) bytes r) where
    pub start_answer : (k : ℕ) → k ≡ settled_below (length T.steps) (closure_of T [])
        → finished k r ≡ answer_of (search_under T cap)
    unfolding first
    start_answer k settled =
        ap (λ (n : ℕ). finished n r) settled ∙ gives-answer T cap first (search_from T cap 0 [] unfound 0) bytes r g
        ∙ sym (λ i. answer_of (as_search i))

    pub start_list : (list : List ℕ) → written (length T.steps) r bytes list ≡ list_after T (search_under T cap) list
    start_list list = gives_list T cap first (search_from T cap 0 [] unfound 0) bytes r list g
        ∙ sym (λ i. list_after T (as_search i) list)

module _ (T : Table) (wf : Wellformed T) (rows words : List ℕ) (c : Option ℕ) (before bytes : List ℕ)
    (assessed : Assessed) (gives : ComesOf T c NoFind rows before bytes assessed)
    (closes : Closes T [] c (memory rows words)) (rests : is_failed c ≡ false → Resting T (memory rows words)) where
  abbrev M : Memory
  M = memory rows words

  comes : Comes T NoFind M bytes [] unfound assessed
  comes = gives words [] unfound (closure-is_right T wf).fine_none closes rests tt

  -- the tries of P have ended
  pub start_ended : (cap : ℕ) (after : Held) → assessed ≡ Ended after
      → Gives T cap (search_from T cap 0 [] unfound 0) bytes
      (Ok (record { best = after; choices = record { made = 0; cap = cap } }))
  start_ended cap after told = go (subst (Comes T NoFind M bytes [] unfound) told comes)
    where
      go : Comes T NoFind M bytes [] unfound (Ended after)
          → Gives T cap (search_from T cap 0 [] unfound 0) bytes
          (Ok (record { best = after; choices = record { made = 0; cap = cap } }))
      go (b', stores, same) =
          gives_same T cap bytes (Ok (record { best = after; choices = record { made = 0; cap = cap } }))
          (same cap 0 0 (omega arith)) (stores, (refl, refl))

  -- or a step that is unsettled
  module _ (k : ℕ) (told : assessed ≡ Unsettled k) where
    there : Comes T NoFind M bytes [] unfound (Unsettled k)
    there = subst (Comes T NoFind M bytes [] unfound) told comes

    pub start_rests : Resting T M
    start_rests = there.3

    pub start_stands : Somewhere (GoesOn T k M NoFind bytes)
    start_stands = ([], there.0, unfound, there.1)

    pub start_onward : (cap : ℕ) (after : List ℕ) (r : Finished)
        → GivesFrom (GoesOn T k M NoFind bytes) T cap (λ R n b. walk_from T cap k R n b 0) after r
        → Gives T cap (search_from T cap 0 [] unfound 0) after r
    start_onward cap after r rest =
        let s : StandsAt T k M.rows [] there.0 = there.1.stands in
        gives_same T cap after r
        (search_marked T cap 0 [] unfound 0 s.closed there.2
        ∙ walk_passed T cap [] there.0 unfound 0 0 k (omega arith) (omega (arith, s.inside)) s.settled)
        (rest [] there.0 unfound there.1)
