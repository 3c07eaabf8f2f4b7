-- The search of a table keeps what it promises.
use Prim.Native.Nat.{ℕ}
use mathlib.Core.Path.{sym, ap, subst, ◌∙◌}
use mathlib.Core.List.{[]}
use lib.ListN.{length}
use Rattle.table.specs.Table.{Table}
use Rattle.table.specs.Facts.{Wellformed}
use Rattle.ctl.proofs.Tabulate.{length_tabulate}
use Rattle.circuit.specs.Variables.{variable_count}
use Rattle.closure.specs.Computed.{closure, settled_below}
use Rattle.closure.specs.Settled.{SettledCount}
use Rattle.closure.specs.Numbered.{numbered_clauses}
use Rattle.search.specs.Search.{uncapped, walk_all, search}
use Rattle.search.specs.TableSearch.{mark_price, table_search, search_free}
use Rattle.search.specs.Right.{settled, SearchIsRight}
use Rattle.search.proofs.Cap.{settled_given, search_unspent, search_cut, search_same, search_few}
use Rattle.search.proofs.Cheapest.{search_none, search_found}
use Rattle.search.proofs.StepClosure.{clash_exact, mark_exact, settled_right}
use Rattle.search.proofs.ClosureRight.{closure-is_right}
use Rattle.search.proofs.PriceRight.{price_is_right}
use Rattle.ctl.specs.Range.{below}

-- the number that it carries is that of the closure of nothing
settled_first : (T : Table) → Wellformed T → SettledCount T [] (settled (search_free T))
unfolding table_search search
settled_first T wf =
    let close = closure (variable_count T) (numbered_clauses T) in
    let steps = below (length T.steps) in
    subst (SettledCount T [])
    (sym (settled_given (settled_below (length steps) (close [])) (walk_all uncapped close (mark_price T) steps)
    ∙ ap (λ (e : ℕ). settled_below e (close [])) (length_tabulate (length T.steps) (λ k. k))))
    (settled_right T wf [] (closure-is_right T wf).fine_none)

-- The search finds the cheapest repair, the first in rank of those, or that there is none, and is cut at each cap.
pub search_is_right : (T : Table) → Wellformed T → SearchIsRight T
unfolding table_search
search_is_right T wf =
    let close = closure (variable_count T) (numbered_clauses T) in
    let price = mark_price T in
    let steps = below (length T.steps) in
    record {
      unspent = search_unspent close price steps;
      none_exact = search_none (closure-is_right T wf) (price_is_right T);
      found_cheapest = search_found (closure-is_right T wf) (price_is_right T);
      spent_over = search_cut close price steps;
      same_within = search_same close price steps;
      few_choices = rw length_tabulate at (search_few close price steps);
      settled_exact = settled_first T wf;
      closure_fails = λ P fine. clash_exact T wf P fine;
      closure_holds = λ P fine m new e j sign. mark_exact T wf P fine e j sign;
    }
