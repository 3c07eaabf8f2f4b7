-- What the search of a table promises, in one record: which answer it gives, with which list, price and counts, under
-- every cap; and that the closure that it computes is the smallest set that the clauses force.
use Rattle.std.specs.Prelude.{ℕ, suc, ◌^◌, ◌-◌, ◌≤◌, ◌<◌, ◌≡◌, ◌↔◌, Bool, length}
use mathlib.Core.List.{List, [], Memᴰ}
use Rattle.table.specs.Table.{Table}
use Rattle.ctl.specs.Kept.{Repair}
use Rattle.ctl.specs.Rank.{Cheapest}
use Rattle.ctl.specs.Price.{list_price}
use Rattle.circuit.specs.Logic.{Literal}
use Rattle.circuit.specs.Variables.{step, literal}
use Rattle.circuit.specs.Clauses.{clauses}
use Rattle.closure.specs.Closure.{Forced, Fails}
use Rattle.closure.specs.Computed.{Marks, mark_at, known, clash, marked}
use Rattle.closure.specs.Settled.{SettledCount}
use Rattle.search.specs.Search.{Outcome, found, none, spent}
use Rattle.search.specs.Fine.{Fine, closure_of, step_literals}
use Rattle.search.specs.TableSearch.{search_under, search_free, list_of}

-- the choices that an answer carries
abbrev pub choices : Outcome → ℕ
choices (found m p c k) = c
choices (none c k) = c
choices (spent c k) = c

-- the settled steps that it carries
abbrev pub settled : Outcome → ℕ
settled (found m p c k) = k
settled (none c k) = k
settled (spent c k) = k

pub record SearchIsRight (T : Table) : Type 0 where
  -- without a cap: never spent; none exactly when no list is a repair; what is found is a repair that no other
  -- undercuts, with its price, and every other repair of that price ranks after it
  pub unspent : (c k : ℕ) → ¬ (search_free T ≡ spent c k)
  pub none_exact : ((c : ℕ) × (k : ℕ) × (search_free T ≡ none c k)) ↔ ((list : List ℕ) → ¬ Repair T list)
  pub found_cheapest : (m : Marks) (p c k : ℕ) → search_free T ≡ found m p c k
      → Cheapest (list_price T) (Repair T) (list_of T m) × (p ≡ list_price T (list_of T m))
  -- under a cap: spent, with the cap, exactly when the search without one makes more choices; else the same answer
  pub spent_over : (cap : ℕ) → cap < choices (search_free T) → search_under T cap ≡ spent cap (settled (search_free T))
  pub same_within : (cap : ℕ) → choices (search_free T) ≤ cap → search_under T cap ≡ search_free T
  -- choices never exceed 2 ^ (e + 1) - 2
  pub few_choices : choices (search_free T) ≤ 2 ^ suc (length T.steps) - 2
  -- under a cap and without one: how many steps the closure of nothing settles
  pub settled_exact : SettledCount T [] (settled (search_free T))
  -- the closure of what is chosen, as it is computed, is the smallest set of the table's clauses: it fails exactly when
  -- that does, and else marks a step exactly where that has the step's literal
  pub closure_fails : (P : List (Literal ℕ)) → Fine (length T.steps) P
      → (closure_of T P ≡ clash) ↔ Fails (clauses T) (λ l. Memᴰ l (step_literals P))
  pub closure_holds : (P : List (Literal ℕ)) → Fine (length T.steps) P → (m : Marks) (new : Bool)
      → closure_of T P ≡ marked m new → (j : ℕ) (sign : Bool) → j < length T.steps
      → (mark_at m j ≡ known sign) ↔ Forced (clauses T) (λ l. Memᴰ l (step_literals P)) (literal sign (step j))
