-- The samples of prices: the sheet's answer at any prices, by the one comparison that the search makes of them; the
-- fork's by computation.
use Prim.Native.Nat.{ℕ, ◌+◌, ◌≤◌, ◌<◌}
use mathlib.Core.Path.{◌≡◌, refl, sym, ap, ◌∙◌}
use mathlib.Core.Bool.{Bool, true, false}
use mathlib.Core.List.{List, [], ◌∷◌}
use native.Mathlib.Omega.{arith}
use borrow.Author.Tests.{le-ltb}
use lib.Dec.{ltb}
use lib.ListN.{length, take, drop}
use lib.Seq.{take_at}
use Rattle.sets.specs.Member.{member, count_of}
use Rattle.std.specs.Prelude.{Ok}
use Rattle.table.specs.Table.{Table, table_of, records}
use Rattle.table.specs.Accept.{all, any, distinct, nodes_fit, table_verdict, list_verdict}
use Rattle.table.specs.Buffer.{on_accepted}
use Rattle.table.proofs.Facts.{accepted}
use Rattle.table.proofs.Refused.{is_table}
use Rattle.ctl.specs.Rule.{bottom_up}
use Rattle.ctl.specs.Range.{tabulate, select}
use Rattle.ctl.specs.Levels.{iterate, next_in, level, levels}
use Rattle.ctl.specs.Labels.{kept_steps, ends_from, label_of, label}
use Rattle.ctl.specs.Price.{sum_below}
use Rattle.ctl.specs.Reached.{reached_set, strike}
use Rattle.ctl.specs.Tests.{judge_verdict}
use Rattle.ctl.proofs.Strike.{strike-length}
use Rattle.circuit.specs.Logic.{Literal, pos, neg, gate_clauses}
use Rattle.circuit.specs.Variables.{concat, out_of, node_variables, variables, variable_count, costs, variable_formula}
use Rattle.circuit.specs.Gates.{node_gates, gates}
use Rattle.circuit.specs.Clauses.{demands, clauses}
use Rattle.closure.specs.Computed.{
  Marks,
  Progress,
  clash,
  marked,
  closure,
  open_in,
  take_clause,
  round,
  rounds,
  marks_of,
}
use Rattle.closure.specs.Numbered.{same_code, place, numbered_clauses}
use Rattle.search.specs.Search.{
  Best,
  find,
  Walked,
  passed,
  cut,
  Outcome,
  found,
  spent,
  outcome_of,
  uncapped,
  choose,
  walk,
  search,
}
use Rattle.search.specs.TableSearch.{table_search, mark_price, search_under, search_free, list_of}
use Rattle.search.specs.Answer.{answer_of}
use Rattle.search.specs.Right.{choices, settled, SearchIsRight}
use Rattle.search.proofs.Right.{search_is_right}
use Rattle.repair.specs.Effect.{repair_verdict, written_after, answer_at, repair_answer, repair_list}
use Rattle.repair.specs.Right.{LongEnough}
use Rattle.repair.proofs.Refusals.{fits}
use Rattle.samples.proofs.Once.{ends, once, all_pass}
use Rattle.samples.specs.Samples.{searches, answers, passes, priced}
use Rattle.samples.specs.Prices.{SheetAt, SheetAtAnyPrices, price_cases}

-- ---- the sheet

marks_in : Progress → Marks
marks_in clash = []
marks_in (marked m new) = m

no_less : (a b r s : ℕ) → a ≡ 0 + 0 + 0 + r + 0 → b ≡ 0 + 0 + 0 + r + s → a ≤ b
no_less a b r s e f = omega arith

just : (a r : ℕ) → a ≡ 0 + 0 + 0 + r + 0 → a ≡ r
just a r e = omega arith

module _ (p q r s : ℕ) where
  abbrev T : Table
  T = table_of (priced p q r s)

  abbrev close : List (Literal ℕ) → Progress
  close = closure (variable_count T) (numbered_clauses T)

  -- what is found with the fourth choice, and where the fifth leads: the last step is struck besides
  abbrev first_find : Marks
  first_find = marks_in (close (pos 3 ∷ neg 2 ∷ pos 1 ∷ []))

  abbrev dearer : Marks
  dearer = marks_in (close (neg 3 ∷ neg 2 ∷ pos 1 ∷ []))

  abbrev best : Best
  best = find first_find (mark_price T first_find)

  -- the sixth choice, and what comes of the search by whether the fifth undercuts
  abbrev sixth : Walked → Outcome
  sixth w = outcome_of 1 (elim w [
    | passed b c ↦ choose uncapped close (mark_price T) (neg 1) [] b c (walk uncapped close (mark_price T) (2 ∷ 3 ∷ []))
    | cut c ↦ cut c
  ])

  abbrev after : Bool → Outcome
  after b = sixth (elim b [
    | true ↦ walk uncapped close (mark_price T) [] (neg 3 ∷ neg 2 ∷ pos 1 ∷ []) dearer best 5
    | false ↦ passed best 5
  ])

  by_price : search_free T ≡ after (ltb (mark_price T dearer) (mark_price T first_find))
  unfolding marks_in member count_of records all any tabulate iterate next_in level levels gate_clauses concat out_of
      node_variables variables node_gates gates select demands clauses open_in take_clause round rounds marks_of walk
      search same_code place numbered_clauses table_search
  by_price = refl

  found_price : mark_price T first_find ≡ 0 + 0 + 0 + r + 0
  unfolding marks_in member records all any tabulate iterate next_in level levels gate_clauses concat out_of
      node_variables variables node_gates gates select demands clauses open_in take_clause round rounds marks_of walk
      search same_code place numbered_clauses table_search sum_below
  found_price = refl

  dearer_price : mark_price T dearer ≡ 0 + 0 + 0 + r + s
  unfolding marks_in member records all any tabulate iterate next_in level levels gate_clauses concat out_of
      node_variables variables node_gates gates select demands clauses open_in take_clause round rounds marks_of walk
      search same_code place numbered_clauses table_search sum_below
  dearer_price = refl

  whole : search_free T ≡ found first_find (mark_price T first_find) 6 1
  unfolding marks_in member records all any tabulate iterate next_in level levels gate_clauses concat out_of
      node_variables variables node_gates gates select demands clauses open_in take_clause round rounds marks_of walk
      search same_code place numbered_clauses table_search
  whole =
      by_price
      ∙ ap after (le-ltb (mark_price T dearer) (mark_price T first_find) (no_less _ _ r s found_price dearer_price))

  its_list : list_of T first_find ≡ 1 ∷ 1 ∷ 0 ∷ 1 ∷ []
  unfolding marks_in member records all any tabulate iterate next_in level levels gate_clauses concat out_of
      node_variables variables node_gates gates select demands clauses open_in take_clause round rounds marks_of walk
      search same_code place numbered_clauses table_search
  its_list = refl

  struck : strike T (1 ∷ 1 ∷ 0 ∷ 1 ∷ []) ≡ 1 ∷ 1 ∷ 0 ∷ 0 ∷ []
  unfolding member records all any tabulate iterate next_in level levels kept_steps ends_from reached_set strike select
      same_code
  struck = refl

  struck_list : strike T (list_of T first_find) ≡ 1 ∷ 1 ∷ 0 ∷ 0 ∷ []
  struck_list = ap (strike T) its_list ∙ struck

  is_accepted : table_verdict (priced p q r s) ≡ Ok tt
  unfolding member records all any distinct nodes_fit table_verdict
  is_accepted = refl

  right : SearchIsRight T
  right = search_is_right T (accepted (priced p q r s) is_accepted).table

  free : search_free T ≡ found first_find r 6 1
  free = whole ∙ ap (λ (k : ℕ). found first_find k 6 1) (just _ r found_price)

  -- the search finds that under a cap from 6 on, and is cut below
  found_under : (cap : ℕ) → 6 ≤ cap → search_under T cap ≡ found first_find r 6 1
  found_under cap h = right.same_within cap (omega (arith, ap choices free)) ∙ free

  spent_under : (cap : ℕ) → cap < 6 → search_under T cap ≡ spent cap 1
  spent_under cap h =
      right.spent_over cap (omega (arith, ap choices free)) ∙ ap (λ (o : Outcome). spent cap (settled o)) free

  four : length T.steps ≡ 4
  unfolding records
  four = refl

  module _ (cap : ℕ) (list bytes words : List ℕ) (g : LongEnough (priced p q r s) list bytes words) where
    tests_pass : repair_verdict (priced p q r s) list bytes words ≡ Ok tt
    tests_pass = fits (priced p q r s) list bytes words g

    answered : (o : Outcome) → search_under T cap ≡ o
        → repair_answer (priced p q r s) cap list bytes words ≡ answer_of o
    answered o e = λ j. answer_at (tests_pass j) (e j)

    written : (m : Marks) (x c k : ℕ) → search_under T cap ≡ found m x c k
        → take 4 (repair_list (priced p q r s) cap list bytes words) ≡ strike T (list_of T m)
    written m x c k e =
        (λ j. take (sym four j) (on_accepted (tests_pass j) (written_after T (e j) list) list))
        ∙ take_at (strike T (list_of T m)) (drop (length T.steps) list) (length T.steps) (strike-length T (list_of T m))

  pub whatever_prices : SheetAt p q r s
  whatever_prices = record {
    accepted = (is_table (priced p q r s)).0 is_accepted;
    found_from_6 = λ cap h list bytes words g.
        let e = found_under cap h in (
          answered cap list bytes words g (found first_find r 6 1) e,
          written cap list bytes words g first_find r 6 1 e ∙ struck_list,
        );
    spent_below_6 = λ cap h list bytes words g. answered cap list bytes words g (spent cap 1) (spent_under cap h);
    chosen_from_6 = λ cap h. (first_find, found_under cap h, its_list, struck_list);
    cut_below_6 = spent_under;
  }

pub sheet_at_any_prices : SheetAtAnyPrices
sheet_at_any_prices = whatever_prices

-- ---- the fork

pub prices_pass : all passes price_cases ≡ true
unfolding member count_of records all any distinct nodes_fit table_verdict list_verdict bottom_up tabulate iterate
    next_in level levels kept_steps ends_from label_of label sum_below reached_set strike judge_verdict gate_clauses
    concat out_of node_variables variables node_gates gates select demands clauses open_in take_clause round rounds
    marks_of walk search same_code place numbered_clauses table_search ends once searches answers passes costs
    variable_formula repair_verdict
prices_pass = all_pass price_cases refl
