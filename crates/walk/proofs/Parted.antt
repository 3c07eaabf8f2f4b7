-- The words of the levels with others behind them: what is known, what lies between the literals and their closure,
-- and what rests, is the same with them.
use Prim.Native.Nat.{ℕ, ◌^◌, ◌<◌}
use native.Mathlib.Omega.{arith}
use native.Mathlib.Decide.{dec_lt}
use mathlib.Core.Path.{◌≡◌, sym, ap, ◌∙◌}
use mathlib.Core.List.{List, ◌++◌}
use lib.ListN.{length, get_or, get_or-append, get_or-eq_default}
use Rattle.table.specs.Table.{Table}
use Rattle.circuit.specs.Logic.{Literal}
use Rattle.circuit.specs.Variables.{Var}
use Rattle.propagate.specs.Memory.{memory}
use Rattle.std.specs.Prelude.{Option}
use Rattle.closure.specs.Knowledge.{knowledge, Sized, level_total}
use Rattle.closure.specs.Advance.{Founded, ForcedBy}
use Rattle.closure.specs.Closes.{Between, Closes}
use Rattle.events.specs.Watched.{RestBut}
use Rattle.walk.proofs.SameWords.{words_inside, words_between, words_rest}

module _ (T : Table) (rows levels rest : List ℕ) (all : length levels ≡ level_total T) where
  agrees : (k : ℕ) → k < level_total T → get_or (levels ++ rest) k 0 ≡ get_or levels k 0
  agrees k h = get_or-append levels rest 0 k (omega (arith, h, all))

  -- ---- with them

  pub whole_closes : (P : List (Literal Var)) (c : Option ℕ) → Closes T P c (memory rows levels)
      → Closes T P c (memory rows (levels ++ rest))
  whole_closes P c closes = record {
    fails_exact = closes.fails_exact;
    settled = closes.settled;
    between = words_between T rows levels (levels ++ rest) agrees P closes.between;
    exact = closes.exact;
  }

  pub whole_rest : (set : ℕ) → RestBut T set (knowledge T (memory rows levels))
      → RestBut T set (knowledge T (memory rows (levels ++ rest)))
  whole_rest = words_rest T rows levels (levels ++ rest) agrees

  -- ---- without them

  module _ (words : List ℕ) (is : words ≡ levels ++ rest) where
    same : (k : ℕ) → k < level_total T → get_or levels k 0 ≡ get_or words k 0
    same k h = sym (ap (λ (w : List ℕ). get_or w k 0) is ∙ agrees k h)

    pub part_between : (P : List (Literal Var)) → Between T P (memory rows words) → Between T P (memory rows levels)
    part_between = words_between T rows words levels same

    pub part_founded : Founded T (memory rows words) → Founded T (memory rows levels)
    part_founded (P, inside) = (P, words_inside T rows words levels same (ForcedBy T P) inside)

    pub part_rest : (set : ℕ) → RestBut T set (knowledge T (memory rows words))
        → RestBut T set (knowledge T (memory rows levels))
    part_rest = words_rest T rows words levels same

    pub part_sized : Sized T (memory rows words) → Sized T (memory rows levels)
    part_sized sized = record {
      rows_size = sized.rows_size;
      words_size = omega (arith, all);
      small_rows = sized.small_rows;
      small_words = λ k. small k (dec_lt k (length levels));
    }
      where
        small : (k : ℕ) → Dec (k < length levels) → get_or levels k 0 < 2 ^ 32
        small k (yes l) =
            rw (sym (get_or-append levels rest 0 k l), sym (ap (λ (w : List ℕ). get_or w k 0) is)) (sized.small_words k)
        small k (no d) = rw (get_or-eq_default levels 0 {n = k} (omega (arith, d))) (omega arith)
