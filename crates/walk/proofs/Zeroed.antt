-- Words of 0: they know no level, so the rows with them still lie between the literals and their closure; and with
-- rows of 0 nothing is known.
use Prim.Native.Nat.{ℕ, ◌+◌, ◌*◌, ◌-◌, ◌<◌}
use mathlib.Core.Path.{◌≡◌, sym, ap, ◌∙◌}
use mathlib.Core.Bool.{Bool, true, false, cond, false≢true}
use mathlib.Core.List.Memᴰ
use mathlib.Core.List.{List, []}
use native.Mathlib.Decide.{dec_lt}
use native.Mathlib.Omega.{arith}
use lib.Dec.{eqb}
use lib.ListN.{length, get_or, replicate, length-replicate, get_or-replicate, get_or-eq_default}
use Rattle.sets.specs.Member.{member}
use Rattle.sets.proofs.Laws.{member-zero}
use Rattle.table.specs.Table.{Table, node_at}
use Rattle.circuit.specs.Logic.{Literal}
use Rattle.circuit.specs.Variables.{Var}
use Rattle.rows.specs.Row.{known}
use Rattle.rows.specs.Words.{row_at, step_place}
use Rattle.ctl.specs.Rule.{operator_of}
use Rattle.closure.specs.Knowledge.{second_child, level_row, level_base}
use Rattle.propagate.specs.Memory.{node_place, kept_place, memory}
use Rattle.closure.specs.Closes.{Between}

pub zeros : (n k : ℕ) → get_or {A = ℕ} (replicate n 0) k 0 ≡ 0
zeros n k = go (dec_lt k n)
  where
    go : Dec (k < n) → get_or {A = ℕ} (replicate n 0) k 0 ≡ 0
    go (yes l) = get_or-replicate n k 0 0 l
    go (no l) = get_or-eq_default (replicate n 0) 0 (rw length-replicate (omega arith))

-- a row of words that are 0 knows nothing
zero_row : (n at : ℕ) (sign : Bool) (s : ℕ) → known (row_at (replicate n 0) at) sign s ≡ false
zero_row n at true s = ap (λ (w : ℕ). member w s) (zeros n at) ∙ member-zero s
zero_row n at false s = ap (λ (w : ℕ). member w s) (zeros n (at + 1)) ∙ member-zero s

never : {A : Type 0} {b : Bool} → b ≡ false → b ≡ true → A
never e h = absurd (false≢true (sym e ∙ h))

module _ (T : Table) (rows words : List ℕ) (n : ℕ) where
  -- what a level knows with words of 0 it knew before
  level_less : (i b m : ℕ) (sign : Bool) (s : ℕ) → known (level_row T (memory rows (replicate n 0)) i b m) sign s ≡ true
      → known (level_row T (memory rows words) i b m) sign s ≡ true
  level_less i b m sign s = go (eqb m 0) (eqb m (length T.states))
    where
      at : ℕ
      at = level_base T i + 2 * (m - 1)

      go : (x y : Bool) → known
          (cond x (row_at rows (node_place b)) (cond y (row_at rows (node_place i)) (row_at (replicate n 0) at))) sign
          s ≡ true
          → known (cond x (row_at rows (node_place b)) (cond y (row_at rows (node_place i)) (row_at words at))) sign s
          ≡ true
      go true y e = e
      go false true e = e
      go false false e = never (zero_row n at sign s) e

  pub zeroed_between : (Q : List (Literal Var)) → Between T Q (memory rows words)
      → Between T Q (memory rows (replicate n 0))
  zeroed_between Q b = record {
    of_steps = b.of_steps;
    above = b.above;
    below = record {
      steps = b.below.steps;
      kept = b.below.kept;
      nodes = b.below.nodes;
      levels = λ i fam q x y m h o l sign s e. b.below.levels i fam q x y m h o l sign s
          (level_less i (second_child (operator_of (node_at T i))) m sign s e);
    };
  }

-- ---- nothing is known, and nothing given

pub none_between : (T : Table) (n : ℕ) → Between T [] (memory (replicate 130 0) (replicate n 0))
none_between T n = record {
  of_steps = λ l m. absurd (Memᴰ.not-nil m);
  above = λ j sign m. absurd (Memᴰ.not-nil m);
  below = record {
    steps = λ s h sign t e. never (zero_row 130 (step_place s) sign t) e;
    kept = λ sign s e. never (zero_row 130 kept_place sign s) e;
    nodes = λ i h sign s e. never (zero_row 130 (node_place i) sign s) e;
    levels = λ i fam q x y m h o l sign s e. never (none_level i m sign s (eqb m 0) (eqb m (length T.states))) e;
  };
}
  where
    none_level : (i m : ℕ) (sign : Bool) (s : ℕ) (x y : Bool)
        → known (cond x (row_at (replicate 130 0) (node_place (second_child (operator_of (node_at T i)))))
        (cond y (row_at (replicate 130 0) (node_place i))
        (row_at (replicate n 0) (level_base T i + 2 * (m - 1))))) sign s ≡ false
    none_level i m sign s true y = zero_row 130 (node_place (second_child (operator_of (node_at T i)))) sign s
    none_level i m sign s false true = zero_row 130 (node_place i) sign s
    none_level i m sign s false false = zero_row n _ sign s
