-- A row added to the rows or to the words advances the memory where it is sound: it adds bits, and its report says
-- what it did.
use Prim.Native.Nat.{ℕ, ◌+◌, ◌*◌, ◌-◌, ◌<◌}
use native.Mathlib.Omega.{arith}
use mathlib.Core.Path.{◌≡◌, refl, ap, ◌∙◌}
use mathlib.Core.Bool.{Bool, true, false, cond}
use mathlib.Core.Logic.{inl}
use mathlib.Core.List.{List}
use lib.Bits.{or_lt}
use lib.Dec.{eqb}
use lib.ListN.{length}
use Rattle.table.specs.Table.{Table}
use Rattle.circuit.specs.Logic.{Literal}
use Rattle.circuit.specs.Variables.{Var}
use Rattle.rows.specs.declared.row.Row.{Row}
use Rattle.rows.specs.Row.{Within, Clear, clashes, union}
use Rattle.rows.specs.Words.{row_at, SmallRow}
use Rattle.rows.proofs.RowLaws.{union-true, clear_row}
use Rattle.closure.specs.Knowledge.{knowledge, Sized, level_base, level_total, level_row}
use Rattle.propagate.specs.Memory.{Memory, node_place, memory, Stepped, add_row, add_word}
use Rattle.closure.specs.KnowledgeIn.{KnowledgeIn, Clash}
use Rattle.closure.specs.Advance.{ForcedBy}
use Rattle.propagate.proofs.AddedRow.{added_length, added_past, added_grows, added_small, added_same, joined_within}
use Rattle.closure.proofs.AddedSum.{added-sum}
use Rattle.closure.proofs.Advances.{Advances}

-- x adds nothing to the row, which knows nothing both ways
abbrev pub Quiet : Row → Row → Type 0
Quiet x r = Within x r × Clear r

pub union_small : (r q : Row) → SmallRow r → SmallRow q → SmallRow (union r q)
union_small r q a b = (or_lt 32 r.yes q.yes a.0 b.0, or_lt 32 r.no q.no a.1 b.1)

-- a part of what knows nothing both ways knows nothing both ways
part_clear : (r q : Row) → SmallRow r → SmallRow q → clashes (union r q) ≡ false → Clear r
part_clear r q a b e s y n = clear_row (union r q) (union_small r q a b) e s ((union-true r q true s).1 (inl y))
    ((union-true r q false s).1 (inl n))

module _ (T : Table) (M : Memory) (sized : Sized T M) where
  -- a row of the memory is of words
  pub rows_small : (at : ℕ) → SmallRow (row_at M.rows at)
  rows_small at = (sized.small_rows at, sized.small_rows (at + 1))

  pub words_small : (at : ℕ) → SmallRow (row_at M.words at)
  words_small at = (sized.small_words at, sized.small_words (at + 1))

  pub levels_small : (i b m : ℕ) → SmallRow (level_row T M i b m)
  levels_small i b m = go (eqb m 0) (eqb m (length T.states))
    where
      go : (p q : Bool) → SmallRow
          (cond p (row_at M.rows (node_place b))
          (cond q (row_at M.rows (node_place i)) (row_at M.words (level_base T i + 2 * (m - 1)))))
      go true q = rows_small (node_place b)
      go false true = rows_small (node_place i)
      go false false = words_small (level_base T i + 2 * (m - 1))

  -- of a step to another memory: what is inside stays inside, and what is now known both ways is so in the set
  pub record Sound (r : Row) (s : Stepped) : Type 0 where
    pub keeps : (P : List (Literal Var)) → KnowledgeIn T (ForcedBy T P) (knowledge T M)
        → KnowledgeIn T (ForcedBy T P) (knowledge T s.memory)
    pub clash : clashes r ≡ true → (P : List (Literal Var)) → KnowledgeIn T (ForcedBy T P) (knowledge T M)
        → Clash T (ForcedBy T P)

  module _ (at : ℕ) (x : Row) (small : SmallRow x) where
    pub add_row_lem : at + 1 < 130 → Sound (union (row_at M.rows at) x) (add_row at x M)
        → Advances T (λ K. Quiet x (row_at M.rows at)) M (add_row at x M)
    add_row_lem place sound = record {
      sized = record {
        rows_size = added_length M.rows at x ∙ sized.rows_size;
        words_size = sized.words_size;
        small_rows = added_small M.rows at x fits small sized.small_rows;
        small_words = sized.small_words;
      };
      grows_rows = added_grows M.rows at x fits;
      grows_words = λ k s e. e;
      same_rows_length = added_length M.rows at x;
      beyond = λ k l. refl;
      same_words_length = refl;
      sound = sound.keeps;
      clash = sound.clash;
      unchanged = λ c. ap (λ (ws : List ℕ). memory ws M.words) (added_same M.rows at x fits c);
      quiet = λ c f. (joined_within M.rows at x fits c, part_clear (row_at M.rows at) x (rows_small at) small f);
      more = λ c. omega (arith, added-sum M.rows at x fits c);
    }
      where
        fits : at + 1 < length M.rows
        fits = omega (arith, sized.rows_size)

    pub add_word_lem : at + 1 < level_total T → Sound (union (row_at M.words at) x) (add_word at x M)
        → Advances T (λ K. Quiet x (row_at M.words at)) M (add_word at x M)
    add_word_lem place sound = record {
      sized = record {
        rows_size = sized.rows_size;
        words_size = omega (arith, added_length M.words at x, sized.words_size);
        small_rows = sized.small_rows;
        small_words = added_small M.words at x fits small sized.small_words;
      };
      grows_rows = λ k s e. e;
      grows_words = added_grows M.words at x fits;
      same_rows_length = refl;
      beyond = λ k l. added_past M.words at x fits k (omega arith);
      same_words_length = added_length M.words at x;
      sound = sound.keeps;
      clash = sound.clash;
      unchanged = λ c. ap (λ (ws : List ℕ). memory M.rows ws) (added_same M.words at x fits c);
      quiet = λ c f. (joined_within M.words at x fits c, part_clear (row_at M.words at) x (words_small at) small f);
      more = λ c. omega (arith, added-sum M.words at x fits c);
    }
      where
        fits : at + 1 < length M.words
        fits = omega (arith, sized.words_size)
