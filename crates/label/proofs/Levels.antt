-- The levels of a fixed-point kind, on words.
use Prim.Native.Nat.{ℕ, zero, suc, ◌≤◌, ◌<◌}
use mathlib.Core.Path.{◌≡◌, sym, ap, ap₂, ◌∙◌}
use mathlib.Core.Bool.{Bool, false, ◌&&◌, ◌||◌, false≢true}
use mathlib.Core.Logic.{⊎_elim}
use mathlib.Core.List.{List}
use native.Mathlib.Decide.{dec_lt}
use native.Mathlib.Omega.{arith}
use lib.Bits.{bit_and, bit_or}
use lib.ListN.{length, get_or-eq_default}
use Rattle.sets.specs.Member.{set_of}
use Rattle.sets.proofs.SetOf.{set_of_cong}
use Rattle.table.specs.declared.operator.Family.{Family}
use Rattle.table.specs.declared.operator.Family.TheVariants.{Release, Until, Eventually, Always}
use Rattle.table.specs.Table.{Table}
use Rattle.ctl.specs.Rule.{Quantifier}
use Rattle.ctl.specs.Range.{tabulate}
use Rattle.ctl.specs.Levels.{has, iterate, next_in, joined, level}
use Rattle.ctl.specs.Labels.{targets}
use Rattle.ctl.proofs.Tabulate.{get_d_tabulate, get_d_tabulate_past}
use Rattle.table.proofs.Bools.{not_so}
use Rattle.ctl.proofs.Joined.{joined_source}
use Rattle.ctl.proofs.Stable.{level_mark}
use Rattle.label.specs.Words.{next_word, join_word, level_word, levels_word}
use Rattle.label.proofs.Marks.{and_word, or_word}
use Rattle.label.proofs.Next.{KeptRows, next_word_lem}

-- what a level joins, of words, is the word of what it joins of marks
join_word_lem : (f : Family) (a b x : ℕ → Bool)
    → join_word f (set_of 32 a) (set_of 32 b) (set_of 32 x) ≡ set_of 32 (λ s. joined f (a s) (b s) (x s))
join_word_lem Release a b x = ap (bit_and (set_of 32 b)) (or_word a x) ∙ and_word b (λ s. a s || x s)
join_word_lem Until a b x = ap (bit_or (set_of 32 b)) (and_word a x) ∙ or_word b (λ s. a s && x s)
join_word_lem Eventually a b x = or_word b x
join_word_lem Always a b x = and_word b x

-- of nothing it is nothing
joined_none : (f : Family) (a : Bool) → joined f a false false ≡ false
joined_none f a = not_so (joined f a false false) (λ e. ⊎_elim false≢true false≢true (joined_source f a false false e))

module _ (f : Family) (q : Quantifier) (next : ℕ → List ℕ) (n : ℕ) (A B Y : List Bool) (size : length B ≡ n) where
  -- the mark of a state in a level, of the marks of a and b and of the states at which the level below is next
  level_marks : (s : ℕ)
      → joined f (has A s) (has B s) (has (tabulate n (λ t. next_in q Y (next t))) s) ≡ has (level f q next n A B Y) s
  unfolding level
  level_marks s = go (dec_lt s n)
    where
      go : Dec (s < n)
          → joined f (has A s) (has B s) (has (tabulate n (λ t. next_in q Y (next t))) s)
          ≡ has (level f q next n A B Y) s
      go (yes h) =
          ap (joined f (has A s) (has B s)) (get_d_tabulate n (λ t. next_in q Y (next t)) s false h)
          ∙ sym (level_mark f q next n A B Y s h)
      go (no h) =
          ap₂ (joined f (has A s)) (get_or-eq_default B false (rw size (omega arith)))
          (get_d_tabulate_past n _ s false (omega arith))
          ∙ joined_none f (has A s)
          ∙ sym (get_d_tabulate_past n _ s false (omega arith))

module _ {T : Table} {list rows : List ℕ} (k : KeptRows T list rows) (f : Family) (q : Quantifier) (A B : ℕ)
    (YA YB : List Bool)
    (A-is : A ≡ set_of 32 (has YA)) (B-is : B ≡ set_of 32 (has YB)) (size : length YB ≡ length T.states) where
  -- one level, from the words of a, of b and of the level below
  pub level_word_lem : (X : ℕ) (Y : List Bool) → X ≡ set_of 32 (has Y)
      → level_word f q rows (length T.states) A B X
      ≡ set_of 32 (has (level f q (targets T list) (length T.states) YA YB Y))
  level_word_lem X Y e =
      ap₂ (λ (x y : ℕ). join_word f x y (next_word q rows (length T.states) X)) A-is B-is
      ∙ ap (join_word f (set_of 32 (has YA)) (set_of 32 (has YB))) (next_word_lem k q X Y e)
      ∙ join_word_lem f (has YA) (has YB) (has (tabulate (length T.states) (λ s. next_in q Y (targets T list s))))
      ∙ set_of_cong 32 _ _ (λ s h. level_marks f q (targets T list) (length T.states) YA YB Y size s)

  -- level m is the word of the list of its marks
  pub levels_word_lem : (m : ℕ) → levels_word f q rows (length T.states) A B m
      ≡ set_of 32 (has (iterate (level f q (targets T list) (length T.states) YA YB) YB m))
  unfolding levels_word iterate
  levels_word_lem zero = B-is
  levels_word_lem (suc m) = level_word_lem _ _ (levels_word_lem m)

-- a level that gives itself again is every later level
pub levels_stay : (f : Family) (q : Quantifier) (rows : List ℕ) (n A B m : ℕ)
    → level_word f q rows n A B (levels_word f q rows n A B m) ≡ levels_word f q rows n A B m
    → (k : ℕ) → m ≤ k → levels_word f q rows n A B k ≡ levels_word f q rows n A B m
unfolding levels_word
levels_stay f q rows n A B m fixed zero h = let e : m ≡ 0 = omega arith in ap (levels_word f q rows n A B) (sym e)
levels_stay f q rows n A B m fixed (suc k) h = go (dec_lt k m) (levels_stay f q rows n A B m fixed k)
  where
    go : Dec (k < m) → (m ≤ k → levels_word f q rows n A B k ≡ levels_word f q rows n A B m)
        → levels_word f q rows n A B (suc k) ≡ levels_word f q rows n A B m
    go (yes l) ih = let e : suc k ≡ m = omega arith in ap (levels_word f q rows n A B) e
    go (no l) ih = ap (level_word f q rows n A B) (ih (omega arith)) ∙ fixed
