-- A table of bits for steps, a row for each state and a bit for each end.
use Rattle.std.specs.Prelude.{ℕ, zero, suc, ◌^◌, ◌<◌, ◌≡◌, ◌||◌, List, [], ◌∷◌, eqb, length, get_or, set}
use Rattle.sets.specs.Member.{member, set_of}
use Rattle.table.specs.declared.record.Step.{Step}
use Rattle.table.specs.Accept.{any, joins}

-- bit t of row s says whether the step from s to t is among xs
pub record Rows (rows : List ℕ) (xs : List Step) : Type 0 where
  pub size : length rows ≡ 32
  pub words : (s : ℕ) → s < 32 → get_or rows s 0 < 2 ^ 32
  pub bits : (s t : ℕ) → s < 32 → t < 32 → member (get_or rows s 0) t ≡ any (joins s t) xs

-- the rows with the bit of one more step set
abbrev pub rows_with : List ℕ → Step → List ℕ
rows_with rows x = set rows x.from (set_of 32 (λ t. member (get_or rows x.from 0) t || eqb t x.to))

-- the ends of the steps out of s, as a set
unfoldable pub target_set : List Step → ℕ → ℕ
target_set xs s = set_of 32 (λ t. any (joins s t) xs)

-- those of the states from s on, so many of them
unfoldable pub targets_from : List Step → ℕ → ℕ → List ℕ
targets_from xs s zero = []
targets_from xs s (suc count) = target_set xs s ∷ targets_from xs (suc s) count

-- those of the states 0 to 31
unfoldable pub target_sets : List Step → List ℕ
target_sets xs = targets_from xs 0 32
