-- Samples of the steps that the closure of nothing settles, with each answer.
use Rattle.std.specs.Prelude.{ℕ, List, [], ◌∷◌, ◌++◌}
use Rattle.samples.specs.Samples.{finds, finds_none, spends, Case, repaired, sheet}

-- State 0 is initial, and step 0 0 is its only way on, so it is kept. After step 1 2 there is none, so it is struck.
-- Each costs 1. A rule of this kind, 0 or 1.
abbrev pub branch : ℕ → List ℕ
branch kind =
    (3 ∷ 2 ∷ 1 ∷ 0 ∷ []) ++ (1 ∷ 0 ∷ 0 ∷ 0 ∷ 0 ∷ 0 ∷ 0 ∷ 0 ∷ 0 ∷ []) ++ (0 ∷ 0 ∷ 1 ∷ 1 ∷ 2 ∷ 1 ∷ [])
    ++ (kind ∷ 0 ∷ 0 ∷ [])

-- State 0 is initial, and step 0 1 is its only way on; all four steps between 1 and 2. No state has p0, and the rule
-- is AF p0.
abbrev pub never : List ℕ
never =
    (3 ∷ 5 ∷ 2 ∷ 1 ∷ [])
    ++ (1 ∷ 0 ∷ 0 ∷ 0 ∷ 0 ∷ 0 ∷ 0 ∷ 0 ∷ 0 ∷ [])
    ++ (0 ∷ 1 ∷ 1 ∷ 1 ∷ 1 ∷ 1 ∷ 1 ∷ 2 ∷ 1 ∷ 2 ∷ 2 ∷ 1 ∷ 2 ∷ 1 ∷ 1 ∷ [])
    ++ (2 ∷ 0 ∷ 0 ∷ 12 ∷ 0 ∷ 0 ∷ [])

-- In turn: both steps are settled, one kept and one struck, and no choice is left; step 1 2 is struck as before, but
-- the closure fails, and then the number is 0; none after two choices; spent before the first.
abbrev pub settled_cases : List Case
settled_cases =
    repaired (branch 1) 0 (finds (1 ∷ 0 ∷ []) (1 ∷ 0 ∷ []) 1 0 2)
    ∷ repaired (branch 0) 0 (finds_none 0 0)
    ∷ repaired never 1000000 (finds_none 2 1)
    ∷ repaired sheet 0 (spends 0 1)
    ∷ []
