-- Samples of the kinds 10 to 15: two states, all four steps between them, and a rule of one kind over two propositions.
use Rattle.std.specs.Prelude.{ℕ, List, [], ◌∷◌, ◌++◌}
use Rattle.samples.specs.Samples.{finds, finds_none, spends, Case, repaired, judged}

-- States 0, which is initial, and 1, with these labels; steps 0 0, 0 1, 1 1 and 1 0, each of price 1; the nodes p0,
-- p1 and the rule.
abbrev pub pages : ℕ → ℕ → List ℕ → List ℕ
pages first second rule =
    (2 ∷ 4 ∷ 3 ∷ 2 ∷ [])
    ++ (1 ∷ first ∷ 0 ∷ 0 ∷ second ∷ 0 ∷ [])
    ++ (0 ∷ 0 ∷ 1 ∷ 0 ∷ 1 ∷ 1 ∷ 1 ∷ 1 ∷ 1 ∷ 1 ∷ 0 ∷ 1 ∷ [])
    ++ (2 ∷ 0 ∷ 0 ∷ 2 ∷ 1 ∷ 0 ∷ [])
    ++ rule

-- kinds 10 and 11: p0 U p1
abbrev pub p0_until_p1 : ℕ → List ℕ
p0_until_p1 kind = kind ∷ 0 ∷ 1 ∷ []

-- kinds 12 to 15: F p1 or G p1
abbrev pub of_p1 : ℕ → List ℕ
of_p1 kind = kind ∷ 1 ∷ 0 ∷ []

abbrev pub all_kept : List ℕ
all_kept = 1 ∷ 1 ∷ 1 ∷ 1 ∷ []

-- only the loop at state 0, and only the steps that leave it for good
abbrev pub stays : List ℕ
stays = 1 ∷ 0 ∷ 0 ∷ 0 ∷ []

abbrev pub leaves : List ℕ
leaves = 0 ∷ 1 ∷ 1 ∷ 0 ∷ []

-- all but the loop at state 0
abbrev pub no_stay : List ℕ
no_stay = 0 ∷ 1 ∷ 1 ∷ 1 ∷ []

-- The last two: at a list that has a kept step out of state 1, which is not reached, and whose rule fails, 16 comes
-- before 13. Labels 1 2: p0 at state 0 and p1 at state 1. Labels 0 2: p1 at state 1 alone. Labels 2 0: p1 at state 0
-- alone.
abbrev pub family_cases : List Case
family_cases =
    repaired (pages 1 2 (p0_until_p1 10)) 1000000 (finds no_stay no_stay 1 6 0)
    ∷ repaired (pages 0 2 (p0_until_p1 10)) 1000000 (finds_none 0 0)
    ∷ judged (pages 1 2 (p0_until_p1 10)) all_kept 13
    ∷ judged (pages 1 2 (p0_until_p1 10)) leaves 0
    ∷ repaired (pages 1 2 (p0_until_p1 11)) 1000000 (finds all_kept all_kept 0 8 0)
    ∷ repaired (pages 0 2 (p0_until_p1 11)) 1000000 (finds_none 0 0)
    ∷ judged (pages 1 2 (p0_until_p1 11)) all_kept 0
    ∷ judged (pages 1 2 (p0_until_p1 11)) stays 13
    ∷ repaired (pages 0 2 (of_p1 12)) 1000000 (finds no_stay no_stay 1 6 0)
    ∷ repaired (pages 1 0 (of_p1 12)) 1000000 (finds_none 2 0)
    ∷ judged (pages 0 2 (of_p1 12)) all_kept 13
    ∷ judged (pages 0 2 (of_p1 12)) leaves 0
    ∷ repaired (pages 0 2 (of_p1 13)) 1000000 (finds all_kept all_kept 0 8 0)
    ∷ repaired (pages 1 0 (of_p1 13)) 1000000 (finds_none 0 0)
    ∷ judged (pages 0 2 (of_p1 13)) all_kept 0
    ∷ judged (pages 0 2 (of_p1 13)) stays 13
    ∷ repaired (pages 2 0 (of_p1 14)) 1000000 (finds (1 ∷ 0 ∷ 1 ∷ 1 ∷ []) stays 1 4 2)
    ∷ repaired (pages 2 0 (of_p1 14)) 1 (spends 1 2)
    ∷ repaired (pages 0 2 (of_p1 14)) 1000000 (finds_none 0 0)
    ∷ judged (pages 2 0 (of_p1 14)) all_kept 13
    ∷ judged (pages 2 0 (of_p1 14)) stays 0
    ∷ repaired (pages 2 0 (of_p1 15)) 1000000 (finds all_kept all_kept 0 6 1)
    ∷ repaired (pages 0 2 (of_p1 15)) 1000000 (finds_none 0 0)
    ∷ judged (pages 2 0 (of_p1 15)) all_kept 0
    ∷ judged (pages 2 0 (of_p1 15)) leaves 13
    ∷ judged (pages 0 2 (of_p1 15)) (1 ∷ 0 ∷ 1 ∷ 0 ∷ []) 16
    ∷ judged (pages 0 2 (of_p1 15)) stays 13
    ∷ []
