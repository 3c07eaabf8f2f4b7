-- Sets of the first n states, read off the section of the states.
use Rattle.std.specs.Prelude.{ℕ, ◌*◌, List, drop}
use Rattle.sets.specs.Member.{member, set_of}
use Rattle.table.specs.Table.{state_width, state_of, is_initial}

-- the initial states
abbrev pub initial_word : List ℕ → ℕ → ℕ
initial_word states n = set_of n (λ s. is_initial (state_of (drop (state_width * s) states)))

-- those with p in their label
abbrev pub labelled_word : List ℕ → ℕ → ℕ → ℕ
labelled_word states n p = set_of n (λ s. member (state_of (drop (state_width * s) states)).label p)
