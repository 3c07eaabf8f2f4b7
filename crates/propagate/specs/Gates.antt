-- The gates of a node that has no levels, as a function of the memory.
use Rattle.std.specs.Prelude.{ℕ, Bool, List}
use Rattle.rows.specs.Row.{turn}
use Rattle.rows.specs.Rules.{masked, new_of, and_output, and_input}
use Rattle.propagate.specs.Memory.{Memory, node_place, Stepped, ◌and_then◌, add_row, node_row, ahead_in, go_back_more}

-- one input: what is known passes both ways
abbrev pub one_input_step : ℕ → Bool → ℕ → Memory → Stepped
one_input_step i e a M =
    add_row (node_place i) (turn e (node_row M a)) M
    and_then (λ M'. add_row (node_place a) (turn e (node_row M' i)) M')

-- AND of two inputs; OR is its dual
abbrev pub both_step : ℕ → Bool → ℕ → ℕ → Memory → Stepped
both_step i e a b M =
    let g = and_output (turn e (node_row M i)) (turn e (node_row M a)) (turn e (node_row M b)) in
    add_row (node_place i) (turn e g) M
    and_then add_row (node_place a) (turn e (and_input g (turn e (node_row M b))))
    and_then add_row (node_place b) (turn e (and_input g (turn e (node_row M a))))

-- AX; EX is its dual. Of N only the states of a set are looked at.
abbrev pub next_step : List ℕ → ℕ → ℕ → ℕ → Bool → ℕ → Memory → Stepped
next_step targets n set i e a M =
    add_row (node_place i) (ahead_in targets set e (node_row M a) M) M
    and_then (λ M'. go_back_more targets n e
    (new_of (masked set (node_row M' i)) (ahead_in targets set e (node_row M a) M)) (node_row M a)
    (add_row (node_place a)) M')
