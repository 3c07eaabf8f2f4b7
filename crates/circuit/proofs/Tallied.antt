-- Four tallies of the nodes tell how many variables a table has.
use Prim.Native.Nat.{ℕ, zero, suc, ◌+◌, ◌*◌, ◌<◌}
use native.Mathlib.Nat.{mul-one}
use native.Mathlib.Omega.{arith}
use mathlib.Core.Path.{◌≡◌, refl, sym, ◌∙◌}
use mathlib.Core.Bool.{Bool, cond}
use mathlib.Core.List.{List}
use lib.ListN.{length, get_or}
use Rattle.table.specs.declared.record.Node.{Node}
use Rattle.table.specs.Table.{Table, zero_node, node_at}
use Rattle.table.specs.Shape.{shape_of}
use Rattle.table.specs.Facts.{FieldsFit, Wellformed}
use Rattle.ctl.specs.Rule.{operator_of}
use Rattle.ctl.specs.Price.{sum_below}
use Rattle.ctl.proofs.Sums.{sum_cong, sum_add, sum_constant, sum_of_count}
use Rattle.circuit.specs.Variables.{cost_of, costs, variable_count, variable_formula}
use Rattle.circuit.specs.Tally.{of_kinds, tally, tallies, tallied}
use Rattle.circuit.specs.Exact.{TalliesAreRight}
use Rattle.circuit.proofs.Count.{costs-sum, count_formula}

-- ---- a node is in one tally, and costs what that tally costs

-- one of four numbers, by the tally that the node is in
abbrev share : ℕ → ℕ → ℕ → ℕ → Node → ℕ
share plain next paired single x =
    cond (of_kinds 0 5 x) plain 0
    + cond (of_kinds 6 7 x) next 0
    + cond (of_kinds 8 11 x) paired 0
    + cond (of_kinds 12 15 x) single 0

abbrev InOne : ℕ → ℕ → Node → Type 0
InOne n e x =
    (cost_of n e (operator_of x) ≡ share n (e + n) (n + n * (e + 3 * n)) (n + n * (e + 2 * n)) x)
    × (share 1 1 1 1 x ≡ 1)

-- kinds 0 to 15; no later one fits
in_one : (n e p i kind a b : ℕ) → FieldsFit (shape_of kind) p i a b
    → InOne n e (record { kind = kind; a = a; b = b })
in_one n e p i zero a b h = (omega arith, refl)
in_one n e p i (suc zero) a b h = (omega arith, refl)
in_one n e p i (suc (suc zero)) a b h = (omega arith, refl)
in_one n e p i (suc (suc (suc zero))) a b h = (omega arith, refl)
in_one n e p i (suc (suc (suc (suc zero)))) a b h = (omega arith, refl)
in_one n e p i (suc (suc (suc (suc (suc zero))))) a b h = (omega arith, refl)
in_one n e p i (suc (suc (suc (suc (suc (suc zero)))))) a b h = (omega arith, refl)
in_one n e p i (suc (suc (suc (suc (suc (suc (suc zero))))))) a b h = (omega arith, refl)
in_one n e p i (suc (suc (suc (suc (suc (suc (suc (suc zero)))))))) a b h = (omega arith, refl)
in_one n e p i (suc (suc (suc (suc (suc (suc (suc (suc (suc zero))))))))) a b h = (omega arith, refl)
in_one n e p i (suc (suc (suc (suc (suc (suc (suc (suc (suc (suc zero)))))))))) a b h = (omega arith, refl)
in_one n e p i (suc (suc (suc (suc (suc (suc (suc (suc (suc (suc (suc zero))))))))))) a b h = (omega arith, refl)
in_one n e p i (suc (suc (suc (suc (suc (suc (suc (suc (suc (suc (suc (suc zero)))))))))))) a b h =
    (omega arith, refl)
in_one n e p i (suc (suc (suc (suc (suc (suc (suc (suc (suc (suc (suc (suc (suc zero))))))))))))) a b h =
    (omega arith, refl)
in_one n e p i (suc (suc (suc (suc (suc (suc (suc (suc (suc (suc (suc (suc (suc (suc zero)))))))))))))) a b h =
    (omega arith, refl)
in_one n e p i (suc (suc (suc (suc (suc (suc (suc (suc (suc (suc (suc (suc (suc (suc (suc zero))))))))))))))) a b h =
    (omega arith, refl)
in_one n e p i (suc (suc (suc (suc (suc (suc (suc (suc (suc (suc (suc (suc (suc (suc (suc (suc kind)))))))))))))))) a b h = absurd h

-- ---- over all nodes

-- each tally as often as there are nodes in it
shared : (plain next paired single : ℕ) (xs : List Node)
    → sum_below (length xs) (λ i. share plain next paired single (get_or xs i zero_node))
    ≡ tally 0 5 xs * plain + tally 6 7 xs * next + tally 8 11 xs * paired + tally 12 15 xs * single
shared plain next paired single xs =
    let k = length xs in
    let in_kinds : ℕ → ℕ → ℕ → Bool = λ first last i. of_kinds first last (get_or xs i zero_node) in
    let part : ℕ → ℕ → ℕ → ℕ → ℕ = λ first last c i. cond (in_kinds first last i) c 0 in
    let two = sum_add k (part 0 5 plain) (part 6 7 next) in
    let three = sum_add k (λ i. part 0 5 plain i + part 6 7 next i) (part 8 11 paired) in
    let four =
    sum_add k (λ i. part 0 5 plain i + part 6 7 next i + part 8 11 paired i) (part 12 15 single) in
    omega (
      arith,
      two,
      three,
      four,
      sum_of_count k plain (in_kinds 0 5),
      sum_of_count k next (in_kinds 6 7),
      sum_of_count k paired (in_kinds 8 11),
      sum_of_count k single (in_kinds 12 15),
    )

module _ (T : Table) (wf : Wellformed T) where
  one : (i : ℕ) → i < length T.nodes → InOne (length T.states) (length T.steps) (node_at T i)
  one i h = in_one (length T.states) (length T.steps) T.props i _ _ _ (wf.each_node_fits i h)

  all_nodes : tally 0 5 T.nodes + tally 6 7 T.nodes + tally 8 11 T.nodes + tally 12 15 T.nodes ≡ length T.nodes
  all_nodes =
      let ones : sum_below (length T.nodes) (λ i. share 1 1 1 1 (node_at T i)) ≡ length T.nodes * 1 =
      sum_cong (length T.nodes) _ _ (λ i h. (one i h).1) ∙ sum_constant (length T.nodes) 1 in
      omega (
        arith,
        ones,
        shared 1 1 1 1 T.nodes,
        mul-one (length T.nodes),
        mul-one (tally 0 5 T.nodes),
        mul-one (tally 6 7 T.nodes),
        mul-one (tally 8 11 T.nodes),
        mul-one (tally 12 15 T.nodes),
      )

  add_up : tallied (length T.states) (length T.steps) (tallies T.nodes) ≡ variable_count T
  unfolding variable_formula
  add_up =
      let n = length T.states in
      let e = length T.steps in
      let all : costs n e T.nodes
      ≡ sum_below (length T.nodes)
      (λ i. share n (e + n) (n + n * (e + 3 * n)) (n + n * (e + 2 * n)) (node_at T i)) =
      sym (costs-sum n e T.nodes) ∙ sum_cong (length T.nodes) _ _ (λ i h. (one i h).0) in
      omega (
        arith,
        all,
        shared n (e + n) (n + n * (e + 3 * n)) (n + n * (e + 2 * n)) T.nodes,
        count_formula T wf,
      )

  pub tallies_right : TalliesAreRight T (tallies T.nodes)
  tallies_right = record { all_nodes = all_nodes; add_up = add_up }
