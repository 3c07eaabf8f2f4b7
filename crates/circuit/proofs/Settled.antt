-- Where the steps are settled, so is every variable: a set of literals that is closed under the unit rule and holds
-- each step or its opposite holds each variable or its opposite.
use Prim.Native.Nat.{ℕ, ◌<◌}
use mathlib.Core.Path.{◌≡◌, refl, sym, subst}
use mathlib.Core.Bool.{Bool, true, false}
use mathlib.Core.Logic.{◌⊎◌, inl, inr, ⊎_map, ⊎_swap}
use mathlib.Core.List.{List, [], ◌∷◌, Memᴰ}
use lib.ListN.{length}
use Rattle.table.specs.Table.{Table}
use Rattle.table.specs.Facts.{Wellformed}
use Rattle.circuit.specs.Logic.{Literal, pos, neg, opposite, Gate, all, any, gate_clauses}
use Rattle.circuit.specs.Variables.{Var, step, variables}
use Rattle.circuit.specs.Clauses.{Clause, clauses}
use Rattle.circuit.proofs.Lists.{Each, each_none, each_more, each_one, each_map}
use Rattle.circuit.proofs.Gate.{
  opposite_opposite,
  and_clauses,
  head_of,
  parts_of,
  gate_clauses_lem,
  Reads,
  reads_parts,
  short_in,
  long_in,
}
use Rattle.circuit.proofs.Order.{variable_induction}
use Rattle.circuit.proofs.Clauses.{gate_in, gates_in}

-- S is closed under the unit rule: where the opposites of all others of a clause are in, a literal of it is in
abbrev pub UnitClosed : List Clause → (Literal Var → Type 0) → Type 0
UnitClosed F S = (C : Clause) → Memᴰ C F → (l : Literal Var) → Memᴰ l C
    → ((k : Literal Var) → Memᴰ k C → ¬ (k ≡ l) → S (opposite k)) → S l

module _ (S : Literal Var → Type 0) where
  -- a literal or its opposite is in
  abbrev pub Settled : Literal Var → Type 0
  Settled l = S l ⊎ S (opposite l)

  -- all of the literals are in, or the opposite of one is
  all-or_one : (ls : List (Literal Var)) → Each Settled ls
      → Each S ls ⊎ ((l : Literal Var) × Memᴰ l ls × S (opposite l))
  all-or_one [] settled = inl (each_none S)
  all-or_one (l ∷ ls) settled = go (settled l (Memᴰ.head refl)) (all-or_one ls (λ k m. settled k (Memᴰ.tail m)))
    where
      go : Settled l → Each S ls ⊎ ((k : Literal Var) × Memᴰ k ls × S (opposite k))
          → Each S (l ∷ ls) ⊎ ((k : Literal Var) × Memᴰ k (l ∷ ls) × S (opposite k))
      go (inl h) (inl t) = inl (each_more S l ls h t)
      go (inl h) (inr t) = inr (t.0, Memᴰ.tail t.1, t.2)
      go (inr h) t = inr (l, Memᴰ.head refl, h)

  -- the clauses of an AND settle it: the long clause where all parts are in, a short one where the opposite of a part
  -- is
  and-settled : (h : Literal Var) (ls : List (Literal Var)) → UnitClosed (and_clauses h ls) S → Each Settled ls
      → Settled h
  and-settled h ls closed settled = ⊎_map
      (λ ins. closed _ (long_in h ls) h (Memᴰ.head refl) (each_more _ h _ (λ other. absurd (other refl))
      (each_map _ opposite ls (λ l m other. subst S (sym (opposite_opposite l)) (ins l m)))))
      (λ r. closed _ (short_in h ls r.0 r.1) (opposite h) (Memᴰ.head refl)
      (each_more _ (opposite h) _ (λ other. absurd (other refl))
      (each_one _ r.0 (λ other. r.2))))
      (all-or_one ls settled)

  -- a literal of a settled variable is settled
  literal-settled : (sign : Bool) (v : Var) → Settled (pos v) → Settled (record { sign = sign; var = v })
  unfolding ⊎_swap
  literal-settled true v s = s
  literal-settled false v s = ⊎_swap s

  -- and back, from the head of a gate to its output
  output_settled : (g : Var) (G : Gate Var) → Settled (head_of g G) → Settled (pos g)
  output_settled g (all ls) s = s
  output_settled g (any ls) s = ⊎_swap s

  -- the clauses of a gate settle its output
  gate_settled : (g : Var) (G : Gate Var) → UnitClosed (gate_clauses g G) S → Reads (λ v. Settled (pos v)) G
      → Settled (pos g)
  gate_settled g G closed reads = output_settled g G (and-settled (head_of g G) (parts_of G)
      (rw (gate_clauses_lem g G) at closed)
      (λ l m. literal-settled l.sign l.var (reads_parts _ G reads l m)))

-- Where each step is settled, each variable of the table is.
pub variables_settled : (T : Table) → Wellformed T → (S : Literal Var → Type 0) → UnitClosed (clauses T) S
    → ((j : ℕ) → j < length T.steps → S (pos (step j)) ⊎ S (neg (step j))) → (v : Var) → Memᴰ v (variables T)
    → S (pos v) ⊎ S (neg v)
variables_settled T wf S closed steps = variable_induction T wf (λ v. S (pos v) ⊎ S (neg v)) steps
    (λ d i. gate_settled S d.output d.gate (λ C k. closed C (gates_in T C (gate_in T d i C k))))
