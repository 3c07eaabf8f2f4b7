-- The place of a variable in a list: it is where the variable stands, and step j has place j in the variables of a
-- table.
use Prim.Native.Nat.{ℕ, suc, ◌+◌, ◌≤◌, ◌<◌, zero-le, suc-le-suc}
use native.Mathlib.Omega.{arith}
use mathlib.Core.Path.{◌≡◌, refl, sym, ap, ap₂, subst, ◌∙◌}
use mathlib.Core.Bool.{Bool, true, false, cond, true≢false, false≢true}
use mathlib.Core.Logic.{◌↔◌, ⊎_elim}
use mathlib.Core.List.Memᴰ
use mathlib.Core.List.{List, [], ◌∷◌, map, Memᴰ}
use borrow.Author.Tests.{eqb-true, eq-eqb}
use lib.Dec.{eqb}
use lib.ListN.{length, get_or, length-append, length-map}
use Rattle.table.specs.Table.{Table}
use Rattle.table.specs.Facts.{Wellformed}
use Rattle.table.proofs.Numbers.{neither_less}
use Rattle.ctl.proofs.Tabulate.{length_tabulate}
use Rattle.circuit.specs.Variables.{Var, step, kept, node, edge, ahead, inner, level, variables, variable_count}
use Rattle.circuit.specs.Gates.{gates}
use Rattle.circuit.specs.Clauses.{clauses}
use Rattle.circuit.proofs.Lists.{each_map}
use Rattle.circuit.proofs.NoRepeat.{NoRepeat, member_at, no_repeat_at}
use Rattle.circuit.proofs.Outputs.{outputs, variables_outputs}
use Rattle.circuit.proofs.Distinct.{variables_no_repeat, step_first}
use Rattle.circuit.proofs.Covered.{clause_variables, clause_literal}
use Rattle.closure.specs.Numbered.{code, same_code, place, numbered_literal, numbered_clauses}
use Rattle.closure.specs.Given.{VariablesBelow, ClausesBelow}
use Rattle.ctl.specs.Range.{below}

-- ---- the code of a variable

code-true : (xs ys : List ℕ) → same_code xs ys ≡ true → xs ≡ ys
unfolding same_code
code-true [] [] e = refl
code-true [] (y ∷ ys) e = absurd (false≢true e)
code-true (x ∷ xs) [] e = absurd (false≢true e)
code-true (x ∷ xs) (y ∷ ys) e = go (eqb x y) refl e (code-true xs ys)
  where
    go : (b : Bool) → eqb x y ≡ b → cond b (same_code xs ys) false ≡ true → (same_code xs ys ≡ true → xs ≡ ys)
        → (x ∷ xs) ≡ (y ∷ ys)
    go true q e rest = ap₂ ◌∷◌ (eqb-true x y q) (rest e)
    go false q e rest = absurd (false≢true e)

code_same : (xs : List ℕ) → same_code xs xs ≡ true
unfolding same_code
code_same [] = refl
code_same (x ∷ xs) = rw (eq-eqb x x refl) (code_same xs)

-- the test of two lists of numbers is whether they are equal
pub same_code_lem : (xs ys : List ℕ) → (same_code xs ys ≡ true) ↔ (xs ≡ ys)
same_code_lem xs ys = (code-true xs ys, λ p. subst (λ zs. same_code xs zs ≡ true) p (code_same xs))

-- the variable of a code
abbrev decode : List ℕ → Var
decode xs =
    let a : ℕ = get_or xs 1 0 in
    let b : ℕ = get_or xs 2 0 in
    let c : ℕ = get_or xs 3 0 in
    get_or (step a ∷ kept a ∷ node a b ∷ edge a b c ∷ ahead a b c ∷ inner a b c ∷ level a b c ∷ []) (get_or xs 0 0)
    (step 0)

decode_code : (v : Var) → decode (code v) ≡ v
decode_code (step j) = refl
decode_code (kept s) = refl
decode_code (node i s) = refl
decode_code (edge i m j) = refl
decode_code (ahead i m s) = refl
decode_code (inner i m s) = refl
decode_code (level i m s) = refl

-- the test of two codes is whether the variables are equal
pub same_variable : (v w : Var) → (same_code (code v) (code w) ≡ true) ↔ (v ≡ w)
same_variable v w = (
  λ e. sym (decode_code v) ∙ ap decode ((same_code_lem (code v) (code w)).0 e) ∙ decode_code w,
  λ p. (same_code_lem (code v) (code w)).1 (ap code p),
)

-- ---- the place

-- a variable of the list stands at its place
placed : (d v : Var) (ws : List Var) → Memᴰ v ws → (place v ws < length ws) × (get_or ws (place v ws) d ≡ v)
unfolding place
placed d v [] m = absurd (Memᴰ.not-nil m)
placed d v (w ∷ ws) m = go (same_code (code v) (code w)) refl (placed d v ws)
  where
    Stands : List Var → ℕ → Type 0
    Stands us p = (p < length us) × (get_or us p d ≡ v)

    go : (b : Bool) → same_code (code v) (code w) ≡ b → (Memᴰ v ws → Stands ws (place v ws))
        → Stands (w ∷ ws) (elim b [ true ↦ 0 | false ↦ suc (place v ws) ])
    go true e rest = (suc-le-suc zero-le, sym ((same_variable v w).0 e))
    go false e rest =
        let r = rest (⊎_elim (λ p. absurd (true≢false (sym ((same_variable v w).1 p) ∙ e))) (λ i. i)
        (Memᴰ.cases_cons m)) in
        (suc-le-suc r.0, r.1)

module _ {v : Var} {ws : List Var} (m : Memᴰ v ws) where
  -- the place of a variable of the list is in the list
  pub place_inside : place v ws < length ws
  place_inside = (placed v v ws m).0

  -- and the variable stands there
  pub place_at : (d : Var) → get_or ws (place v ws) d ≡ v
  place_at d = (placed d v ws m).1

-- variables of the list with the same place are equal
pub place_injective : {v w : Var} {ws : List Var} → Memᴰ v ws → Memᴰ w ws → place v ws ≡ place w ws → v ≡ w
place_injective {v} {w} {ws} i j e = sym (place_at i v) ∙ ap (λ (p : ℕ). get_or ws p v) e ∙ place_at j v

-- where no variable stands twice, the place of the one at i is i
pub place_of : (d : Var) (ws : List Var) → NoRepeat ws → (i : ℕ) → i < length ws → place (get_or ws i d) ws ≡ i
place_of d ws single i h = neither_less p i
    (λ l. no_repeat_at ws d single p i l h (place_at m d))
    (λ l. no_repeat_at ws d single i p l (place_inside m) (sym (place_at m d)))
  where
    m : Memᴰ (get_or ws i d) ws
    m = member_at ws d i h

    p : ℕ
    p = place (get_or ws i d) ws

-- ---- in the variables of a table

module _ (T : Table) where
  -- each step is a variable
  pub steps_fit : length T.steps ≤ variable_count T
  steps_fit =
      let e = length T.steps in
      let count : variable_count T ≡ length (map step (below e)) + length (outputs (gates T)) =
      ap length (variables_outputs T) ∙ length-append (map step (below e)) (outputs (gates T)) in
      omega (arith, length-map (below e) step, length_tabulate e (λ k. k))

  -- the place of step j is j
  pub place_step : (j : ℕ) → j < length T.steps → place (step j) (variables T) ≡ j
  place_step j h =
      ap (λ (v : Var). place v (variables T)) (sym (step_first T j h))
      ∙ place_of (step 0) (variables T) (variables_no_repeat T) j (omega (arith, steps_fit))

module _ (T : Table) (wf : Wellformed T) where
  -- every literal of a numbered clause has a number below the count of the variables
  pub numbered_inside : ClausesBelow (variable_count T) (numbered_clauses T)
  unfolding numbered_clauses
  numbered_inside = each_map (VariablesBelow (variable_count T)) (map (numbered_literal T)) (clauses T)
      (λ C c. each_map _ (numbered_literal T) C (λ l h. place_inside (clause_variables T wf C c l h)))

  -- no numbered clause is empty
  pub numbered_nonempty : ¬ Memᴰ [] (numbered_clauses T)
  unfolding numbered_clauses
  numbered_nonempty m =
      let r = Memᴰ.of_map (map (numbered_literal T)) (clauses T) m in
      let l = clause_literal T wf r.0 r.1 in
      Memᴰ.not-nil (subst (Memᴰ (numbered_literal T l.0)) r.2 (Memᴰ.map (numbered_literal T) l.1))
