-- Marks of a closure that settle every step are a model of the clauses, and the list that they give is a repair.
use Prim.Native.Nat.{ℕ, ◌<◌}
use native.Mathlib.Omega.{arith}
use mathlib.Core.Path.{◌≡◌, refl, sym, ap, subst, ◌∙◌}
use mathlib.Core.Bool.{Bool, true, false, false≢true}
use mathlib.Core.Logic.{◌⊎◌, inl, inr, ⊎_elim, ⊎_map}
use mathlib.Core.List.Memᴰ
use mathlib.Core.List.{List, map, Memᴰ}
use lib.Dec.{eqb}
use lib.ListN.{length}
use Rattle.table.specs.Table.{Table}
use Rattle.table.specs.Facts.{Wellformed}
use Rattle.ctl.specs.Kept.{IsList, Repair}
use Rattle.circuit.specs.Logic.{Literal, pos, neg, Makes, Satisfies}
use Rattle.circuit.specs.Variables.{Var, variables, variable_count}
use Rattle.circuit.specs.Clauses.{clauses}
use Rattle.circuit.proofs.Covered.{clause_variables}
use Rattle.circuit.proofs.Settled.{variables_settled}
use Rattle.circuit.specs.Exact.{Agrees}
use Rattle.circuit.proofs.Models.{model_is_repair}
use Rattle.closure.specs.Closure.{Forced}
use Rattle.closure.specs.Computed.{Mark, Marks, unknown, known, mark_at, is_known, marked, closure}
use Rattle.closure.specs.Numbered.{place, numbered_literal, numbered_clauses}
use Rattle.closure.specs.Given.{Given, VariablesBelow, Consistent}
use Rattle.search.specs.TableSearch.{bit_of, bytes_of}
use Rattle.closure.proofs.Forced.{Occurs, settled_models}
use Rattle.closure.proofs.Marks.{Holds, literal_path, holds_once}
use Rattle.closure.proofs.Computed.{held_forced, forced_held}
use Rattle.search.proofs.Agree.{bit_le, length-bytes_of, get_d_bytes_of}
use Rattle.closure.proofs.Places.{place_step, numbered_inside, numbered_nonempty}
use Rattle.closure.proofs.Models.{on_variables, numbered_model}
use Rattle.search.proofs.ByNumber.{ByNumber, forced_numbered}
use Rattle.search.proofs.RepairSound.{bit_sign}

-- ---- literals of variables, by their numbers

-- a number that stands in a numbered clause is that of a variable of the table
occurs_place : (T : Table) → Wellformed T → (n : ℕ) → Occurs n (numbered_clauses T)
    → (v : Var) × Memᴰ v (variables T) × (place v (variables T) ≡ n)
unfolding numbered_clauses
occurs_place T wf n (D, d, k, i, e) =
    let r = Memᴰ.of_map (map (numbered_literal T)) (clauses T) d in
    let s = Memᴰ.of_map (numbered_literal T) r.0 (subst (Memᴰ k) (sym r.2) i) in
    (s.0.var, clause_variables T wf r.0 r.1 s.0 s.1, ap (λ (l : Literal ℕ). l.var) s.2 ∙ e)

-- ---- settled marks

-- a known mark is of one sign or the other
known_cases : (x : Mark) → is_known x ≡ true → (x ≡ known true) ⊎ (x ≡ known false)
known_cases unknown e = absurd (false≢true e)
known_cases (known true) e = inl refl
known_cases (known false) e = inr refl

-- what marks say of each number
abbrev saying : Marks → ℕ → Bool
saying m n = eqb (bit_of (mark_at m n)) 1

saying_held : (m : Marks) (l : Literal ℕ) → Holds m l → Makes (saying m) l
saying_held m l h = ap (λ (x : Mark). eqb (bit_of x) 1) h ∙ bit_sign l.sign

module _ (T : Table) (wf : Wellformed T) (P : List (Literal ℕ)) (consistent : Consistent P)
    (within : VariablesBelow (variable_count T) P)
    {m : Marks} {b : Bool} (closed : closure (variable_count T) (numbered_clauses T) P ≡ marked m b)
    (settled : (j : ℕ) → j < length T.steps → is_known (mark_at m j) ≡ true) where
  abbrev InClosure : Literal ℕ → Type 0
  InClosure = Forced (numbered_clauses T) (Given P)

  held : {l : Literal ℕ} → InClosure l → Holds m l
  held = forced_held (variable_count T) (numbered_clauses T) P (numbered_inside T wf) consistent within closed

  -- each variable of the table is settled
  variable_in_closure : (v : Var) → Memᴰ v (variables T) → ByNumber T InClosure (pos v) ⊎ ByNumber T InClosure (neg v)
  variable_in_closure = variables_settled T wf (ByNumber T InClosure) (forced_numbered T (Given P)) (λ j h.
      rw (place_step T j h) (⊎_map
      (held_forced (variable_count T) (numbered_clauses T) P closed (pos j))
      (held_forced (variable_count T) (numbered_clauses T) P closed (neg j))
      (known_cases (mark_at m j) (settled j h))))

  -- a literal that the marks make true is in the closure, where one of its variable is
  true_in_closure : (l : Literal ℕ) (s : Bool) → InClosure (record { sign = s; var = l.var }) → Makes (saying m) l
      → InClosure l
  true_in_closure l s r t = subst InClosure (literal_path _ l (sym (saying_held m _ (held r)) ∙ t) refl) r

  marks_model : Satisfies (saying m) (numbered_clauses T)
  marks_model = settled_models (saying m) (numbered_nonempty T wf)
      (λ f. holds_once m f.0 (held f.1) (held f.2))
      (λ l o t.
      let r = occurs_place T wf l.var o in
      ⊎_elim (λ i. true_in_closure l true (rw r.2 at i) t) (λ i. true_in_closure l false (rw r.2 at i) t)
      (variable_in_closure r.0 r.1))

  -- the list of the marks is a repair
  pub settled_repair : Repair T (bytes_of (length T.steps) m)
  settled_repair = model_is_repair T wf (bytes_of e m) form (on_variables T (saying m)) agrees
      (numbered_model T (saying m) marks_model)
    where
      e : ℕ
      e = length T.steps

      form : IsList T (bytes_of e m)
      form = record {
        size = length-bytes_of e m;
        bits = λ j h. rw (get_d_bytes_of e m j (omega (arith, length-bytes_of e m))) (bit_le (mark_at m j));
      }

      agrees : Agrees T (on_variables T (saying m)) (bytes_of e m)
      agrees j h = rw (place_step T j h, get_d_bytes_of e m j h)
