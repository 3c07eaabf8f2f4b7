-- No gate of a table has its own output among its inputs.
use mathlib.Core.Path.{◌≡◌, sym, subst}
use mathlib.Core.Logic.{⊎_elim}
use mathlib.Core.List.Memᴰ
use mathlib.Core.List.{List, [], ◌∷◌, ◌++◌, map, Memᴰ}
use lib.ListN.{length}
use Rattle.table.specs.Table.{Table}
use Rattle.table.specs.Facts.{Wellformed}
use Rattle.ctl.specs.Range.{below}
use Rattle.ctl.proofs.Select.{in_below}
use Rattle.circuit.specs.Variables.{Var, step}
use Rattle.circuit.specs.Gates.{Defined, gates}
use Rattle.circuit.proofs.Lists.{Each, each_none, each_more}
use Rattle.circuit.proofs.Gate.{Reads}
use Rattle.circuit.proofs.Outputs.{outputs, variables_outputs}
use Rattle.circuit.proofs.Follows.{Follows}
use Rattle.circuit.proofs.Order.{IsStep, gates_ordered}
use Rattle.circuit.proofs.NoRepeat.{NoRepeat}
use Rattle.circuit.proofs.Distinct.{variables_no_repeat}

-- of two lists without repetition one behind the other: the second has none, and nothing of the first
no_repeat_second : {A : Type 0} (xs ys : List A) → NoRepeat (xs ++ ys) → NoRepeat ys
no_repeat_second [] ys n = n
no_repeat_second (x ∷ xs) ys n = no_repeat_second xs ys n.1

no_repeat_between : {A : Type 0} (xs ys : List A) → NoRepeat (xs ++ ys) → Each (λ x. ¬ Memᴰ x ys) xs
no_repeat_between [] ys n = each_none _
no_repeat_between (x ∷ xs) ys n = each_more _ x xs (λ m. n.0 (Memᴰ.append_right xs m)) (no_repeat_between xs ys n.1)

-- gates in order whose outputs differ, and are not in K
follows_apart : (K : Var → Type 0) (ds : List Defined) → Follows K ds → ((v : Var) → K v → ¬ Memᴰ v (outputs ds))
    → NoRepeat (outputs ds)
    → Each (λ d. Reads (λ v. ¬ (v ≡ d.output)) d.gate) ds
follows_apart K [] f outside n = each_none _
follows_apart K (d ∷ ds) f outside n = each_more _ d ds
    (λ l m e. outside l.var (f.0 l m) (Memᴰ.head e))
    (follows_apart _ ds f.1 (λ v. ⊎_elim (λ k m. outside v k (Memᴰ.tail m)) (λ e m. n.0 (Memᴰ.cast (sym e) m))) n.1)

-- no input of a gate is its output
pub gates_apart : (T : Table) → Wellformed T → Each (λ d. Reads (λ v. ¬ (v ≡ d.output)) d.gate) (gates T)
gates_apart T wf = follows_apart (IsStep T) (gates T) (gates_ordered T wf)
    (λ v k. no_repeat_between steps (outputs (gates T)) distinct v
    (Memᴰ.cast (sym k.2) (Memᴰ.map step ((in_below (length T.steps) k.0).1 k.1))))
    (no_repeat_second steps (outputs (gates T)) distinct)
  where
    steps : List Var
    steps = map step (below (length T.steps))

    distinct : NoRepeat (steps ++ outputs (gates T))
    distinct = subst NoRepeat (variables_outputs T) (variables_no_repeat T)
