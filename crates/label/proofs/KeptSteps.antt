-- The kept steps of a table, found step by step.
use Prim.Native.Nat.{ℕ, zero, suc, ◌<◌}
use mathlib.Core.Path.{◌≡◌, refl, ap}
use mathlib.Core.Bool.{Bool, true, false, cond, ◌||◌}
use mathlib.Core.List.{List, [], ◌∷◌, ◌++◌, append-nil}
use native.Mathlib.Omega.{arith}
use borrow.Author.Tests.{eq-eqb, ne_eqb}
use lib.Dec.{eqb}
use lib.ListN.{length, get_or, take, set}
use Rattle.sets.specs.Member.{member, set_of}
use Rattle.table.specs.declared.record.Step.{Step}
use Rattle.table.specs.Table.{table_of, step_at}
use Rattle.table.specs.Rows.{Rows}
use Rattle.std.specs.Prelude.{Ok}
use Rattle.table.specs.Accept.{table_verdict}
use Rattle.table.proofs.Facts.{ReadStep, accepted}
use Rattle.table.proofs.Rows.{rows_more}
use Rattle.ctl.specs.Labels.{kept_steps}

-- the step at j, where the list keeps it
abbrev pub if_kept : ℕ → Step → List Step
if_kept b x = cond (eqb b 1) (x ∷ []) []

-- of the steps before j + 1, those before j and the one at j
pub kept_more : (xs : List Step) (bits : List ℕ) (j : ℕ) (d : Step) → length bits ≡ length xs → j < length bits
    → kept_steps (take (suc j) xs) (take (suc j) bits)
    ≡ kept_steps (take j xs) (take j bits) ++ if_kept (get_or bits j 0) (get_or xs j d)
unfolding kept_steps
kept_more [] [] j d e h = absurd (omega arith)
kept_more [] (b ∷ bits) j d e h = absurd (omega arith)
kept_more (x ∷ xs) [] j d e h = absurd (omega arith)
kept_more (x ∷ xs) (b ∷ bits) zero d e h = first (eqb b 1)
  where
    first : (t : Bool) → cond t (x ∷ []) [] ≡ cond t (x ∷ []) []
    first t = refl
kept_more (x ∷ xs) (b ∷ bits) (suc j) d e h = step (eqb b 1) (kept_more xs bits j d (omega arith) (omega arith))
  where
    step : (t : Bool)
        → kept_steps (take (suc j) xs) (take (suc j) bits)
        ≡ kept_steps (take j xs) (take j bits) ++ if_kept (get_or bits j 0) (get_or xs j d)
        → cond t (x ∷ kept_steps (take (suc j) xs) (take (suc j) bits))
        (kept_steps (take (suc j) xs) (take (suc j) bits))
        ≡ cond t (x ∷ kept_steps (take j xs) (take j bits)) (kept_steps (take j xs) (take j bits))
        ++ if_kept (get_or bits j 0) (get_or xs j d)
    step true p = ap (λ (l : List Step). x ∷ l) p
    step false p = p

-- a step of an accepted table: its ends are below 32
pub step_ends : (table : List ℕ) → table_verdict table ≡ Ok tt → (j : ℕ) → j < length (table_of table).steps
    → (x : Step) → x ≡ step_at (table_of table) j → ReadStep table j x
step_ends table ok j h x e =
    let T = (accepted table ok).table in record {
      here = e;
      from_below = omega (arith, ap (λ (y : Step). y.from) e, T.from_state j h, T.few_states);
      to_below = omega (arith, ap (λ (y : Step). y.to) e, T.to_state j h, T.few_states);
    }

-- the rows after a step that is kept, and after one that is struck
module _ (rows next : List ℕ) (before : List Step) (g : Rows rows before) where
  pub with_kept : (table : List ℕ) (j b k : ℕ) (x : Step) → ReadStep table j x → b ≡ 1
      → k ≡ set_of 32 (λ t. member (get_or rows x.from 0) t || eqb t x.to)
      → next ≡ set rows x.from k → Rows next (before ++ if_kept b (step_at (table_of table) j))
  with_kept table j b k x r kept e n =
      rw (n, e, eq-eqb b 1 kept, ← r.here) (rows_more rows before g x r.from_below r.to_below)

  pub with_struck : (b : ℕ) (x : Step) → ¬ (b ≡ 1) → next ≡ rows → Rows next (before ++ if_kept b x)
  with_struck b x d n = rw (n, ne_eqb b 1 d, append-nil) g
