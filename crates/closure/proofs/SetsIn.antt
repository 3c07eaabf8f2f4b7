-- Sets all of whose members have P, and rows made of two such sets: of variables by state, and of steps by their ends.
use Prim.Native.Nat.{ℕ, ◌^◌, ◌<◌}
use mathlib.Core.Path.{◌≡◌, sym, subst, ◌∙◌}
use mathlib.Core.Bool.{Bool, true, false, not, cond, false≢true}
use mathlib.Core.Logic.{⊎_elim}
use lib.Bits.{bit_and, bit_or}
use lib.ListN.{length}
use Rattle.sets.specs.Member.{member, set_of}
use Rattle.sets.proofs.Laws.{member-zero}
use Rattle.sets.proofs.SetOf.{in_set}
use Rattle.table.specs.Table.{Table, step_at}
use Rattle.table.specs.Facts.{Wellformed}
use Rattle.table.proofs.Bools.{not_so}
use Rattle.circuit.specs.Logic.{Literal}
use Rattle.circuit.specs.Variables.{Var, step, literal}
use Rattle.rows.specs.declared.row.Row.{Row}
use Rattle.rows.specs.Row.{known, turn, only}
use Rattle.rows.proofs.RowLaws.{and-true, or-true, cond-true, only-true}
use Rattle.closure.specs.KnowledgeIn.{RowIn, StepsIn}
use Rattle.closure.proofs.Ends.{same_ends}

-- each member of the set has P
abbrev pub SetIn : (ℕ → Type 0) → ℕ → Type 0
SetIn P x = (s : ℕ) → member x s ≡ true → P s

pub set_none : (P : ℕ → Type 0) → SetIn P 0
set_none P s m = absurd (false≢true (sym (member-zero s) ∙ m))

pub set_each : {P Q : ℕ → Type 0} (x : ℕ) → SetIn P x → ((s : ℕ) → P s → Q s) → SetIn Q x
set_each x p f s m = f s (p s m)

pub set-or : {P : ℕ → Type 0} (x y : ℕ) → SetIn P x → SetIn P y → SetIn P (bit_or x y)
set-or x y p q s m = ⊎_elim (p s) (q s) ((or-true x y s).0 m)

pub set-and : {P Q R : ℕ → Type 0} (x y : ℕ) → SetIn P x → SetIn Q y → ((s : ℕ) → P s → Q s → R s)
    → SetIn R (bit_and x y)
set-and x y p q r s m = let k = (and-true x y s).0 m in r s (p s k.0) (q s k.1)

pub set-cond : {P : ℕ → Type 0} (b : Bool) (x : ℕ) → (b ≡ true → SetIn P x) → SetIn P (cond b x 0)
set-cond b x p s m = let k = (cond-true b x s).0 m in p k.0 s k.1

pub set_by : {P : ℕ → Type 0} (n : ℕ) (f : ℕ → Bool) → ((s : ℕ) → s < n → f s ≡ true → P s) → SetIn P (set_of n f)
set_by n f p s m = let k = (in_set n f s).0 m in p s k.0 k.1

module _ (T : Table) (S : Literal Var → Type 0) where
  -- the variable of state s is in S with this sign
  abbrev pub At : Bool → (ℕ → Var) → ℕ → Type 0
  At sign v s = (s < length T.states) × S (literal sign (v s))

  -- a row lies in S where both its sets do
  pub row_in : (v : ℕ → Var) (r : Row) → SetIn (At true v) r.yes → SetIn (At false v) r.no → RowIn T S v r
  row_in v r p q true = p
  row_in v r p q false = q

  -- so of its dual: what is true there is the other way round
  pub turned_in : (b : Bool) (v : ℕ → Var) (r : Row) → SetIn (At b v) r.yes → SetIn (At (not b) v) r.no
      → RowIn T S v (turn b r)
  turned_in true v r p q = row_in v r p q
  turned_in false v r p q = row_in v (turn false r) q p

  pub in_turned : (b : Bool) (v : ℕ → Var) (r : Row) → RowIn T S v r → SetIn (At b v) (turn b r).yes
  in_turned true v r p = p true
  in_turned false v r p = p false

  pub in_turned-not : (b : Bool) (v : ℕ → Var) (r : Row) → RowIn T S v r → SetIn (At (not b) v) (turn b r).no
  in_turned-not true v r p = p false
  in_turned-not false v r p = p true

-- ---- the steps out of a state

module _ (T : Table) (S : Literal Var → Type 0) where
  -- a step from s to t is in S with this sign
  abbrev pub StepAt : Bool → ℕ → ℕ → Type 0
  StepAt sign s t = (j : ℕ) × (j < length T.steps) × ((step_at T j).from ≡ s) × ((step_at T j).to ≡ t)
      × S (literal sign (step j))

  pub steps_in : (s : ℕ) (r : Row) → SetIn (StepAt true s) r.yes → SetIn (StepAt false s) r.no → StepsIn T S s r
  steps_in s r p q true = p
  steps_in s r p q false = q

  -- what is known of a step by its ends is of that step
  pub step_known_lem : Wellformed T → (s : ℕ) (r : Row) → StepsIn T S s r → (j : ℕ) → j < length T.steps
      → (step_at T j).from ≡ s → (sign : Bool)
      → known r sign (step_at T j).to ≡ true → S (literal sign (step j))
  step_known_lem wf s r p j h f sign m =
      let k = p sign (step_at T j).to m in
      subst (λ (i : ℕ). S (literal sign (step i))) (same_ends T wf k.0 j k.1 h (k.2 ∙ sym f) k.3) k.4

-- where one end is left, that of another step is not
pub other_end : (T : Table) → Wellformed T → (s left : ℕ) → left < 2 ^ 32 → only left ≡ true
    → (j : ℕ) → j < length T.steps → (step_at T j).from ≡ s → member left (step_at T j).to ≡ true
    → (k : ℕ) → k < length T.steps → (step_at T k).from ≡ s → ¬ (k ≡ j) → member left (step_at T k).to ≡ false
other_end T wf s left small one j hj fj mj k hk fk other = not_so (member left (step_at T k).to) (λ m.
    let c = (only-true left small).0 one in other (same_ends T wf k j hk hj (fk ∙ sym fj) (c.2 _ m ∙ sym (c.2 _ mj))))
