-- A list that is struck step by step.
use Prim.Native.Nat.{ℕ, ◌+◌, ◌≤◌, ◌<◌}
use mathlib.Core.Path.{◌≡◌, sym, ap, ◌∙◌}
use mathlib.Core.Bool.{Bool, true, false, cond}
use mathlib.Core.List.{List}
use native.Mathlib.Omega.{arith}
use borrow.Author.Count.{below_more}
use lib.ListN.{length, get_or, set, length-set}
use lib.Seq.{ext_get_or, get_or-set_same, get_or-set_other}
use Rattle.table.specs.Table.{Table, step_at}
use Rattle.ctl.specs.Reached.{is_reached, strike}
use Rattle.ctl.proofs.Strike.{strike-length, strike_at}

-- the bytes of the steps before j are those of the struck list, and the others are as they were
pub record StruckBefore (T : Table) (list : List ℕ) (j : ℕ) (now : List ℕ) : Type 0 where
  pub size : length now ≡ length list
  pub before : (i : ℕ) → i < j → get_or now i 0 ≡ get_or (strike T list) i 0
  pub behind : (i : ℕ) → j ≤ i → get_or now i 0 ≡ get_or list i 0

module _ (T : Table) (list : List ℕ) (j : ℕ) (now : List ℕ) (b : StruckBefore T list j now)
    (inside : j < length T.steps) where
  at_j : (x : Bool) → is_reached T list (step_at T j).from ≡ x → get_or (strike T list) j 0 ≡ cond x (get_or list j 0) 0
  at_j x e = strike_at T list j inside ∙ ap (λ (y : Bool). cond y (get_or list j 0) 0) e

  -- the step at j leaves a reached state, and stays as it is
  pub struck_not : is_reached T list (step_at T j).from ≡ true → StruckBefore T list (j + 1) now
  struck_not e = record {
    size = b.size;
    before = below_more (λ i. get_or now i 0 ≡ get_or (strike T list) i 0) j b.before
        (b.behind j (omega arith) ∙ sym (at_j true e));
    behind = λ i h. b.behind i (omega arith);
  }

  -- it leaves another state
  pub struck_at : is_reached T list (step_at T j).from ≡ false → j < length list
      → StruckBefore T list (j + 1) (set now j 0)
  struck_at e h = record {
    size = length-set now j 0 ∙ b.size;
    before = below_more (λ i. get_or (set now j 0) i 0 ≡ get_or (strike T list) i 0) j
        (λ i l. get_or-set_other now j i 0 0 (λ q. absurd (omega (arith, q))) ∙ b.before i l)
        (get_or-set_same now j 0 0 (omega (arith, b.size)) ∙ sym (at_j false e));
    behind = λ i l. get_or-set_other now j i 0 0 (λ q. absurd (omega (arith, q))) ∙ b.behind i (omega arith);
  }

pub struck_all : (T : Table) (list : List ℕ) (j : ℕ) (now : List ℕ) → StruckBefore T list j now
    → length list ≡ length T.steps → length list ≤ j → now ≡ strike T list
struck_all T list j now b size done =
    ext_get_or 0 now (strike T list) (b.size ∙ size ∙ sym (strike-length T list))
    (λ i h. b.before i (omega (arith, b.size)))
