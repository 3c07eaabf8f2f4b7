-- Rows of which only the states of a set are looked at: they know nothing besides, so they are forced where the rows
-- are, and at a state of the set they know what the rows know, so what the rules add there is the same.
use Prim.Native.Nat.{ℕ, ◌<◌}
use native.Mathlib.Nat.{lt_of_le_of_lt}
use native.Mathlib.Omega.{arith}
use mathlib.Core.Path.{◌≡◌, refl, sym, ap, subst, ◌∙◌}
use mathlib.Core.Bool.{Bool, true, false, ◌&&◌}
use mathlib.Core.List.{List}
use lib.Bits.{and_le_l}
use lib.Dec.{eqb}
use lib.ListN.{length, get_or}
use Rattle.sets.specs.Member.{member, set_of}
use Rattle.sets.proofs.Laws.{member-and}
use Rattle.sets.proofs.SetOf.{set_of-lt, member-set_of-below, in_set}
use Rattle.table.specs.Table.{Table}
use Rattle.table.specs.Facts.{Wellformed}
use Rattle.table.specs.Rows.{target_set}
use Rattle.table.proofs.Bools.{and_parts}
use Rattle.ctl.specs.Rule.{Quantifier}
use Rattle.circuit.specs.Logic.{Literal}
use Rattle.circuit.specs.Variables.{Var}
use Rattle.rows.specs.declared.row.Row.{Row}
use Rattle.rows.specs.Row.{turn, WithinAt, Within}
use Rattle.rows.specs.Words.{row_at, SmallRow, step_place}
use Rattle.rows.specs.Rules.{unmet, masked, ahead_row, ahead_at, back_steps, back_end}
use Rattle.rows.proofs.RowLaws.{and-true, turned_small}
use Rattle.closure.specs.Dual.{is_every}
use Rattle.closure.specs.Knowledge.{Knowledge}
use Rattle.propagate.specs.Memory.{Memory, ahead_in}
use Rattle.readers.specs.Reads.{AgreeAt}
use Rattle.closure.specs.KnowledgeIn.{RowIn}
use Rattle.closure.specs.Rest.{RestBack}
use Rattle.closure.proofs.TurnedRows.{within_duals}
use Rattle.closure.proofs.RulesSmall.{ahead_small}
use Rattle.closure.proofs.AheadSound.{ahead_over}
use Rattle.closure.proofs.Agree.{turned_agrees}

-- the step rows of a memory
abbrev pub step_rows : Memory → ℕ → Row
step_rows M s = row_at M.rows (step_place s)

-- the members of a set are states of the table
abbrev pub OfStates : Table → ℕ → Type 0
OfStates T look = (s : ℕ) → member look s ≡ true → s < length T.states

-- ---- parts of rows

and-all : (a b : Bool) → b ≡ true → a && b ≡ a
and-all true b e = e
and-all false b e = refl

-- a row that knows no more is forced too
pub less_in : (T : Table) (S : Literal Var → Type 0) (v : ℕ → Var) (q r : Row) → Within q r → RowIn T S v r
    → RowIn T S v q
less_in T S v q r less given sign s k = given sign s (less s sign k)

module _ (set : ℕ) (r : Row) where
  pub masked_within : Within (masked set r) r
  masked_within s true m = ((and-true r.yes set s).0 m).0
  masked_within s false m = ((and-true r.no set s).0 m).0

  pub masked_small : SmallRow r → SmallRow (masked set r)
  masked_small h = (lt_of_le_of_lt (and_le_l r.yes set) h.0, lt_of_le_of_lt (and_le_l r.no set) h.1)

  pub masked_agrees : (s : ℕ) → member set s ≡ true → AgreeAt s (masked set r) r
  masked_agrees s m true = sym (member-and r.yes set s ∙ and-all (member r.yes s) (member set s) m)
  masked_agrees s m false = sym (member-and r.no set s ∙ and-all (member r.no s) (member set s) m)

-- ---- N at the states of a set

-- the members of a set that have f, against all states below n that have g, where f and g agree
module _ (n set : ℕ) (f g : ℕ → Bool) (same : (s : ℕ) → s < n → f s ≡ g s) where
  part_within : ((s : ℕ) → member set s ≡ true → s < n) → (s : ℕ)
      → member (set_of 32 (λ s. member set s && f s)) s ≡ true → member (set_of n g) s ≡ true
  part_within inside s m =
      let p = and_parts (member set s) (f s) ((in_set 32 (λ s. member set s && f s) s).0 m).1 in
      let l = inside s p.0 in
      (in_set n g s).1 (l, sym (same s l) ∙ p.1)

  part_agrees : n < 33 → (s : ℕ) → s < n → member set s ≡ true
      → member (set_of n g) s ≡ member (set_of 32 (λ s. member set s && f s)) s
  part_agrees few s l m = member-set_of-below n g s l
      ∙ sym (member-set_of-below 32 (λ s. member set s && f s) s (omega arith) ∙ ap (λ (b : Bool). b && f s) m
      ∙ same s l)

module _ (T : Table) (wf : Wellformed T) (targets : List ℕ) (ends : (s : ℕ) → s < 32
    → get_or targets s 0 ≡ target_set T.steps s)
    (look : ℕ) (q : Quantifier) (E : Row) (M : Memory) where
  abbrev n : ℕ
  n = length T.states

  few : n < 33
  few = omega (arith, wf.few_states)

  -- N at the states of the set, with the ends in the list, and N of all states, with the ends of the table
  abbrev part : Row
  part = ahead_at (λ s. get_or targets s 0) (step_rows M) look (turn (is_every q) E)

  abbrev all : Row
  all = ahead_row (target_set T.steps) (step_rows M) n (turn (is_every q) E)

  abbrev here : Row
  here = ahead_in targets look (is_every q) E M

  abbrev over : Row
  over = ahead_over T q (step_rows M) E

  met_same : (s : ℕ) → s < n → eqb (unmet (get_or targets s 0) (step_rows M s) (turn (is_every q) E)) 0
      ≡ eqb (unmet (target_set T.steps s) (step_rows M s) (turn (is_every q) E)) 0
  met_same s l = ap (λ (t : ℕ). eqb (unmet t (step_rows M s) (turn (is_every q) E)) 0) (ends s (omega (arith, few)))

  pub ahead_here_small : SmallRow here
  ahead_here_small = turned_small (is_every q) _ (set_of-lt 32 _, set_of-lt 32 _)

  pub ahead_over_small : SmallRow over
  ahead_over_small = turned_small (is_every q) _
      (ahead_small (target_set T.steps) (step_rows M) n (turn (is_every q) E) few)

  -- N at a state that is not of the table would be forced by nothing
  pub ahead_within : OfStates T look → Within here over
  ahead_within inside s = within_duals (is_every q) part all s at
    where
      at : WithinAt s part all
      at true = part_within n look _ _ met_same inside s
      at false = part_within n look _ _ (λ s l. refl) inside s

  pub ahead_here_agrees : (s : ℕ) → s < n → member look s ≡ true → AgreeAt s here over
  ahead_here_agrees s l m = turned_agrees (is_every q) part all s at
    where
      at : AgreeAt s part all
      at true = part_agrees n look _ _ met_same few s l m
      at false = part_agrees n look _ _ (λ s l. refl) few s l m

-- what was known of N is taken back alike
pub back_agrees : (T : Table) (K : Knowledge) (q : Quantifier) (A A' E : Row) (s : ℕ) → AgreeAt s A A'
    → RestBack T K q A E s → RestBack T K q A' E s
back_agrees T K q A A' E s agree back = record {
  steps = subst (λ (r : Row). Within r (K.steps s))
      (λ i. back_steps t (K.steps s) (ends E) (sym (same true) i) (sym (same false) i)) back.steps;
  ends = subst (λ (r : Row). Within r (ends E))
      (λ i. back_end t (K.steps s) (ends E) (sym (same true) i) (sym (same false) i)) back.ends;
}
  where
    t : ℕ
    t = target_set T.steps s

    ends : Row → Row
    ends = turn (is_every q)

    same : AgreeAt s (ends A) (ends A')
    same = turned_agrees (is_every q) A A' s agree
