-- What the ends themselves say of N adds nothing when it is taken back: where the rest of N adds nothing, all of it
-- adds nothing.
use Prim.Native.Nat.{ℕ, ◌^◌, ◌≤◌, ◌<◌}
use native.Mathlib.Omega.{arith}
use mathlib.Core.Path.{◌≡◌, sym, subst, ◌∙◌}
use mathlib.Core.Bool.{Bool, true, false, not, ◌&&◌, true≢false}
use mathlib.Core.Logic.{◌⊎◌, inl, inr, ⊎_elim}
use borrow.Author.Tests.{not-true}
use lib.Bits.{bit_and, and_lt}
use lib.Dec.{eqb}
use lib.ListN.{length}
use Rattle.sets.specs.Member.{member}
use Rattle.sets.proofs.Laws.{member_inside}
use Rattle.sets.proofs.SetOf.{in_set}
use Rattle.table.specs.Table.{Table}
use Rattle.table.specs.Facts.{Wellformed}
use Rattle.table.specs.Rows.{target_set}
use Rattle.table.proofs.Bools.{and_parts, parts_and, not_so}
use Rattle.ctl.specs.Rule.{Quantifier}
use Rattle.rows.specs.declared.row.Row.{Row}
use Rattle.rows.specs.Row.{known, turn, only, Within, ClearAt}
use Rattle.rows.specs.Rules.{unmet, ahead_row, last_left, back_steps, back_end, new_of}
use Rattle.closure.specs.Dual.{is_every}
use Rattle.rows.specs.Words.{SmallRow}
use Rattle.rows.proofs.RowLaws.{
  and-true,
  cond-true,
  without-true,
  without_small,
  empty_none,
  nonempty_some,
  only-true,
  set_small,
  turned_small,
  unmet-true,
}
use Rattle.closure.specs.Knowledge.{Knowledge, Small}
use Rattle.closure.specs.Rest.{ahead_of, RestBack}
use Rattle.closure.proofs.Forced.{one_of_both}
use Rattle.closure.proofs.Ends.{target_true, target_small}
use Rattle.closure.proofs.TurnedRows.{clear_turned}

-- the rows keep only steps of the table
abbrev pub OfTable : Table → Knowledge → Type 0
OfTable T K = (s : ℕ) → s < length T.states → (t : ℕ) → known (K.steps s) true t ≡ true
    → member (target_set T.steps s) t ≡ true

-- ---- one state, for A

module _ (target : ℕ) (out end : Row) (small_target : target < 2 ^ 32) (small_out : SmallRow out)
    (small_end : SmallRow end)
    (clear_out : (t : ℕ) → ClearAt t out) (clear_end : (t : ℕ) → member target t ≡ true → ClearAt t end)
    (ours : (t : ℕ) → known out true t ≡ true → member target t ≡ true) where
  -- the ends say that N is true, or that it is false
  abbrev Met : Type 0
  Met = eqb (unmet target out end) 0 ≡ true

  abbrev Missed : Type 0
  Missed = not (eqb (bit_and out.yes end.no) 0) ≡ true

  -- where no step is left, each is struck or has its end true
  met_each : Met → (t : ℕ) → member target t ≡ true → (known out false t ≡ true) ⊎ (known end true t ≡ true)
  met_each none t m = ⊎_elim inl (λ a. ⊎_elim inr
      (λ b. absurd (true≢false
      (sym ((unmet-true target out end small_out small_end t).1 (member_inside 32 target t small_target m, m, a, b))
      ∙ empty_none _ none t)))
      (one_of_both (known end true t) true))
      (one_of_both (known out false t) true)

  met_strikes : Met → (t : ℕ) → member target t ≡ true → known end false t ≡ true → known out false t ≡ true
  met_strikes none t m f = ⊎_elim (λ x. x) (λ e. absurd (clear_end t m e f)) (met_each none t m)

  met_reaches : Met → (t : ℕ) → known out true t ≡ true → known end true t ≡ true
  met_reaches none t o = ⊎_elim (λ x. absurd (clear_out t o x)) (λ e. e) (met_each none t (ours t o))

  -- where a kept step's end is false and one step is left, it is that step
  missed_last : Missed → only (unmet target out end) ≡ true → (t : ℕ) → member (unmet target out end) t ≡ true
      → (known out true t ≡ true) × (known end false t ≡ true)
  missed_last some one t m =
      let c = nonempty_some (bit_and out.yes end.no) (and_lt 32 out.yes end.no small_out.0 small_end.1)
      (not-true _ some) in
      let p = (and-true out.yes end.no c.0).0 c.2 in
      let o = ours c.0 p.0 in
      let here : member (unmet target out end) c.0 ≡ true = (unmet-true target out end small_out small_end c.0).1 (
        c.1,
        o,
        not_so _ (clear_out c.0 p.0),
        not_so _ (λ e. clear_end c.0 o e p.1),
      ) in
      let x = (only-true (unmet target out end) (without_small target _ small_target)).0 one in
      let same : c.0 ≡ t = x.2 c.0 here ∙ sym (x.2 t m) in (
        subst (λ (u : ℕ). known out true u ≡ true) same p.0,
        subst (λ (u : ℕ). known end false u ≡ true) same p.1,
      )

  -- N known so, by t and f, of which t' and f' are what the ends do not say
  module _ (t f t' f' : Bool) (of_true : t ≡ true → (t' ≡ true) ⊎ Met) (of_false : f ≡ true
      → (f' ≡ true) ⊎ Missed) where
    last_new : (u : ℕ) → member (last_left target out end f) u ≡ true
        → (member (last_left target out end f') u ≡ true) ⊎ ((known out true u ≡ true) × (known end false u ≡ true))
    last_new u e =
        let p = (cond-true (f && only (unmet target out end)) (unmet target out end) u).0 e in
        let w = and_parts f (only (unmet target out end)) p.0 in
        ⊎_elim
        (λ g. inl ((cond-true (f' && only (unmet target out end)) (unmet target out end) u).1
        (parts_and f' (only (unmet target out end)) g w.1, p.1)))
        (λ g. inr (missed_last g w.1 u p.1))
        (of_false w.0)

    full_steps : Within (back_steps target out end t' f') out → Within (back_steps target out end t f) out
    full_steps back u true e = ⊎_elim (back u true) (λ p. p.0) (last_new u e)
    full_steps back u false e =
        let p = (cond-true t (bit_and target end.no) u).0 e in
        let w = (and-true target end.no u).0 p.1 in
        ⊎_elim
        (λ g. back u false ((cond-true t' (bit_and target end.no) u).1 (g, p.1)))
        (λ none. met_strikes none u w.0 w.1)
        (of_true p.0)

    full_ends : Within (back_end target out end t' f') end → Within (back_end target out end t f) end
    full_ends back u true e =
        let p = (cond-true t out.yes u).0 e in
        ⊎_elim (λ g. back u true ((cond-true t' out.yes u).1 (g, p.1))) (λ none. met_reaches none u p.1) (of_true p.0)
    full_ends back u false e = ⊎_elim (back u false) (λ p. p.1) (last_new u e)

-- ---- what is new

-- what r knows is new, or q knows it
new_or : (r q : Row) → SmallRow q → (sign : Bool) (s : ℕ) → s < 32 → known r sign s ≡ true
    → (known (new_of r q) sign s ≡ true) ⊎ (known q sign s ≡ true)
new_or r q h true s l e =
    ⊎_elim inr (λ n. inl ((without-true r.yes q.yes s h.0).1 (l, e, n))) (one_of_both (known q true s) true)
new_or r q h false s l e =
    ⊎_elim inr (λ n. inl ((without-true r.no q.no s h.1).1 (l, e, n))) (one_of_both (known q false s) true)

-- and so in the duals
new_turned : (b : Bool) (r q : Row) → SmallRow q → (sign : Bool) (s : ℕ) → s < 32 → known (turn b r) sign s ≡ true
    → (known (turn b (new_of r (turn b q))) sign s ≡ true) ⊎ (known q sign s ≡ true)
new_turned true r q h sign s l e = new_or r q h sign s l e
new_turned false r q h true s l e = new_or r (turn false q) (turned_small false q h) false s l e
new_turned false r q h false s l e = new_or r (turn false q) (turned_small false q h) true s l e

-- ---- for A and for E

module _ (T : Table) (wf : Wellformed T) (K : Knowledge) where
  pub back_full : Small K → OfTable T K → (q : Quantifier) (over end : Row) (s : ℕ) → s < length T.states → SmallRow end
      → ((t : ℕ) → ClearAt t (K.steps s)) → ((t : ℕ) → t < length T.states → ClearAt t end)
      → RestBack T K q (new_of over (ahead_of T K q end)) end s → RestBack T K q over end s
  back_full small ours q over end s h small_end clear_out clear_end back = record {
    steps = full_steps target (K.steps s) ends (target_small T.steps s) (small.steps s) small_ends clear_out clear_ends
        (ours s h)
        _ _ _ _ of_true of_false back.steps;
    ends = full_ends target (K.steps s) ends (target_small T.steps s) (small.steps s) small_ends clear_out clear_ends
        (ours s h)
        _ _ _ _ of_true of_false back.ends;
  }
    where
      target : ℕ
      target = target_set T.steps s

      ends : Row
      ends = turn (is_every q) end

      -- what the ends say of N, as A has it
      up : Row
      up = ahead_row (target_set T.steps) K.steps (length T.states) ends

      few : length T.states < 33
      few = let k : length T.states ≤ 32 = wf.few_states in omega arith

      small_ends : SmallRow ends
      small_ends = turned_small (is_every q) end small_end

      small_up : SmallRow up
      small_up = (set_small _ few _, set_small _ few _)

      clear_ends : (t : ℕ) → member target t ≡ true → ClearAt t ends
      clear_ends t m =
          let j = (target_true T wf s t).0 m in
          clear_turned (is_every q) end t
          (clear_end t (subst (λ (t : ℕ). t < length T.states) j.3 (wf.to_state j.0 j.1)))

      of_true : known (turn (is_every q) over) true s ≡ true
          → (known (turn (is_every q) (new_of over (ahead_of T K q end))) true s ≡ true)
          ⊎ (eqb (unmet target (K.steps s) ends) 0 ≡ true)
      of_true e = ⊎_elim inl (λ u. inr ((in_set _ _ s).0 u).1)
          (new_turned (is_every q) over up small_up true s (omega (arith, few)) e)

      of_false : known (turn (is_every q) over) false s ≡ true
          → (known (turn (is_every q) (new_of over (ahead_of T K q end))) false s ≡ true)
          ⊎ (not (eqb (bit_and (K.steps s).yes ends.no) 0) ≡ true)
      of_false e = ⊎_elim inl (λ u. inr ((in_set _ _ s).0 u).1)
          (new_turned (is_every q) over up small_up false s (omega (arith, few)) e)
