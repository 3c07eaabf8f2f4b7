-- N at one state and the gates of the steps out of it, where the rules add nothing: the gates are as their inputs
-- say, and so is N.
use Prim.Native.Nat.{ℕ, ◌^◌, ◌<◌}
use mathlib.Core.Path.{◌≡◌, sym, ◌∙◌}
use mathlib.Core.Bool.{true, false, true≢false}
use mathlib.Core.Logic.{◌⊎◌, inl, inr, ⊎_elim}
use lib.Bits.{bit_or}
use lib.Dec.{eqb}
use Rattle.sets.specs.Member.{member}
use Rattle.table.proofs.Bools.{parts_and, not_so}
use Rattle.rows.specs.declared.row.Row.{Row}
use Rattle.rows.specs.Row.{known, turn, only, Within, ClearAt}
use Rattle.rows.specs.Rules.{unmet, last_left, back_steps, back_end}
use Rattle.rows.specs.Words.{SmallRow}
use Rattle.rows.proofs.RowLaws.{without_small, none_empty, and-true, or-true, cond-true, unmet-true}
use Rattle.closure.proofs.Forced.{one_of_both}
use Rattle.closure.proofs.OneMember.{same_or, only_this}
use Rattle.closure.proofs.Says.{edge_row, AndRow}

-- At state s, with these steps out of it, known so, these ends and this N, the rules of A add nothing and nothing is
-- known both ways.
pub record AheadRest (target : ℕ) (out end over : Row) (s : ℕ) : Type 0 where
  pub small_target : target < 2 ^ 32
  pub small_out : SmallRow out
  pub small_end : SmallRow end
  pub clear_out : (t : ℕ) → ClearAt t out
  pub clear_end : (t : ℕ) → member target t ≡ true → ClearAt t end
  pub clear : ClearAt s over
  pub met : eqb (unmet target out end) 0 ≡ true → known over true s ≡ true
  pub missed : (t : ℕ) → known out true t ≡ true → known end false t ≡ true → known over false s ≡ true
  pub steps : Within (back_steps target out end (known over true s) (known over false s)) out
  pub ends : Within (back_end target out end (known over true s) (known over false s)) end

module _ {target s : ℕ} {out end over : Row} (r : AheadRest target out end over s) where
  -- the gates of the steps
  abbrev gates : Row
  gates = edge_row target out end (known over true s)

  -- ---- one step

  abbrev Met : ℕ → Type 0
  Met t = (known out false t ≡ true) ⊎ ((known end true t ≡ true) ⊎ (known over true s ≡ true))

  -- why the gate of a step is true
  why_met : (t : ℕ) → known gates true t ≡ true → Met t
  why_met t e = ⊎_elim
      (λ f. ⊎_elim inl (λ g. inr (inl g)) ((or-true out.no end.yes t).0 f))
      (λ f. inr (inr ((cond-true _ target t).0 f).0))
      ((or-true _ _ t).0 e)

  of_struck : (t : ℕ) → known out false t ≡ true → known gates true t ≡ true
  of_struck t e = (or-true _ _ t).1 (inl ((or-true out.no end.yes t).1 (inl e)))

  of_end : (t : ℕ) → known end true t ≡ true → known gates true t ≡ true
  of_end t e = (or-true _ _ t).1 (inl ((or-true out.no end.yes t).1 (inr e)))

  of_ahead : (t : ℕ) → member target t ≡ true → known over true s ≡ true → known gates true t ≡ true
  of_ahead t m e = (or-true (bit_or out.no end.yes) _ t).1 (inr ((cond-true _ target t).1 (e, m)))

  -- a true gate with a false end strikes the step, and with a kept step it makes the end true
  strikes : (t : ℕ) → member target t ≡ true → known gates true t ≡ true → known end false t ≡ true
      → known out false t ≡ true
  strikes t m e f = ⊎_elim (λ x. x) (⊎_elim
      (λ g. absurd (r.clear_end t m g f))
      (λ a. r.steps t false ((cond-true _ _ t).1 (a, (and-true target end.no t).1 (m, f)))))
      (why_met t e)

  reaches : (t : ℕ) → known gates true t ≡ true → known out true t ≡ true → known end true t ≡ true
  reaches t e o = ⊎_elim (λ x. absurd (r.clear_out t o x))
      (⊎_elim (λ g. g) (λ a. r.ends t true ((cond-true _ _ t).1 (a, o)))) (why_met t e)

  -- the gate is the opposite of an AND, of the step and of the opposite of the end
  pub edge_and : (t : ℕ) → member target t ≡ true → AndRow (turn false gates) out (turn false end) t
  edge_and t m = record {
    up = λ o e. (and-true out.yes end.no t).1 (o, e);
    left = λ e. ((and-true out.yes end.no t).0 e).0;
    right = λ e. ((and-true out.yes end.no t).0 e).1;
    no_left = of_struck t;
    no_right = of_end t;
    last_left_lem = strikes t m;
    last_right = reaches t;
  }

  pub edge_clear : (t : ℕ) → member target t ≡ true → ClearAt t gates
  edge_clear t m e f = let g = (and-true out.yes end.no t).0 f in r.clear_end t m (reaches t e g.0) g.1

  -- ---- all of them

  small_unmet : unmet target out end < 2 ^ 32
  small_unmet = without_small target _ r.small_target

  -- an end that is not met has a gate that is not true, unless N is
  not_met : (t : ℕ) → member (unmet target out end) t ≡ true → known gates true t ≡ true → known over true s ≡ true
  not_met t u e =
      let p = (unmet-true target out end r.small_out r.small_end t).0 u in
      ⊎_elim (λ x. absurd (true≢false (sym x ∙ p.2))) (⊎_elim (λ x. absurd (true≢false (sym x ∙ p.3))) (λ a. a))
      (why_met t e)

  unmet_target : (t : ℕ) → member (unmet target out end) t ≡ true → member target t ≡ true
  unmet_target t u = ((unmet-true target out end r.small_out r.small_end t).0 u).1

  -- N is true where all gates are
  pub all_met : ((t : ℕ) → member target t ≡ true → known gates true t ≡ true) → known over true s ≡ true
  all_met each = ⊎_elim (λ a. a)
      (λ n. r.met (none_empty _ small_unmet
      (λ t h. not_so _ (λ u. true≢false (sym (not_met t u (each t (unmet_target t u))) ∙ n)))))
      (one_of_both (known over true s) true)

  -- and each gate where N is
  pub met_each : known over true s ≡ true → (t : ℕ) → member target t ≡ true → known gates true t ≡ true
  met_each a t m = of_ahead t m a

  -- it is false where a gate is
  pub one_missed : (t : ℕ) → known gates false t ≡ true → known over false s ≡ true
  one_missed t e = let g = (and-true out.yes end.no t).0 e in r.missed t g.0 g.1

  -- where it is false and all gates but one are true, that one is false
  pub last_missed : known over false s ≡ true → (t : ℕ) → member target t ≡ true
      → ((u : ℕ) → member target u ≡ true → ¬ (u ≡ t) → known gates true u ≡ true) → known gates false t ≡ true
  last_missed f t m others = (and-true out.yes end.no t).1 (r.steps t true left, r.ends t false left)
    where
      -- N is not true as well
      untrue : ¬ (known over true s ≡ true)
      untrue a = r.clear a f

      -- so t, and no other end, is not met
      this : (member (unmet target out end) t ≡ true) × (only (unmet target out end) ≡ true)
      this = only_this _ t small_unmet (λ z. untrue (r.met z))
          (λ u i. same_or u t (λ e. e) (λ d. absurd (untrue (not_met u i (others u (unmet_target u i) d)))))

      left : member (last_left target out end (known over false s)) t ≡ true
      left = (cond-true _ _ t).1 (parts_and _ _ f this.1, this.0)
