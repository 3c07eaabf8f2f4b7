-- What the search answers under a cap, by what it answers without one.
use Prim.Native.Nat.{ℕ, ◌≤◌, ◌<◌}
use mathlib.Core.Path.{◌≡◌, refl, sym, subst}
use native.Mathlib.Decide.{dec_lt}
use native.Mathlib.Omega.{arith}
use Rattle.table.specs.Table.{Table}
use Rattle.table.specs.Facts.{Wellformed}
use Rattle.search.specs.Search.{Outcome, spent}
use Rattle.search.specs.TableSearch.{search_under, search_free}
use Rattle.search.specs.Right.{choices, settled, SearchIsRight}
use Rattle.search.proofs.Right.{search_is_right}

module _ (T : Table) (wf : Wellformed T) (cap : ℕ) where
  right : SearchIsRight T
  right = search_is_right T wf

  -- it is cut there, or is the one without a cap
  pub under_cap : (C : Outcome → Type 0) → (cap < choices (search_free T) → C (spent cap (settled (search_free T))))
      → (choices (search_free T) ≤ cap → C (search_free T)) → C (search_under T cap)
  under_cap C cut whole =
      elim (dec_lt cap (choices (search_free T))) [
        | yes over ↦ subst C (sym (right.spent_over cap over)) (cut over)
        | no not-over ↦ (let within : choices (search_free T) ≤ cap = omega (
          arith,
          not-over,
        ) in subst C (sym (right.same_within cap within)) (whole within))
      ]

  -- either way it carries the same number of settled steps
  pub same_settled : settled (search_under T cap) ≡ settled (search_free T)
  same_settled = under_cap (λ o. settled o ≡ settled (search_free T)) (λ over. refl) (λ within. refl)
