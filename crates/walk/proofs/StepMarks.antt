-- Step rows that hold exactly what marks know: a step is unsettled in both or in neither, and they give the same list
-- and cost the same.
use Prim.Native.Nat.{ℕ, ◌<◌}
use mathlib.Core.Path.{◌≡◌, refl, sym, ap, ◌∙◌}
use mathlib.Core.Bool.{Bool, true, false, cond, not, ◌||◌, beq, false≢true}
use mathlib.Core.Logic.{◌↔◌}
use mathlib.Core.List.{List}
use lib.ListN.{length}
use lib.Seq.{ext_get_or}
use Rattle.table.specs.Table.{Table, step_at}
use Rattle.table.proofs.Bools.{same_test}
use Rattle.ctl.proofs.Price.{price_same}
use Rattle.ctl.proofs.Tabulate.{length_tabulate, get_d_tabulate}
use Rattle.rows.specs.Steps.{step_bit}
use Rattle.closure.specs.Computed.{Mark, unknown, known, Marks, mark_at, is_known}
use Rattle.closure.specs.Closes.{step_known}
use Rattle.search.specs.TableSearch.{bit_of, is_struck, mark_price, list_of}
use Rattle.search.specs.StepRows.{is_unsettled, rows_price, kept_bytes}
use Rattle.search.proofs.Agree.{length-bytes_of, get_d_bytes_of}

-- the mark is known with this sign
abbrev is_sign : Bool → Mark → Bool
is_sign sign unknown = false
is_sign sign (known b) = beq b sign

sign_true : (sign : Bool) (x : Mark) → is_sign sign x ≡ true → x ≡ known sign
sign_true sign unknown e = absurd (false≢true e)
sign_true true (known true) e = refl
sign_true true (known false) e = absurd (false≢true e)
sign_true false (known true) e = absurd (false≢true e)
sign_true false (known false) e = refl

sign_same : (sign : Bool) → is_sign sign (known sign) ≡ true
sign_same true = refl
sign_same false = refl

unsettled_of : (x : Mark) → not (is_sign true x || is_sign false x) ≡ not (is_known x)
unsettled_of unknown = refl
unsettled_of (known true) = refl
unsettled_of (known false) = refl

struck_of : (x : Mark) → is_sign false x ≡ is_struck x
struck_of unknown = refl
struck_of (known true) = refl
struck_of (known false) = refl

byte_of : (x : Mark) → cond (is_sign true x) 1 0 ≡ bit_of x
byte_of unknown = refl
byte_of (known true) = refl
byte_of (known false) = refl

module _ (T : Table) (rows : List ℕ) (m : Marks)
    (exact : (i : ℕ) (sign : Bool) → i < length T.steps
    → (step_known T rows sign i ≡ true) ↔ (mark_at m i ≡ known sign)) where
  step_mark : (i : ℕ) → i < length T.steps → (sign : Bool) → step_known T rows sign i ≡ is_sign sign (mark_at m i)
  step_mark i h sign = same_test _ _
      (λ e. ap (is_sign sign) ((exact i sign h).0 e) ∙ sign_same sign)
      (λ e. (exact i sign h).1 (sign_true sign (mark_at m i) e))

  pub unsettled_mark : (i : ℕ) → i < length T.steps → is_unsettled T rows i ≡ not (is_known (mark_at m i))
  unsettled_mark i h = (λ k. not (step_mark i h true k || step_mark i h false k)) ∙ unsettled_of (mark_at m i)

  pub price_mark : rows_price T rows ≡ mark_price T m
  price_mark = price_same T _ _ (λ i h. step_mark i h false ∙ struck_of (mark_at m i))

  pub list_mark : kept_bytes T rows ≡ list_of T m
  list_mark = ext_get_or 0 (kept_bytes T rows) (list_of T m) (length_tabulate e bit ∙ sym (length-bytes_of e m))
      (λ i h. let l : i < e = rw length_tabulate at h in
      get_d_tabulate e bit i 0 l ∙ ap (λ (b : Bool). cond b 1 0) (step_mark i l true) ∙ byte_of (mark_at m i)
      ∙ sym (get_d_bytes_of e m i l))
    where
      e : ℕ
      e = length T.steps

      bit : ℕ → ℕ
      bit i = cond (step_bit rows true (step_at T i)) 1 0
