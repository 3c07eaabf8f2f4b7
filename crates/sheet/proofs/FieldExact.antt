-- A field: the parser takes exactly the numbers up to its bound, in decimal, with the byte that ends them.
use Prim.Native.Nat.{ℕ, zero, suc, ◌+◌, ◌-◌, ◌/◌, ◌%◌, ◌≤◌, ◌<◌}
use mathlib.Core.Path.{◌≡◌, refl, sym, ap, ◌∙◌}
use mathlib.Core.Bool.{Bool, true, false}
use mathlib.Core.List.{List, [], ◌∷◌, ◌++◌, append_assoc}
use native.Mathlib.Decide.{dec_lt}
use native.Mathlib.Omega.{arith}
use borrow.Author.Tests.{eq-eqb, ne_eqb, eqb-true}
use lib.Dec.{eqb}
use Rattle.sheet.specs.Form.{digit, decimal, ended}
use Rattle.sheet.specs.Parse.{got, is_digit, extended, extends, digits_up_to, field}
use Rattle.sheet.proofs.Exact.{Exact, broken_got}
use Rattle.sheet.proofs.FieldSteps.{
  is_digit_lem,
  digit_bounds,
  Follows,
  follows,
  may_follow,
  field-digit,
  field_broken,
  scan_end,
  scan_more,
  scan_broken,
}
use Rattle.sheet.proofs.Decimal.{decimal_low, decimal_high, decimal_more}

module _ (max stop : ℕ) (low : 9 ≤ max) (ends : stop < 48) where
  scan_digit : (v b : ℕ) (rest : List ℕ) → Follows max v b
      → digits_up_to max stop v (b ∷ rest) ≡ digits_up_to max stop (extended v b) rest
  scan_digit v b rest f = let h = f.above in
      scan_more max stop v b rest (ne_eqb b stop (λ e. omega arith)) (may_follow max v b f)

  -- the digits of a number up to the bound give the number
  field-decimal : (room v : ℕ) (text : List ℕ) → v < room → v ≤ max
      → field max stop (decimal v ++ text) ≡ digits_up_to max stop v text
  field-decimal zero v text h k = absurd (omega arith)
  field-decimal (suc room) v text h k =
      elim (dec_lt v 10) [
        | yes small ↦
            ap (λ (l : List ℕ). field max stop (l ++ text)) (decimal_low v small)
            ∙ field-digit max stop (48 + v) text (is_digit_lem (48 + v) (omega arith) (omega arith))
            ∙ ap (λ (w : ℕ). digits_up_to max stop w text) (omega arith)
        | no high ↦
            (let ten : 10 ≤ v = omega (arith, high) in
            let same : extended (v / 10) (digit (v % 10)) ≡ v = omega arith in
            ap (λ (l : List ℕ). field max stop (l ++ text)) (decimal_high v ten)
            ∙ ap (field max stop) (append_assoc (decimal (v / 10)) (digit (v % 10) ∷ []) text)
            ∙ field-decimal room (v / 10) (digit (v % 10) ∷ text) (omega arith) (omega arith)
            ∙ scan_digit (v / 10) (digit (v % 10)) text
            (record { some = omega arith; above = omega arith; below = omega arith; fits = omega arith })
            ∙ ap (λ (w : ℕ). digits_up_to max stop w text) same)
      ]

  -- what a scan takes behind a value
  Taken : ℕ → List ℕ → ℕ → List ℕ → Type 0
  Taken v text w rest = (w ≤ max) × (decimal v ++ text ≡ decimal w ++ (stop ∷ rest))

  scan_step : (v b : ℕ) (text : List ℕ) (w : ℕ) (rest : List ℕ) → v ≤ max
      → digits_up_to max stop v (b ∷ text) ≡ got w rest
      → (extended v b ≤ max → digits_up_to max stop (extended v b) text ≡ got w rest → Taken (extended v b) text w rest)
      → Taken v (b ∷ text) w rest
  unfolding Taken
  scan_step v b text w rest h e more = go (eqb b stop) refl (extends max v b) refl
    where
      go : (t : Bool) → eqb b stop ≡ t → (d : Bool) → extends max v b ≡ d
          → (w ≤ max) × (decimal v ++ (b ∷ text) ≡ decimal w ++ (stop ∷ rest))
      go true p d q =
          let here : b ≡ stop = eqb-true b stop p in
          let same : got v text ≡ got w rest = sym (scan_end max stop v b text p) ∙ e in
          let number : v ≡ w = cc in
          let behind : text ≡ rest = cc in
          (omega arith, cc)
      go false p true q =
          let f = follows max v b q in
          let some = f.some in
          let above = f.above in
          let below = f.below in
          let taken = more f.fits (sym (scan_digit v b text f) ∙ e) in
          let last : digit (b - 48) ≡ b = omega arith in (
            taken.0,
            (sym (append_assoc (decimal v) (b ∷ []) text)
                ∙ ap (λ (k : ℕ). (decimal v ++ (k ∷ [])) ++ text) (sym last)
                ∙ ap (λ (l : List ℕ). l ++ text) (sym (decimal_more v (b - 48) some (omega arith)))
                ∙ taken.1),
          )
      go false p false q = absurd (broken_got w rest (sym (scan_broken max stop v b text p q) ∙ e))

  scan_sound : (v : ℕ) (text : List ℕ) (w : ℕ) (rest : List ℕ) → v ≤ max → digits_up_to max stop v text ≡ got w rest
      → Taken v text w rest
  unfolding digits_up_to
  scan_sound v [] w rest h e = absurd (broken_got w rest e)
  scan_sound v (b ∷ text) w rest h e = scan_step v b text w rest h e (scan_sound (extended v b) text w rest)

  field_sound : (text : List ℕ) (w : ℕ) (rest : List ℕ) → field max stop text ≡ got w rest
      → (w ≤ max) × (text ≡ (decimal w ++ (stop ∷ [])) ++ rest)
  unfolding field Taken
  field_sound [] w rest e = absurd (broken_got w rest e)
  field_sound (b ∷ text) w rest e = go (is_digit b) refl
    where
      go : (t : Bool) → is_digit b ≡ t → (w ≤ max) × (b ∷ text ≡ (decimal w ++ (stop ∷ [])) ++ rest)
      go true p =
          let d = digit_bounds b p in
          let taken = scan_sound (b - 48) text w rest (omega arith) (sym (field-digit max stop b text p) ∙ e) in
          let last : digit (b - 48) ≡ b = omega arith in (
            taken.0,
            ap (λ (k : ℕ). k ∷ text) (sym last)
                ∙ ap (λ (l : List ℕ). l ++ text) (sym (decimal_low (b - 48) (omega arith))) ∙ taken.1
                ∙ sym (append_assoc (decimal w) (stop ∷ []) rest),
          )
      go false p = absurd (broken_got w rest (sym (field_broken max stop b text p) ∙ e))

  -- a field is exactly a number up to the bound, in decimal, and the byte that ends it
  pub field_exact : Exact (field max stop) (λ v. v ≤ max) (ended stop)
  field_exact =
      record {
        sound = field_sound;
        complete = λ v rest h.
            ap (field max stop) (append_assoc (decimal v) (stop ∷ []) rest)
            ∙ field-decimal (suc v) v (stop ∷ rest) (omega arith) h
            ∙ scan_end max stop v stop rest (eq-eqb stop stop refl);
      }
