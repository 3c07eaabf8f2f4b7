-- Numbers in decimal: one digit below ten, and one digit more behind a number that is not 0.
use Prim.Native.Nat.{ℕ, zero, suc, ◌+◌, ◌*◌, ◌/◌, ◌%◌, ◌≤◌, ◌<◌}
use mathlib.Core.Path.{◌≡◌, sym, ap, ap₂, ◌∙◌}
use mathlib.Core.List.{List, [], ◌∷◌, ◌++◌}
use native.Mathlib.Decide.{dec_lt}
use native.Mathlib.Omega.{arith}
use borrow.Author.Tests.{lt-ltb, le-ltb}
use Rattle.sheet.specs.Form.{digit, digits, decimal}

digits_low : (room n : ℕ) → n < 10 → digits (suc room) n ≡ digit n ∷ []
unfolding digits
digits_low room n h = rw (lt-ltb n 10 h, digits)

digits_high : (room n : ℕ) → 10 ≤ n → digits (suc room) n ≡ digits room (n / 10) ++ (digit (n % 10) ∷ [])
unfolding digits
digits_high room n h = rw (le-ltb n 10 h, digits)

-- the room makes no difference where there is enough of it
digits_room : (r q n : ℕ) → n < r → n < q → digits r n ≡ digits q n
digits_room zero q n h k = absurd (omega arith)
digits_room (suc r) zero n h k = absurd (omega arith)
digits_room (suc r) (suc q) n h k =
    elim (dec_lt n 10) [
      | yes low ↦ digits_low r n low ∙ sym (digits_low q n low)
      | no high ↦ (let ten : 10 ≤ n = omega (arith, high) in
          digits_high r n ten
          ∙ ap (λ (l : List ℕ). l ++ (digit (n % 10) ∷ [])) (digits_room r q (n / 10) (omega arith) (omega arith))
          ∙ sym (digits_high q n ten))
    ]

-- a number below ten is one digit
pub decimal_low : (n : ℕ) → n < 10 → decimal n ≡ digit n ∷ []
unfolding decimal
decimal_low n h = digits_low n n h

-- any other is its tenth and its last digit
pub decimal_high : (n : ℕ) → 10 ≤ n → decimal n ≡ decimal (n / 10) ++ (digit (n % 10) ∷ [])
unfolding decimal
decimal_high n h =
    digits_high n n h
    ∙ ap (λ (l : List ℕ). l ++ (digit (n % 10) ∷ []))
    (digits_room n (suc (n / 10)) (n / 10) (omega arith) (omega arith))

-- a digit behind a number that is not 0
pub decimal_more : (v d : ℕ) → 0 < v → d < 10 → decimal (10 * v + d) ≡ decimal v ++ (digit d ∷ [])
decimal_more v d h k =
    let q : (10 * v + d) / 10 ≡ v = omega arith in
    let r : (10 * v + d) % 10 ≡ d = omega arith in
    decimal_high (10 * v + d) (omega arith) ∙ ap₂ (λ (a b : ℕ). decimal a ++ (digit b ∷ [])) q r
