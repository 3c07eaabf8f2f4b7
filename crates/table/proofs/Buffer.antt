-- Writing values to the front of a buffer, one after the other.
use Prim.Native.Nat.{ℕ, zero, suc, ◌+◌, ◌-◌, ◌≤◌, ◌<◌}
use mathlib.Core.Path.{◌≡◌, refl, sym, ap, ◌∙◌}
use mathlib.Core.List.{List, [], ◌∷◌, ◌++◌, append_assoc, append-nil}
use native.Mathlib.Nat.{le_of_suc-le-suc, not-suc-le-zero}
use native.Mathlib.Numerals.{add-one}
use native.Mathlib.Omega.{arith}
use lib.ListN.{length, get_or, take, drop, set, length-append, length-drop, get_or-append}
use lib.Seq.{
  length-take-le,
  take-length,
  get_or-drop,
  get_or-append-add,
  drop-drop,
  drop-length,
  take-append_seam,
  drop-append_seam,
}
use Rattle.table.specs.Buffer.{over, Written}

module _ {A : Type 0} where
  next : (i : ℕ) (vs buffer : List A) (d : A) → i < length vs → i < length buffer
      → set (over i vs buffer) i (get_or vs i d) ≡ over (suc i) vs buffer
  next i [] buffer d h l = absurd (not-suc-le-zero h)
  next i (v ∷ vs) [] d h l = absurd (not-suc-le-zero l)
  next zero (v ∷ vs) (b ∷ bs) d h l = refl
  next (suc i) (v ∷ vs) (b ∷ bs) d h l =
      ap (λ (xs : List A). v ∷ xs) (next i vs bs d (le_of_suc-le-suc h) (le_of_suc-le-suc l))

  -- one value more
  pub over_next : (i : ℕ) (vs buffer : List A) (d : A) → i < length vs → i < length buffer
      → set (over i vs buffer) i (get_or vs i d) ≡ over (i + 1) vs buffer
  over_next i vs buffer d h l = next i vs buffer d h l ∙ ap (λ (k : ℕ). over k vs buffer) (sym (add-one i))

  pub over-length : (i : ℕ) (vs buffer : List A) → i ≤ length vs → i ≤ length buffer
      → length (over i vs buffer) ≡ length buffer
  over-length i vs buffer h l =
      omega (arith, length-append (take i vs) (drop i buffer), length-take-le i vs h, length-drop i buffer)

  -- all values
  pub over-all : (vs buffer : List A) → over (length vs) vs buffer ≡ vs ++ drop (length vs) buffer
  over-all vs buffer = ap (λ (xs : List A). xs ++ drop (length vs) buffer) (take-length vs)

  -- ---- values written behind others, into the part of the buffer from there on

  behind_size : (xs rest : List A) → length (xs ++ rest) - length xs ≡ length rest
  behind_size xs rest = omega (arith, length-append xs rest)

  -- the part that is lent
  pub part_behind : (xs rest : List A) → take (length (xs ++ rest) - length xs) (drop (length xs) (xs ++ rest)) ≡ rest
  part_behind xs rest = (λ i. take (behind_size xs rest i) (drop-append_seam xs rest i)) ∙ take-length rest

  -- and the whole when the part comes back
  pub put_behind : (xs rest after : List A)
      → take (length xs) (xs ++ rest)
      ++ (after ++ drop (length (xs ++ rest) - length xs) (drop (length xs) (xs ++ rest))) ≡ xs ++ after
  put_behind xs rest after =
      (λ i. take-append_seam xs rest i ++ (after ++ drop (behind_size xs rest i) (drop-append_seam xs rest i)))
      ∙ ap (λ (end : List A). xs ++ (after ++ end)) (drop-length rest)
      ∙ ap (λ (all : List A). xs ++ all) (append-nil after)

  -- values in front, and others behind them, are all of them in front
  pub front_behind : (xs ys buffer : List A)
      → xs ++ (ys ++ drop (length ys) (drop (length xs) buffer)) ≡ xs ++ ys ++ drop (length (xs ++ ys)) buffer
  front_behind xs ys buffer =
      ap (λ (rest : List A). xs ++ (ys ++ rest))
      (drop-drop (length ys) (length xs) buffer ∙ ap (λ (k : ℕ). drop k buffer) (sym (length-append xs ys)))
      ∙ sym (append_assoc xs ys (drop (length (xs ++ ys)) buffer))

-- values in front of the rest, entry by entry
pub front_written : (values before : List ℕ) (k : ℕ) → length values ≡ k → k ≤ length before
    → Written values before (values ++ drop k before)
front_written values before k size fits = record {
  size = omega (arith, length-append values (drop k before), length-drop k before);
  front = λ j h. get_or-append values (drop k before) 0 j h;
  rest = λ j h.
      let past : j ≡ length values + (j - k) = omega arith in
      let whole : k + (j - k) ≡ j = omega arith in
      ap (λ (i : ℕ). get_or (values ++ drop k before) i 0) past
      ∙ get_or-append-add values (drop k before) (j - k) 0
      ∙ get_or-drop k before (j - k) 0
      ∙ ap (λ (i : ℕ). get_or before i 0) whole;
}

pub over-written : (k : ℕ) (values before : List ℕ) → k ≤ length values → k ≤ length before
    → Written (take k values) before (over k values before)
over-written k values before h l = front_written (take k values) before k (length-take-le k values h) l
