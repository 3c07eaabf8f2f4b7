-- Runs of stores: one run behind another is one run.
use Prim.Native.Nat.{ℕ, suc, ◌+◌, ◌≤◌}
use mathlib.Core.Path.{◌≡◌, refl, sym, ap, ◌∙◌}
use mathlib.Core.List.{List, [], ◌∷◌, ◌++◌, append_assoc}
use native.Mathlib.Nat.{add-zero, add-suc, suc-add}
use native.Mathlib.Omega.{arith}
use borrow.Rule.Slice.PartMut.{put_mid}
use lib.ListN.{length, length-drop, take, drop, set}
use Rattle.std.proofs.Common.{drop-drop, length-take-le}
use Rattle.std.proofs.lemmas.List.{take-append-drop, drop-append-le}
use lib.Seq.{sets, sets-eq, take_at}

module _ {A : Type 0} where
  -- two runs of stores, the second behind the first
  pub sets_append : (xs ys l : List A) (i : ℕ) → sets l i (xs ++ ys) ≡ sets (sets l i xs) (i + length xs) ys
  sets_append [] ys l i = ap (λ (k : ℕ). sets l k ys) (sym (add-zero i))
  sets_append (x ∷ xs) ys l i =
      sets_append xs ys (set l i x) (suc i)
      ∙ ap (λ (k : ℕ). sets (sets (set l i x) (suc i) xs) k ys) (suc-add i (length xs) ∙ sym (add-suc i (length xs)))

  -- a run of stores from the front on stands at the front
  pub sets_front : (xs l : List A) → length xs ≤ length l → take (length xs) (sets l 0 xs) ≡ xs
  sets_front xs l h =
      let whole : sets l 0 xs ≡ xs ++ drop (0 + length xs) l = sets-eq xs l 0 (omega arith) in
      ap (take (length xs)) whole ∙ take_at xs (drop (0 + length xs) l) (length xs) refl

  -- what is copied into a part is stored there
  pub part_stored : (xs l : List A) (i k : ℕ) → length xs ≡ k → i + k ≤ length l → put_mid i k l xs ≡ sets l i xs
  part_stored xs l i k e h =
      ap (λ (n : ℕ). put_mid i n l xs) (sym e)
      ∙ ap (λ (t : List A). take i l ++ (xs ++ t)) (drop-drop (length xs) i l)
      ∙ sym (append_assoc (take i l) xs (drop (i + length xs) l))
      ∙ sym (sets-eq xs l i (omega arith))

  -- what is stored at the front of a part is stored where the part begins
  pub part_sets : (xs l : List A) (i k : ℕ) {after : List A} → after ≡ sets (take k (drop i l)) 0 xs → length xs ≤ k
      → i + k ≤ length l → put_mid i k l after ≡ sets l i xs
  part_sets xs l i k e few h =
      let behind = drop i l in
      let part = take k behind in
      let n = length xs in
      let long : length part ≡ k = length-take-le k behind (omega (arith, length-drop i l)) in
      let whole : 0 + n ≡ n = omega arith in
      let front : sets part 0 xs ≡ xs ++ drop n part =
      sets-eq xs part 0 (omega arith) ∙ ap (λ (m : ℕ). xs ++ drop m part) whole in
      let rest : drop n part ++ drop k behind ≡ drop (i + n) l =
      sym (drop-append-le n part (drop k behind) (omega arith)) ∙ ap (drop n) (take-append-drop k behind)
      ∙ drop-drop n i l in
      ap (put_mid i k l) (e ∙ front)
      ∙ ap (λ (t : List A). take i l ++ t)
      (append_assoc xs (drop n part) (drop k behind) ∙ ap (λ (t : List A). xs ++ t) rest)
      ∙ sym (append_assoc (take i l) xs (drop (i + n) l))
      ∙ sym (sets-eq xs l i (omega arith))
