-- Lines read and packed one by one: what is left to store makes of the buffer what all would make of it.
use Prim.Native.Nat.{ℕ, ◌+◌, ◌-◌, ◌<◌}
use mathlib.Core.Path.{◌≡◌, sym, ap, ◌∙◌}
use mathlib.Core.List.{List}
use lib.ListN.{length}
use lib.Seq.{sets}
use Rattle.sheet.specs.Form.{concat_map}
use Rattle.sheet.specs.Parse.{Parser, got, broken}
use Rattle.sheet.specs.Reading.{values}
use Rattle.sheet.proofs.Times.{values_next, values_broken}
use Rattle.reader.proofs.Stores.{sets_append}

module _ {A : Type 0} (p : Parser A) (f : A → List ℕ) where
  -- the buffer with so many lines of the text stored from `to` on
  abbrev pub lines_stored : List ℕ → ℕ → ℕ → List ℕ → List ℕ
  lines_stored buffer to count text = sets buffer to (concat_map f (values count p text))

  module _ (buffer : List ℕ) (to count : ℕ) (text : List ℕ) where
    -- the first line is stored
    pub stored_next : 0 < count → (x : A) (rest : List ℕ) → p text ≡ got x rest → (after : List ℕ)
        → after ≡ sets buffer to (f x)
        → lines_stored after (to + length (f x)) (count - 1) rest ≡ lines_stored buffer to count text
    unfolding concat_map
    stored_next h x rest e after stored =
        ap (λ (b : List ℕ). lines_stored b (to + length (f x)) (count - 1) rest) stored
        ∙ sym (sets_append (f x) (concat_map f (values (count - 1) p rest)) buffer to)
        ∙ ap (λ (xs : List A). sets buffer to (concat_map f xs)) (sym (values_next p count text x rest h e))

    -- nothing is left where the first is broken, and where there is none
    pub stored_broken : p text ≡ broken → buffer ≡ lines_stored buffer to count text
    unfolding concat_map
    stored_broken e = ap (λ (xs : List A). sets buffer to (concat_map f xs)) (sym (values_broken p count text e))

    pub stored-all : 0 ≡ count → buffer ≡ lines_stored buffer to count text
    unfolding concat_map values
    stored-all e = ap (λ (n : ℕ). lines_stored buffer to n text) e
