-- Bytes stored piece by piece: what is left to store makes of the text what all would make of it.
use Prim.Native.Nat.{ℕ, ◌+◌}
use mathlib.Core.Path.{◌≡◌, refl, sym, ap, ap₂, subst, ◌∙◌}
use mathlib.Core.List.{List, [], ◌++◌}
use native.Mathlib.Nat.{add-zero}
use native.Mathlib.Omega.{arith}
use lib.ListN.{length, length-append}
use lib.Seq.{sets, length-sets}
use Rattle.reader.proofs.Stores.{sets_append}
use Rattle.render.specs.Stored.{HasRoom, Stored}

-- of `bytes`, to be stored in `before` from `at` on, `rest` is left, to be stored in `now` from `place` on
pub record Left (before : List ℕ) (at : ℕ) (bytes now : List ℕ) (place : ℕ) (rest : List ℕ) : Type 0 where
  pub size : length now ≡ length before
  pub span : place + length rest ≡ at + length bytes
  pub same : sets now place rest ≡ sets before at bytes

module _ (before : List ℕ) (at : ℕ) (bytes : List ℕ) where
  -- at first all is left
  pub left_all : Left before at bytes before at bytes
  left_all = record { size = refl; span = refl; same = refl }

  module _ (now : List ℕ) (place : ℕ) (part rest : List ℕ) (l : Left before at bytes now place (part ++ rest)) where
    -- the next part has room where all have
    pub left_room : HasRoom before at bytes → HasRoom now place part
    left_room h =
        let a = l.size in
        let b = l.span in
        let c = length-append part rest in
        omega arith

    -- the next part is stored
    pub left_next : (after : List ℕ) (next : ℕ) → Stored now place part after next
        → Left before at bytes after next rest
    left_next after next s =
        let a = l.span in
        let b = s.place in
        let c = length-append part rest in
        record {
          size = ap length s.text ∙ length-sets now place part ∙ l.size;
          span = omega arith;
          same =
              ap₂ (λ (t : List ℕ) (k : ℕ). sets t k rest) s.text b
              ∙ sym (sets_append part rest now place)
              ∙ l.same;
        }

  -- nothing is left
  pub left_done : (now : List ℕ) (place : ℕ) → Left before at bytes now place [] → Stored before at bytes now place
  left_done now place l =
      let a = l.span in
      let zero_left : place + length {A = ℕ} [] ≡ place = add-zero place in
      record { place = sym zero_left ∙ a; text = l.same }

-- the same bytes, written otherwise
pub left_as : (before : List ℕ) (at : ℕ) (bytes now : List ℕ) (place : ℕ) (rest other : List ℕ) → rest ≡ other
    → Left before at bytes now place rest → Left before at bytes now place other
left_as before at bytes now place rest other e l = subst (λ (r : List ℕ). Left before at bytes now place r) e l

-- stored bytes, and the room for them, when the bytes are written otherwise
pub stored_as : (before : List ℕ) (at : ℕ) (bytes other after : List ℕ) (next : ℕ) → bytes ≡ other
    → Stored before at bytes after next → Stored before at other after next
stored_as before at bytes other after next e s = subst (λ (r : List ℕ). Stored before at r after next) e s

pub room_as : (text : List ℕ) (at : ℕ) (bytes other : List ℕ) → bytes ≡ other → HasRoom text at other
    → HasRoom text at bytes
room_as text at bytes other e h = subst (λ (r : List ℕ). HasRoom text at r) (sym e) h

-- bytes stored behind bytes that were stored
pub stored_then : {before mid after xs ys : List ℕ} {at place next : ℕ} → Stored before at xs mid place
    → Stored mid place ys after next → Stored before at (xs ++ ys) after next
stored_then {before} {mid} {after} {xs} {ys} {at} s t =
    let a = s.place in
    let b = t.place in
    record {
      place = omega (arith, length-append xs ys);
      text = t.text ∙ ap₂ (λ (l : List ℕ) (k : ℕ). sets l k ys) s.text a ∙ sym (sets_append xs ys before at);
    }
