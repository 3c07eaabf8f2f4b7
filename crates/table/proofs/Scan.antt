-- A pass over a list from the front: what a test says of the elements from i on, and of the one at i.
use Prim.Native.Nat.{ℕ, ◌+◌, ◌*◌, ◌<◌}
use mathlib.Core.Path.{◌≡◌, ap, sym, ◌∙◌}
use mathlib.Core.Bool.{Bool, ◌&&◌, ◌||◌}
use mathlib.Core.List.{List, [], ◌∷◌, ◌++◌}
use native.Mathlib.Numerals.{add-one}
use lib.ListN.{length, get_or, take, drop}
use lib.Seq.{drop-cons, take-suc}
use Rattle.table.specs.declared.record.Node.{Node}
use Rattle.table.specs.Table.{records}
use Rattle.table.specs.Accept.{all, any, nodes_fit, node_fits}
use Rattle.table.proofs.Records.{records-length, records_at, records_next}

-- the elements from i on are the one at i and those from i + 1 on
pub drop_next : (xs : List ℕ) (i : ℕ) → i < length xs → drop i xs ≡ get_or xs i 0 ∷ drop (i + 1) xs
drop_next xs i h = drop-cons xs i 0 h ∙ ap (λ (k : ℕ). get_or xs i 0 ∷ drop k xs) (sym (add-one i))

pub all_next : (p : ℕ → Bool) (xs : List ℕ) (i : ℕ) → i < length xs
    → all p (drop i xs) ≡ p (get_or xs i 0) && all p (drop (i + 1) xs)
unfolding all
all_next p xs i h = ap (all p) (drop_next xs i h)

-- the same of a section's records, x the one that was read at i
module _ {A : Type 0} (read : List ℕ → A) (width count : ℕ) (bytes : List ℕ) (i : ℕ) (h : i < count) (x : A)
    (here : x ≡ read (drop (width * i) bytes)) where
  split : drop i (records read width count bytes) ≡ x ∷ drop (i + 1) (records read width count bytes)
  split =
      records_next read width count bytes i h
      ∙ (λ k. sym here k ∷ drop (sym (add-one i) k) (records read width count bytes))

  pub record_all : (p : A → Bool)
      → all p (drop i (records read width count bytes)) ≡ p x && all p (drop (i + 1) (records read width count bytes))
  unfolding all
  record_all p = ap (all p) split

  pub record_any : (p : A → Bool)
      → any p (drop i (records read width count bytes)) ≡ p x || any p (drop (i + 1) (records read width count bytes))
  unfolding any
  record_any p = ap (any p) split

module _ (p : ℕ) (read : List ℕ → Node) (width count : ℕ) (bytes : List ℕ) (i : ℕ) (h : i < count) (x : Node)
    (here : x ≡ read (drop (width * i) bytes)) where
  pub record_nodes : nodes_fit p i (drop i (records read width count bytes))
      ≡ node_fits p i x && nodes_fit p (i + 1) (drop (i + 1) (records read width count bytes))
  unfolding nodes_fit
  record_nodes =
      ap (nodes_fit p i) (split read width count bytes i h x here)
      ∙ ap (λ (k : ℕ). node_fits p i x && nodes_fit p k (drop (i + 1) (records read width count bytes)))
      (sym (add-one i))

-- the records before i + 1 are those before i, and the one at i
module _ {A : Type 0} (read : List ℕ → A) (width count : ℕ) (bytes : List ℕ) (i : ℕ) (h : i < count) (x : A)
    (here : x ≡ read (drop (width * i) bytes)) where
  pub record_take : take (i + 1) (records read width count bytes) ≡ take i (records read width count bytes) ++ (x ∷ [])
  record_take =
      ap (λ (k : ℕ). take k (records read width count bytes)) (add-one i)
      ∙ take-suc (records read width count bytes) i x (rw (records-length read width count bytes) h)
      ∙ ap (λ (y : A). take i (records read width count bytes) ++ (y ∷ []))
      (records_at read width count bytes i x h ∙ sym here)
