-- The list of a section's records: its length, and the record at an index.
use Prim.Native.Nat.{ℕ, zero, suc, ◌*◌, ◌<◌, ◌≤◌}
use mathlib.Core.Path.{◌≡◌, refl, ap, sym, ◌∙◌}
use mathlib.Core.List.{List, [], ◌∷◌}
use native.Mathlib.Decide.{dec_lt}
use native.Mathlib.Nat.{mul-suc, add_comm, mul-zero}
use native.Mathlib.Omega.{arith}
use lib.ListN.{length, get_or, drop, drop_of_length-le, get_or-eq_default}
use lib.Seq.{drop-drop, drop-cons}
use Rattle.table.specs.Table.{records, record_width}

module _ {A : Type 0} (read : List ℕ → A) (width : ℕ) where
  pub records-length : (count : ℕ) (bytes : List ℕ) → length (records read width count bytes) ≡ count
  unfolding records
  records-length zero bytes = refl
  records-length (suc k) bytes = ap suc (records-length k (drop width bytes))

  pub records_at : (count : ℕ) (bytes : List ℕ) (i : ℕ) (d : A) → i < count
      → get_or (records read width count bytes) i d ≡ read (drop (width * i) bytes)
  unfolding records
  records_at zero bytes i d h = absurd (omega arith)
  records_at (suc k) bytes zero d h = rw mul-zero
  records_at (suc k) bytes (suc i) d h =
      records_at k (drop width bytes) i d (omega arith)
      ∙ ap read (drop-drop (width * i) width bytes
      ∙ ap (λ (n : ℕ). drop n bytes) (add_comm width (width * i) ∙ sym (mul-suc width i)))

module _ {A : Type 0} (read : List ℕ → A) (width count : ℕ) (bytes : List ℕ) where
  -- the records from i on: the one at i, and the rest
  pub records_next : (i : ℕ) → i < count
      → drop i (records read width count bytes)
      ≡ read (drop (width * i) bytes) ∷ drop (suc i) (records read width count bytes)
  records_next i h =
      drop-cons (records read width count bytes) i (read []) (rw (records-length read width count bytes) h)
      ∙ ap (λ (x : A). x ∷ drop (suc i) (records read width count bytes))
      (records_at read width count bytes i (read []) h)

  pub records_done : (i : ℕ) → count ≤ i → drop i (records read width count bytes) ≡ []
  records_done i h = drop_of_length-le (records read width count bytes) {i = i}
      (rw (records-length read width count bytes) h)

-- the record at any place of a section that is no longer than its count says; past the last it is the record of no
-- bytes
pub record_anywhere : {A : Type 0} (read : List ℕ → A) (count : ℕ) (section : List ℕ) (i : ℕ)
    → length section ≤ record_width * count
    → read (drop (record_width * i) section) ≡ get_or (records read record_width count section) i (read [])
record_anywhere read count section i short = elim (dec_lt i count) [
  | yes h ↦ sym (records_at read record_width count section i (read []) h)
  | no d ↦
      let few : length (records read record_width count section)
      ≤ i = omega (arith, d, records-length read record_width count section) in
      ap read (drop_of_length-le section {i = record_width * i} (omega (arith, d)))
      ∙ sym (get_or-eq_default (records read record_width count section) (read []) {n = i} few)
]
