-- Where what a level joins does not fail, G and N are known one way.
use Prim.Native.Nat.{ℕ}
use mathlib.Core.Path.{◌≡◌, sym, ◌∙◌}
use mathlib.Core.Bool.{false, false≢true}
use Rattle.sets.proofs.Laws.{member-zero}
use Rattle.table.specs.declared.operator.Family.{Family}
use Rattle.table.specs.declared.operator.Family.TheVariants.{Release, Until, Eventually, Always}
use Rattle.table.proofs.Bools.{or_neither}
use Rattle.rows.specs.declared.row.Row.{Row}
use Rattle.rows.specs.Row.{ClearAt, clashes}
use Rattle.rows.specs.Words.{SmallRow}
use Rattle.rows.specs.Rules.{row, either_row, join_release, join_always, join_of, inner_of}
use Rattle.rows.proofs.RowLaws.{turned_small, clear_row}
use Rattle.closure.proofs.TurnedRows.{clear_turned}
use Rattle.closure.proofs.RulesSmall.{either_small, release_small, always_small}

none_clear : (s : ℕ) → ClearAt s (row 0 0)
none_clear s e f = false≢true (sym (member-zero s) ∙ e)

release_clear : (l a b N : Row) → SmallRow l → SmallRow a → SmallRow b → SmallRow N
    → (join_release l a b N).fails ≡ false → (s : ℕ)
    → ClearAt s (either_row l a b N) × ClearAt s (join_release l a b N).ahead
release_clear l a b N L A B H e s =
    let p = or_neither (clashes (either_row l a b N)) (clashes (join_release l a b N).ahead) e in (
      clear_row (either_row l a b N) (either_small l a b N L A B H) p.0 s,
      clear_row (join_release l a b N).ahead (release_small l a b N L A B H).ahead p.1 s,
    )

always_clear : (l b N : Row) → SmallRow l → SmallRow b → SmallRow N → (join_always l b N).fails ≡ false → (s : ℕ)
    → ClearAt s (join_always l b N).ahead
always_clear l b N L B H e s = clear_row (join_always l b N).ahead (always_small l b N L B H).ahead e s

pub join_clear : (fam : Family) (l a b N : Row) → SmallRow l → SmallRow a → SmallRow b → SmallRow N
    → (join_of fam l a b N).fails ≡ false → (s : ℕ)
    → ClearAt s (inner_of fam l a b N) × ClearAt s (join_of fam l a b N).ahead
join_clear Release l a b N L A B H e s = release_clear l a b N L A B H e s
join_clear Until l a b N L A B H e s =
    let r = release_clear _ _ _ _ (turned_small false l L) (turned_small false a A) (turned_small false b B)
    (turned_small false N H) e s in
    (clear_turned false _ s r.0, clear_turned false _ s r.1)
join_clear Eventually l a b N L A B H e s = (
  none_clear s,
  clear_turned false _ s
      (always_clear _ _ _ (turned_small false l L) (turned_small false b B) (turned_small false N H) e s),
)
join_clear Always l a b N L A B H e s = (none_clear s, always_clear l b N L B H e s)
