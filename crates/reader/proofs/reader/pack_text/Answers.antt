-- `pack_text` meets its contract: each way out has decided the tests up to its own.
use Prim.Native.Nat.{ℕ, ◌≤◌}
use mathlib.Core.Path.{◌≡◌, sym, ap, ◌∙◌}
use mathlib.Core.List.{List}
use Rattle.std.specs.Prelude.{Some}
use native.Mathlib.Omega.{arith}
use lib.ListN.{length, take, replicate, length-replicate}
use lib.Seq.{sets}
use Rattle.table.specs.Table.{packed_length}
use Rattle.sheet.specs.Form.{Sheet, InRange}
use Rattle.sheet.specs.Parse.{parse}
use Rattle.reader.specs.Read.{pack}
use Rattle.sheet.proofs.Whole.{parse_exact}
use Rattle.reader.proofs.PackedSheet.{pack-length}
use Rattle.reader.proofs.Stores.{sets_front}
use Rattle.reader.proofs.ReadGives.{not_of_form, table_refused, too_long}
use Rattle.reader.proofs.reader.pack_text.Goals as goal

-- the lent bytes at first
abbrev zeros : List ℕ
zeros = replicate 580 0

module _ (text : List ℕ) {v : Sheet} (e : Some v ≡ parse text) where
  in_range : InRange v
  in_range = ((parse_exact text v).0 (sym e)).0

  module _ {n : ℕ} (k : n ≡ packed_length v.counts) where
    -- the length is the packed sheet's
    len : n ≡ length (pack v)
    len = k ∙ sym (pack-length v in_range)

    -- the filled part is the packed sheet
    stored : n ≤ 580 → {before after : List ℕ} → before ≡ zeros → after ≡ sets before 0 (pack v) → take n after ≡ pack v
    stored h z a =
        let few : length (pack v) ≤ length zeros = omega (arith, len, length-replicate {A = ℕ} 580 0) in
        ap (take n) (a ∙ ap (λ (l : List ℕ). sets l 0 (pack v)) z)
        ∙ ap (λ (m : ℕ). take m (sets zeros 0 (pack v))) len ∙ sets_front (pack v) zeros few

pub returns-in_default : goal.returns-in_default
returns-in_default c = not_of_form c.args.text.now 580 (sym c.in_default.ensures)

pub packed_length-length-requires : goal.packed_length-length-requires
packed_length-length-requires c =
    let r = (in_range c.args.text.now c.in-Some.ensures).counts in
    (omega (arith, r.states), (omega (arith, r.steps), omega (arith, r.nodes)))

pub returns-then-length-gt-LONGEST : goal.returns-then-length-gt-LONGEST
returns-then-length-gt-LONGEST c =
    let text = c.args.text.now in
    let p = c.in-Some.ensures in
    let n = c.packed_length-length.ensures in
    table_refused text 580 _ (sym p) _ (too_long _ (in_range text p) (omega arith))

pub pack_sheet-requires : goal.pack_sheet-requires
pack_sheet-requires c =
    let n = c.packed_length-length.ensures in
    record { in_range = in_range c.args.text.now c.in-Some.ensures; counts_in_bounds = omega arith }

pub returns : goal.returns
returns c =
    let text = c.args.text.now in
    let p = c.in-Some.ensures in
    let n = c.packed_length-length.ensures in
    let fits = c.if-length-gt-LONGEST.false in
    (omega (arith, fits), (_, sym p, stored text p n fits c.requires c.pack_sheet.ensures))
