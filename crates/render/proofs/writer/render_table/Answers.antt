-- `render_table` meets its contract: each way out has decided the tests up to its own, and the lent buffer is written
-- on the last alone.
use Rattle.std.proofs.Common.{Fits, w8, rules, Ok, Err}
use Prim.Native.Nat.{ℕ, ◌≤◌, ◌<◌}
use mathlib.Core.Path.{◌≡◌, refl, sym, ap, ap₂, subst, ◌∙◌}
use mathlib.Core.List.{List, ◌++◌}
use native.Mathlib.Omega.{arith}
use lib.ListN.{get_or, length, take, drop, replicate, length-replicate}
use lib.Seq.{sets, length-sets, length-take-le}
use Rattle.table.specs.Table.{counts_of}
use Rattle.table.specs.Facts.{IsTable}
use Rattle.table.proofs.Refused.{is_table}
use Rattle.std.specs.Prelude.{IfOk, IfErr}
use Rattle.reader.specs.Read.{ReadResult}
use Rattle.render.specs.Exact.{RenderIsExact, RenderRefused}
use Rattle.table.proofs.Facts.{header_accepted, counts_within}
use Rattle.sheet.specs.Form.{render}
use Rattle.reader.proofs.Stores.{sets_front}
use Rattle.render.specs.Stored.{Stored}
use Rattle.render.specs.Render.{sheet_of}
use Rattle.render.proofs.Left.{stored_as}
use Rattle.render.proofs.Ranges.{sheet_range}
use Rattle.render.proofs.Bounds.{sheet-length}
use Rattle.render.proofs.RenderGives.{not_accepted, no_table, no_room, all-written, exact}
use Rattle.render.proofs.writer.render_table.Goals as goal

-- the writer's own bytes at first
abbrev zeros : List ℕ
zeros = replicate 2318 0

-- l is a table, of bytes
module _ (l : List ℕ) (bytes : (i : ℕ) → Fits w8 (get_or l i 0)) (is : IsTable l) where
  -- so its sheet is short
  short : length (render (sheet_of l)) ≤ 2318
  short =
      let w = counts_within (counts_of l) (header_accepted l ((is_table l).1 is)).0 in
      sheet-length (sheet_of l) (sheet_range l (λ i. (bytes i).fits)) w.few_states w.few_steps w.few_nodes

  module _ {text : List ℕ} {n : ℕ} (s : Stored zeros 0 (render (sheet_of l)) text n) where
    -- the length is the sheet's, and the filled part is the sheet
    len : n ≡ length (render (sheet_of l))
    len = let p = s.place in omega arith

    within : n ≤ length text
    within =
        omega (
          arith,
          len,
          short,
          ap length s.text,
          length-sets zeros 0 (render (sheet_of l)),
          length-replicate {A = ℕ} 2318 0,
        )

    stored : take n text ≡ render (sheet_of l)
    stored =
        let few : length (render (sheet_of l)) ≤ length zeros = omega (arith, short, length-replicate {A = ℕ} 2318 0) in
        ap (take n) s.text
        ∙ ap (λ (k : ℕ). take k (sets zeros 0 (render (sheet_of l)))) len
        ∙ sets_front (render (sheet_of l)) zeros few

-- the sheet of the table m, which is l, was stored
stored_of : {m l : List ℕ} → m ≡ l → {text : List ℕ} {n : ℕ} → Stored zeros 0 (render (sheet_of m)) text n
    → Stored zeros 0 (render (sheet_of l)) text n
stored_of e s = stored_as _ _ _ _ _ _ (ap (λ (k : List ℕ). render (sheet_of k)) e) s

pub returns-in_err-accepted : goal.returns-in_err-accepted
returns-in_err-accepted c =
    let a = c.args in
    let f = c.in_err-accepted.ensures in
    let r = c.in_err-accepted.field-0.0 in
    let o = not_accepted a.table.now a.out.now r f.0 in
    let e : c.from_residual.result ≡ Err r = search rules in
    let why : IfErr c.from_residual.result (RenderRefused a.table.now (length a.out.now)) =
    subst (λ (x : ReadResult). IfErr x (RenderRefused a.table.now (length a.out.now))) (sym e)
    (no_table a.table.now (length a.out.now) r f.1) in
    let no_text : IfOk c.from_residual.result (λ k. RenderIsExact a.table.now k a.out.now a.out.now) =
    subst (λ (x : ReadResult). IfOk x (λ k. RenderIsExact a.table.now k a.out.now a.out.now)) (sym e) tt in
    record { value = e ∙ o.0; out_after = o.1; refused = why; written = no_text; untouched = search rules }

pub write_sheet-length-requires : goal.write_sheet-length-requires
write_sheet-length-requires c =
    let f = c.in_ok-accepted.ensures in
    let same = ap (λ (k : List ℕ). length (render (sheet_of k))) f.0 in
    omega (arith, same, short c.args.table.now c.type_inv.table f.1, length-replicate {A = ℕ} 2318 0)

pub returns-then-out-length : goal.returns-then-out-length
returns-then-out-length c =
    let a = c.args in
    let f = c.in_ok-accepted.ensures in
    let s = stored_of f.0 c.write_sheet-length.ensures in
    let n = len a.table.now c.type_inv.table f.1 s in
    let few : length a.out.now < length (render (sheet_of a.table.now)) = omega arith in
    let o = no_room a.table.now a.out.now ((is_table a.table.now).1 f.1) few in
    record { value = o.0; out_after = o.1; refused = (f.1, few); written = tt; untouched = refl }

pub slice_bounds-text-end : goal.slice_bounds-text-end
slice_bounds-text-end c =
    let f = c.in_ok-accepted.ensures in
    within c.args.table.now c.type_inv.table f.1 (stored_of f.0 c.write_sheet-length.ensures)

pub slice_bounds-copy_from_slice-end-3 : goal.slice_bounds-copy_from_slice-end-3
slice_bounds-copy_from_slice-end-3 c =
    let f = c.in_ok-accepted.ensures in
    sym (length-take-le c.write_sheet-length.result c.write_sheet-length.new.text
    (within c.args.table.now c.type_inv.table f.1 (stored_of f.0 c.write_sheet-length.ensures)))

pub copy_from_slice-requires : goal.copy_from_slice-requires
copy_from_slice-requires c =
    let f = c.in_ok-accepted.ensures in
    let n = c.write_sheet-length.result in
    let inside = within c.args.table.now c.type_inv.table f.1 (stored_of f.0 c.write_sheet-length.ensures) in
    length-take-le n c.args.out.now c.if-out-length.false ∙ sym (length-take-le n c.write_sheet-length.new.text inside)

pub returns : goal.returns
returns c =
    let l = c.args.table.now in
    let out = c.args.out.now in
    let f = c.in_ok-accepted.ensures in
    let s = stored_of f.0 c.write_sheet-length.ensures in
    let t = stored l c.type_inv.table f.1 s in
    let n = len l c.type_inv.table f.1 s in
    let fits : length (render (sheet_of l)) ≤ length out = omega arith in
    let o = all-written l out ((is_table l).1 f.1) fits in
    let after = ap₂ (λ (x : List ℕ) (k : ℕ). x ++ drop k out) (c.copy_from_slice.ensures.after ∙ t) n in
    record {
      value = ap Ok n ∙ o.0;
      out_after = after ∙ o.1;
      refused = tt;
      written = subst (RenderIsExact l c.write_sheet-length.result out) (sym after)
          (exact l (λ i. (c.type_inv.table i).fits) f.1 out n fits);
      untouched = tt;
    }
