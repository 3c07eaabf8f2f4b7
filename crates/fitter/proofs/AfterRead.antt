-- What Read answers and leaves, by what it finds in bytes of the longest table's length.
use Prim.Native.Nat.{ℕ, ◌≤◌}
use mathlib.Core.Path.{◌≡◌, refl, sym, subst}
use mathlib.Core.List.{List, ◌++◌}
use native.Mathlib.Omega.{arith}
use Prim.{yes, no}
use native.Mathlib.Decide.{dec_lt}
use lib.ListN.{length, drop}
use Rattle.std.specs.Prelude.{Ok, Err}
use Rattle.table.specs.declared.refusal.Refusal.{Refusal}
use Rattle.table.specs.declared.refusal.Refusal.TheVariants.{ShortBuffer}
use Rattle.table.specs.Verdict.{Verdict}
use Rattle.table.specs.Buffer.{on_accepted}
use Rattle.sheet.specs.Parse.{parse}
use Rattle.reader.specs.Read.{packed, read_verdict, read_result, read_answer, read_buffer}
use Rattle.reader.specs.Exact.{ReadRefused}
use Rattle.reader.proofs.Found.{any_room, read_refused, no_room, room_refused, has_room, exact, accepted_just}
use Rattle.fitter.specs.LentMemory.{ReadLeaves}

module _ (text before : List ℕ) where
  abbrev P : List ℕ
  P = packed (parse text)

  abbrev Leaves : Verdict → Type 0
  Leaves v = ReadLeaves text (read_result v P) before (on_accepted v (P ++ drop (length P) before) before)

  abbrev Done : Type 0
  Done = ReadLeaves text (read_answer text before) before (read_buffer text before)

  refusing : (r : Refusal) → read_verdict text (length before) ≡ Err r → ReadRefused text (length before) r → Done
  refusing r h why =
      subst Leaves (sym h) (record {
        refused = why;
        untouched = refl;
        answered = accepted_just text (length before) (Err r) h P;
        written = tt;
      })

  accepting : read_verdict text 580 ≡ Ok tt → length P ≤ length before → Done
  accepting ok fits =
      subst Leaves (sym (has_room text ok refl (length before) fits)) (record {
        refused = tt;
        untouched = tt;
        answered = accepted_just text (length before) (Ok tt) (has_room text ok refl (length before) fits) P;
        written = exact text ok refl before fits;
      })

  pub read_leaves : Done
  read_leaves = go (read_verdict text 580) refl
    where
      go : (v : Verdict) → read_verdict text 580 ≡ v → Done
      go (Err r) e = refusing r (any_room text (length before) r e) (read_refused text (length before) r e)
      go (Ok tt) e =
          elim (dec_lt (length before) (length P)) [
            | yes short ↦ refusing ShortBuffer (no_room text e refl (length before) short)
                (room_refused text e refl (length before) short)
            | no long ↦ accepting e (omega (arith, long))
          ]
