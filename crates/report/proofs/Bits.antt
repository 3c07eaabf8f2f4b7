-- Every entry of the list that Repair leaves in zero bytes is 0 or 1.
use Prim.Native.Nat.{ℕ, zero, suc, ◌+◌, ◌≤◌, ◌<◌, zero-le}
use mathlib.Core.Path.{sym, subst}
use mathlib.Core.List.{List, [], ◌∷◌, ◌++◌, map}
use native.Mathlib.Decide.{dec_lt}
use native.Mathlib.Omega.{arith}
use lib.ListN.{length, get_or, drop, get_or-eq_default}
use lib.Seq.{get_or-drop}
use Rattle.table.specs.Verdict.{Verdict}
use Rattle.std.specs.Prelude.{Ok, Err}
use Rattle.table.specs.Buffer.{on_accepted}
use Rattle.table.specs.Table.{Table, step_at}
use Rattle.ctl.specs.Range.{below}
use Rattle.ctl.specs.Reached.{is_reached, strike}
use Rattle.ctl.proofs.Strike.{strike-length, strike_at, bit_or_0}
use Rattle.closure.specs.Computed.{Marks, mark_at}
use Rattle.search.specs.Search.{Outcome, found, none, spent}
use Rattle.search.specs.TableSearch.{bit_of, list_of}
use Rattle.search.proofs.Agree.{bit_le}
use Rattle.repair.specs.Effect.{written_after}
use Rattle.report.specs.Report.{zeros}

abbrev pub Bits : List ℕ → Type 0
Bits list = (i : ℕ) → get_or list i 0 ≤ 1

bits_append : (xs ys : List ℕ) → Bits xs → Bits ys → Bits (xs ++ ys)
bits_append [] ys h k i = k i
bits_append (x ∷ xs) ys h k zero = h zero
bits_append (x ∷ xs) ys h k (suc i) = bits_append xs ys (λ j. h (suc j)) k i

bits_drop : (n : ℕ) (xs : List ℕ) → Bits xs → Bits (drop n xs)
bits_drop n xs h i = subst (λ (b : ℕ). b ≤ 1) (sym (get_or-drop n xs i 0)) (h (n + i))

pub bits_zeros : (n : ℕ) → Bits (zeros n)
bits_zeros zero i = omega arith
bits_zeros (suc n) zero = omega arith
bits_zeros (suc n) (suc i) = bits_zeros n i

bits_map : (m : Marks) (steps : List ℕ) → Bits (map (λ j. bit_of (mark_at m j)) steps)
bits_map m [] i = omega arith
bits_map m (j ∷ steps) zero = bit_le (mark_at m j)
bits_map m (j ∷ steps) (suc i) = bits_map m steps i

bits_strike : (T : Table) (list : List ℕ) → Bits list → Bits (strike T list)
bits_strike T list h i = go (dec_lt i (length T.steps))
  where
    go : Dec (i < length T.steps) → get_or (strike T list) i 0 ≤ 1
    go (yes l) = rw (strike_at T list i l) (bit_or_0 (is_reached T list (step_at T i).from) (get_or list i 0) (h i))
    go (no d) = rw (get_or-eq_default (strike T list) 0 {n = i} (omega (arith, d, strike-length T list))) zero-le

-- what is written where the search found, and what Repair leaves
outcome_bits : (T : Table) (o : Outcome) (list : List ℕ) → Bits list → Bits (written_after T o list)
outcome_bits T (found m p c k) list h =
    bits_append (strike T (list_of T m)) (drop (length T.steps) list)
    (bits_strike T (list_of T m) (bits_map m (below (length T.steps)))) (bits_drop (length T.steps) list h)
outcome_bits T (none c k) list h = h
outcome_bits T (spent c k) list h = h

pub list_bits : (v : Verdict) (T : Table) (o : Outcome) (list : List ℕ) → Bits list
    → Bits (on_accepted v (written_after T o list) list)
list_bits (Ok tt) T o list h = outcome_bits T o list h
list_bits (Err r) T o list h = h
