-- The cut of bytes into tables, as it is computed, gives tables end to end, and there are no others.
use Prim.Native.Nat.{ℕ, zero, suc, ◌+◌, ◌≤◌, ◌<◌, zero-le, suc-le-suc}
use native.Mathlib.Nat.{not-suc-le-zero, le_of_suc-le-suc}
use native.Mathlib.Omega.{arith}
use mathlib.Core.Path.{◌≡◌, refl, sym, ap, subst, ◌∙◌}
use mathlib.Core.List.{List, [], ◌∷◌, ◌++◌}
use lib.ListN.{length, take, drop, get_or, get_or-append, take-append-drop}
use lib.Seq.{take-append_seam, drop-append_seam}
use Rattle.std.specs.Prelude.{Option, Some, None, Ok, Err}
use Rattle.std.proofs.lemmas.Option.{same_Some, none-some}
use Rattle.table.specs.declared.counts.Counts.{Counts}
use Rattle.table.specs.Verdict.{Verdict}
use Rattle.table.specs.Table.{counts_of, packed_length}
use Rattle.table.specs.Accept.{table_verdict}
use Rattle.table.specs.First.{first_bytes, bytes_behind}
use Rattle.table.proofs.Facts.{header_accepted}
use Rattle.circuit.specs.Variables.{concat}
use Rattle.batch.specs.Effect.{in_front, no_more, tables_in}

-- each of the tables is accepted
unfoldable pub Each : List (List ℕ) → Type 0
Each [] = Unit {0}
Each (t ∷ ts) = (table_verdict t ≡ Ok tt) × Each ts

-- what the cut gives
pub record IsCut (most : ℕ) (bytes : List ℕ) (ts : List (List ℕ)) : Type 0 where
  pub joined : bytes ≡ concat ts
  pub few : length ts ≤ most
  pub each : Each ts

nothing_cut : (most : ℕ) (ts : List (List ℕ)) → ◌≡◌ {A = Option (List (List ℕ))} (Some []) (Some ts)
    → IsCut most [] ts
unfolding concat Each
nothing_cut most ts e = subst (IsCut most []) (same_Some [] ts e) (record { joined = refl; few = zero-le; each = tt })

pub cut : (most : ℕ) (bytes : List ℕ) (ts : List (List ℕ)) → tables_in most bytes ≡ Some ts → IsCut most bytes ts
unfolding tables_in concat Each
cut zero [] ts e = nothing_cut zero ts e
cut zero (b ∷ bs) ts e = absurd (none-some ts e)
cut (suc most) [] ts e = nothing_cut (suc most) ts e
cut (suc most) (b ∷ bs) ts e =
    go (table_verdict first) refl (tables_in most behind) (λ us r. cut most behind us r) e
  where
    first : List ℕ
    first = first_bytes (b ∷ bs)

    behind : List ℕ
    behind = bytes_behind (b ∷ bs)

    go : (v : Verdict) → table_verdict first ≡ v → (rest : Option (List (List ℕ)))
        → ((us : List (List ℕ)) → rest ≡ Some us → IsCut most behind us)
        → in_front first v rest ≡ Some ts → IsCut (suc most) (b ∷ bs) ts
    go (Ok tt) ok (Some us) more h =
        let c = more us refl in
        subst (IsCut (suc most) (b ∷ bs)) (same_Some (first ∷ us) ts h) (record {
          joined = sym (take-append-drop (packed_length (counts_of (b ∷ bs))) (b ∷ bs))
              ∙ ap (λ (xs : List ℕ). first ++ xs) c.joined;
          few = suc-le-suc c.few;
          each = (ok, c.each);
        })
    go (Ok tt) ok None more h = absurd (none-some ts h)
    go (Err q) ok rest more h = absurd (none-some ts h)

-- the first table of accepted bytes with more behind them
module _ (t rest : List ℕ) (ok : table_verdict t ≡ Ok tt) where
  same_counts : 4 ≤ length t → counts_of (t ++ rest) ≡ counts_of t
  same_counts h = λ i. record {
    states = get_or-append t rest 0 0 (omega (arith, h)) i;
    steps = get_or-append t rest 0 1 (omega (arith, h)) i;
    nodes = get_or-append t rest 0 2 (omega (arith, h)) i;
    props = get_or-append t rest 0 3 (omega (arith, h)) i;
  }

  header : 4 ≤ length t
  header = let whole = (header_accepted t ok).1 in omega (arith, whole)

  long : packed_length (counts_of (t ++ rest)) ≡ length t
  long = ap packed_length (same_counts header) ∙ sym (header_accepted t ok).1

  pub first_is : first_bytes (t ++ rest) ≡ t
  first_is = ap (λ (k : ℕ). take k (t ++ rest)) long ∙ take-append_seam t rest

  pub behind_is : bytes_behind (t ++ rest) ≡ rest
  behind_is = ap (λ (k : ℕ). drop k (t ++ rest)) long ∙ drop-append_seam t rest

-- one table in front of what is cut
cut_front : (most : ℕ) (t rest : List ℕ) (ts : List (List ℕ)) → table_verdict t ≡ Ok tt
    → tables_in most rest ≡ Some ts → tables_in (suc most) (t ++ rest) ≡ Some (t ∷ ts)
unfolding tables_in
cut_front most [] rest ts ok e = absurd (let h = header [] rest ok in omega (arith, h))
cut_front most (b ∷ bs) rest ts ok e = (λ i.
    in_front (first_is (b ∷ bs) rest ok i) (table_verdict (first_is (b ∷ bs) rest ok i))
    (tables_in most (behind_is (b ∷ bs) rest ok i)))
    ∙ (λ i. in_front (b ∷ bs) (ok i) (e i))

nothing : (most : ℕ) → tables_in most [] ≡ Some []
unfolding tables_in
nothing zero = refl
nothing (suc most) = refl

-- and the cut finds tables that stand end to end
pub cut_again : (most : ℕ) (ts : List (List ℕ)) → Each ts → length ts ≤ most → tables_in most (concat ts) ≡ Some ts
unfolding concat Each
cut_again most [] each h = nothing most
cut_again zero (t ∷ ts) each h = absurd (not-suc-le-zero h)
cut_again (suc most) (t ∷ ts) each h =
    cut_front most t (concat ts) ts each.0 (cut_again most ts each.1 (le_of_suc-le-suc h))
