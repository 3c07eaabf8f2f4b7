-- What comes of the closure of P, by what the code learns of it.
use Prim.Native.Nat.{ℕ, ◌<◌}
use native.Mathlib.Omega.{arith}
use mathlib.Core.Path.{◌≡◌, sym, ap, ◌∙◌}
use mathlib.Core.Bool.{Bool, true, false, not}
use mathlib.Core.Logic.{◌↔◌}
use mathlib.Core.List.{List, ◌++◌}
use borrow.Author.Tests.{not-true, not-false}
use lib.ListN.{length, take, drop}
use lib.Seq.{take_at}
use Rattle.sets.specs.Member.{lowest_of}
use Rattle.sets.proofs.SetOf.{lowest_of_before, lowest_of-has}
use Rattle.table.specs.Table.{Table}
use Rattle.table.specs.Facts.{Wellformed}
use Rattle.ctl.proofs.Tabulate.{length_tabulate}
use Rattle.circuit.specs.Logic.{Literal}
use Rattle.closure.specs.Computed.{Marks, mark_at, is_known, known, marked}
use Rattle.propagate.specs.Memory.{Memory}
use Rattle.std.specs.Prelude.{Option, None, Some}
use Rattle.closure.specs.Closes.{step_known, is_failed, Closes}
use Rattle.walk.specs.declared.assess.Assessed.TheVariants.{Ended, Unsettled}
use Rattle.search.specs.Search.{Best, find, undercuts}
use Rattle.search.specs.TableSearch.{mark_price}
use Rattle.search.specs.StepRows.{is_unsettled, lowest_unsettled, rows_price, kept_bytes}
use Rattle.search.proofs.Lowest.{lowest_some, lowest_none}
use Rattle.search.specs.Finds.{Held, LeastPrice, beats, Stores}
use Rattle.search.specs.Fine.{Fine, closure_of, step_literals}
use Rattle.walk.specs.Stands.{Resting, Comes}
use Rattle.walk.proofs.Closing.{closed_clash, closed_marked, closed_exact}
use Rattle.walk.proofs.StepMarks.{unsettled_mark, price_mark, list_mark}
use Rattle.walk.proofs.Giving.{stored-beats}
use Rattle.walk.proofs.WalkOn.{walk_settled, search_clash, search_dear, search_marked}

module _ (T : Table) (wf : Wellformed T) (P : List (Literal ℕ)) (fine : Fine (length T.steps) P)
    (c : Option ℕ) (M : Memory) (closes : Closes T (step_literals P) c M) (rest : is_failed c ≡ false
    → Resting T M) (best : Held) (bytes : List ℕ) (b : Best) (stores : Stores T b best bytes) where
  -- it fails
  pub comes_failed : is_failed c ≡ true → Comes T best M bytes P b (Ended best)
  comes_failed e = (
    b,
    stores,
    λ cap j made h. search_clash T cap j P b made ((closed_clash T wf P fine c M closes).0 e),
  )

  module _ (e : is_failed c ≡ false) where
    m : Marks
    m = (closed_marked T wf P fine c M closes e).0

    new : Bool
    new = (closed_marked T wf P fine c M closes e).1

    closed : closure_of T P ≡ marked m new
    unfolding m new
    closed = (closed_marked T wf P fine c M closes e).2

    exact : (i : ℕ) (sign : Bool) → i < length T.steps
        → (step_known T M.rows sign i ≡ true) ↔ (mark_at m i ≡ known sign)
    exact = closed_exact T wf P fine c M closes e closed

    -- the rows cost what the marks do
    same_price : (price : ℕ) → price ≡ rows_price T M.rows → (x : Bool) → x ≡ beats price best
        → undercuts (mark_price T m) b ≡ x
    same_price price p x q =
        ap (λ (k : ℕ). undercuts k b) (sym (p ∙ price_mark T M.rows m exact))
        ∙ sym (stored-beats T b best bytes price stores) ∙ sym q

    -- its struck steps cost too much
    pub comes_dear : (price : ℕ) → price ≡ rows_price T M.rows → false ≡ beats price best
        → Comes T best M bytes P b (Ended best)
    comes_dear price p q = (b, stores, λ cap j made h. search_dear T cap j P b made closed (same_price price p false q))

    -- a step is unsettled in the rows as it is in the marks
    unsettled_at : (i : ℕ) → i < length T.steps → is_unsettled T M.rows i ≡ not (is_known (mark_at m i))
    unsettled_at = unsettled_mark T M.rows m exact

    settled_before : (i : ℕ) → i < length T.steps → i < lowest_of (length T.steps) (is_unsettled T M.rows)
        → is_known (mark_at m i) ≡ true
    settled_before i h l =
        not-false _ (sym (unsettled_at i h) ∙ lowest_of_before (length T.steps) (is_unsettled T M.rows) i l)

    module _ (price : ℕ) (p : price ≡ rows_price T M.rows) (cheap : true ≡ beats price best)
      where
        low : ℕ
        low = lowest_of (length T.steps) (is_unsettled T M.rows)

        -- it settles every step
        pub comes_found : None ≡ lowest_unsettled T M.rows → (after : List ℕ)
            → after ≡ kept_bytes T M.rows ++ drop (length T.steps) bytes
            → Comes T best M after P b (Ended (LeastPrice price))
        comes_found none after written = (
          find m (mark_price T m),
          (
            p ∙ price_mark T M.rows m exact,
            ap (take (length T.steps)) written
                ∙ take_at (kept_bytes T M.rows) (drop (length T.steps) bytes) (length T.steps)
                (length_tabulate (length T.steps) _) ∙ list_mark T M.rows m exact,
          ),
          λ cap i made l. search_marked T cap i P b made closed (same_price price p true cheap)
              ∙ walk_settled T cap P m b made i l
              (λ x k. settled_before x k
              (let h = lowest_none (length T.steps) (is_unsettled T M.rows) none in omega arith)),
        )

        -- it leaves a step unsettled
        pub comes_unsettled : (j : ℕ) → Some j ≡ lowest_unsettled T M.rows → Comes T best M bytes P b (Unsettled j)
        comes_unsettled j some =
            let known = lowest_some (length T.steps) (is_unsettled T M.rows) j some in
            let here = known.0 in
            let h = known.1 in (
              m,
              record {
                stands = record {
                  fine = fine;
                  new = new;
                  closed = closed;
                  exact = exact;
                  inside = h;
                  settled = λ i l. settled_before i (omega arith) (omega (arith, here));
                  unsettled = not-true _ (sym (unsettled_at j h) ∙ ap (is_unsettled T M.rows) here
                      ∙ lowest_of-has (length T.steps) (is_unsettled T M.rows) (omega arith));
                };
                between = closes.between;
                stores = stores;
              },
              same_price price p true cheap,
              rest e,
            )
