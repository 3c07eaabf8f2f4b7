-- The laws of reading order: it has every state once, initial ones first and ascending, and what a test picks from it
-- comes in two parts.
use Prim.Native.Nat.{ℕ, ◌<◌}
use mathlib.Core.Path.{◌≡◌, refl, sym, ap, ap₂, ◌∙◌}
use mathlib.Core.Bool.{Bool, true, false, not, ◌&&◌, true≢false}
use mathlib.Core.Logic.{◌↔◌, inl, inr, ⊎_elim}
use mathlib.Core.List.Memᴰ
use mathlib.Core.List.{List, ◌++◌, Memᴰ}
use native.Mathlib.Omega.{arith}
use borrow.Author.Tests.{not-true}
use lib.ListN.{length, length-append}
use Rattle.sets.specs.Member.{member, set_of, count_of}
use Rattle.ctl.specs.Range.{below, select}
use Rattle.ctl.proofs.Select.{in_below, in_select}
use Rattle.label.specs.ReadingOrder.{reading_order, states_with, ReadBefore, InReadingOrder}
use Rattle.label.proofs.Select.{select-append, select-select, select_parts, select_count, select_cong}
use Rattle.label.proofs.Pairwise.{select_pairwise, pairwise_append, pairwise_only, pairwise_map, tabulate_ascending}
use Rattle.label.proofs.Lowest.{set-states}

module _ (initial : ℕ → Bool) where
  -- ---- of two states

  pub one_way : (s t : ℕ) → ReadBefore initial s t → ¬ ReadBefore initial t s
  one_way s t (inl a) (inl b) = true≢false (sym a.0 ∙ b.1)
  one_way s t (inl a) (inr b) = true≢false (sym a.0 ∙ sym b.0 ∙ a.1)
  one_way s t (inr a) (inl b) = true≢false (sym b.0 ∙ sym a.0 ∙ b.1)
  one_way s t (inr a) (inr b) = let l = a.1 in let g = b.1 in omega arith

  -- ---- of the order

  -- states that are alike in being initial, ascending
  part_in_order : (p : ℕ → Bool) (b : Bool) → ((s : ℕ) → p s ≡ true → initial s ≡ b)
      → InReadingOrder initial (select p (below 32))
  part_in_order p b alike =
      pairwise_map ◌<◌ (ReadBefore initial) (select p (below 32))
      (λ x y m n l. inr (
        alike x ((in_select p (below 32) x).0 m).1 ∙ sym (alike y ((in_select p (below 32) y).0 n).1),
        l,
      ))
      (select_pairwise ◌<◌ p (below 32) (tabulate_ascending 32 (λ s. s) (λ i j l. l)))

  pub order_in_order : InReadingOrder initial (reading_order initial)
  order_in_order =
      let others : ℕ → Bool = λ s. not (initial s) in
      pairwise_append (ReadBefore initial) (select initial (below 32)) (select others (below 32))
      (part_in_order initial true (λ s e. e))
      (part_in_order others false (λ s e. not-true (initial s) e))
      (λ x y m n. inl (
        ((in_select initial (below 32) x).0 m).1,
        not-true (initial y) ((in_select others (below 32) y).0 n).1,
      ))

  -- it has all states
  pub order_member : (s : ℕ) → Memᴰ s (reading_order initial) ↔ (s < 32)
  order_member s = (
    λ m. ⊎_elim (λ l. low initial l) (λ r. low others r) (Memᴰ.append_cases (select initial (below 32)) m),
    λ h. go (initial s) refl ((in_below 32 s).1 h),
  )
    where
      others : ℕ → Bool
      others t = not (initial t)

      low : (p : ℕ → Bool) → Memᴰ s (select p (below 32)) → s < 32
      low p m = (in_below 32 s).0 ((in_select p (below 32) s).0 m).0

      go : (b : Bool) → initial s ≡ b → Memᴰ s (below 32) → Memᴰ s (reading_order initial)
      go true e m = Memᴰ.append_left (select others (below 32)) ((in_select initial (below 32) s).1 (m, e))
      go false e m = Memᴰ.append_right (select initial (below 32)) ((in_select others (below 32) s).1 (m, ap not e))

  -- ---- of the states that have p

  module _ (p : ℕ → Bool) where
    -- the initial ones, and behind them the others
    order_parts : states_with (reading_order initial) p
        ≡ select (λ s. p s && initial s) (below 32) ++ select (λ s. p s && not (initial s)) (below 32)
    order_parts =
        select-append p (select initial (below 32)) (select (λ s. not (initial s)) (below 32))
        ∙ ap₂ (λ (xs ys : List ℕ). xs ++ ys) (select-select p initial (below 32))
        (select-select p (λ s. not (initial s)) (below 32))

    -- as many as have p
    pub order_count : length (states_with (reading_order initial) p) ≡ count_of 32 p
    order_count =
        ap length order_parts
        ∙ length-append (select (λ s. p s && initial s) (below 32)) (select (λ s. p s && not (initial s)) (below 32))
        ∙ select_parts p initial (below 32)
        ∙ select_count p 32 (λ s. s)

    pub states_in_order : InReadingOrder initial (states_with (reading_order initial) p)
    states_in_order = select_pairwise (ReadBefore initial) p (reading_order initial) order_in_order

    -- no order is left free: a list that has them and no other, in reading order, is this one
    pub states-only : (states : List ℕ) → ((s : ℕ) → Memᴰ s states ↔ Memᴰ s (states_with (reading_order initial) p))
        → InReadingOrder initial states
        → states ≡ states_with (reading_order initial) p
    states-only states same order =
        pairwise_only (ReadBefore initial) one_way states
        (states_with (reading_order initial) p) order states_in_order same

-- tests that agree on all states
pub order_cong : (i j p q : ℕ → Bool) → ((s : ℕ) → s < 32 → i s ≡ j s) → ((s : ℕ) → s < 32 → p s ≡ q s)
    → states_with (reading_order i) p ≡ states_with (reading_order j) q
order_cong i j p q same-initial same =
    ap (select p) (ap₂ (λ (xs ys : List ℕ). xs ++ ys)
    (select_cong i j (below 32) (λ s m. same-initial s ((in_below 32 s).0 m)))
    (select_cong (λ s. not (i s)) (λ s. not (j s)) (below 32) (λ s m. ap not (same-initial s ((in_below 32 s).0 m)))))
    ∙ select_cong p q (reading_order j) (λ s m. same s ((order_member j s).0 m))

-- of sets: the states that it shares with the initial ones, and behind them the others
pub order_sets : (set initial : ℕ)
    → states_with (reading_order (member initial)) (member set)
    ≡ states_with (below 32) (member (set_of 32 (λ t. member set t && member initial t)))
    ++ states_with (below 32) (member (set_of 32 (λ t. member set t && not (member initial t))))
order_sets set initial =
    order_parts (member initial) (member set)
    ∙ sym (ap₂ (λ (xs ys : List ℕ). xs ++ ys) (set-states (λ t. member set t && member initial t))
    (set-states (λ t. member set t && not (member initial t))))
