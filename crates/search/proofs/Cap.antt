-- The search under a cap is the search without one, cut at the cap; and without one it never reaches a cap and makes
-- few choices.
use Prim.Native.Nat.{ℕ, suc, ◌+◌, ◌-◌, ◌^◌, ◌≤◌, ◌<◌, zero-le}
use native.Mathlib.Nat.{pow-suc}
use native.Mathlib.Omega.{arith}
use mathlib.Core.Path.{◌≡◌, refl, sym, ap, ◌∙◌}
use mathlib.Core.Bool.{Bool, true, false}
use mathlib.Core.List.{List, [], ◌∷◌}
use borrow.Author.Tests.{eqb-true, eqb-false}
use lib.Dec.{eqb}
use lib.ListN.{length}
use lib.Pow.{pow_pos}
use Rattle.circuit.specs.Logic.{Literal, pos, neg}
use Rattle.closure.specs.Computed.{Marks, mark_at, is_known, Progress, clash, marked, settled_below}
use Rattle.search.specs.Search.{
  Best,
  unfound,
  find,
  undercuts,
  Walked,
  passed,
  cut,
  spent,
  outcome_of,
  capped,
  uncapped,
  pursue,
  walk,
  walk_all,
  search,
}
use Rattle.search.specs.Right.{choices, settled}
use Rattle.search.proofs.Step.{pursued, chosen, and_then, walk_known, walk_unknown}

-- the choices made by the end
abbrev pub made : Walked → ℕ
made (passed b c) = c
made (cut c) = c

choices_made : (k : ℕ) (w : Walked) → choices (outcome_of k w) ≡ made w
choices_made k (passed unfound c) = refl
choices_made k (passed (find m p) c) = refl
choices_made k (cut c) = refl

-- the settled steps are those it is given
pub settled_given : (k : ℕ) (w : Walked) → settled (outcome_of k w) ≡ k
settled_given k (passed unfound c) = refl
settled_given k (passed (find m p) c) = refl
settled_given k (cut c) = refl

-- ---- without a cap

-- what a search without a cap gives, from a count on, over so many steps: it is not cut, and its choices are bounded
pub record Uncut (count size : ℕ) (w : Walked) : Type 0 where
  pub uncut : (c : ℕ) → ¬ (w ≡ cut c)
  pub least : count ≤ made w
  pub most : made w + 2 ≤ count + 2 ^ suc size

passed_cut : (b : Best) (c d : ℕ) → ¬ (passed b c ≡ cut d)
passed_cut b c d e = let z : ◌≡◌ {A = ℕ} 0 1 = cc in omega arith

-- all is tried with no choice more
passed_uncut : (b : Best) (count size : ℕ) → Uncut count size (passed b count)
passed_uncut b count size = record {
  uncut = passed_cut b count;
  least = omega arith;
  most = omega (arith, pow-suc 2 size, pow_pos size);
}

-- the bound with one step more to pass
step_more : (count size : ℕ) (w : Walked) → Uncut count size w → Uncut count (suc size) w
step_more count size w u = record { uncut = u.uncut; least = u.least; most = omega (arith, pow-suc 2 (suc size)) }

module _ (size : ℕ) (onward : List (Literal ℕ) → Marks → Best → ℕ → Walked)
    (h : (Q : List (Literal ℕ)) (m : Marks) (b : Best) (c : ℕ) → Uncut c size (onward Q m b c)) where
  pursued_uncut : (p : Progress) (cheap : Marks → Bool) (Q : List (Literal ℕ)) (b : Best) (count : ℕ)
      → Uncut count size (pursued p cheap Q b count onward)
  pursued_uncut clash cheap Q b count = passed_uncut b count size
  pursued_uncut (marked m new) cheap Q b count = by (cheap m)
    where
      by : (x : Bool) → Uncut count size (elim x [ true ↦ onward Q m b count | false ↦ passed b count ])
      by true = h Q m b count
      by false = passed_uncut b count size

  -- one choice
  chosen_uncut : (p : Progress) (cheap : Marks → Bool) (Q : List (Literal ℕ)) (b : Best) (count : ℕ)
      → Uncut (suc count) size (chosen false p cheap Q b count onward)
  chosen_uncut p cheap Q b count = pursued_uncut p cheap Q b (suc count)

-- both choices of a step
both_uncut : (count size : ℕ) (w : Walked) (more : Best → ℕ → Walked) → Uncut (suc count) size w
    → ((b : Best) (c : ℕ) → Uncut (suc c) size (more b c))
    → Uncut count (suc size) (and_then w more)
both_uncut count size (passed b c) more u h =
    record {
      uncut = (h b c).uncut;
      least = omega (arith, (h b c).least);
      most = omega (arith, (h b c).most, pow-suc 2 (suc size));
    }
both_uncut count size (cut c) more u h = absurd (u.uncut c refl)

module _ (close : List (Literal ℕ) → Progress) (price : Marks → ℕ) where
  -- the walk without a cap is never cut, and over n steps makes at most 2 ^ (n + 1) - 2 choices more
  pub walk_uncut : (steps : List ℕ) (P : List (Literal ℕ)) (m : Marks) (b : Best) (count : ℕ)
      → Uncut count (length steps) (walk uncapped close price steps P m b count)
  unfolding walk
  walk_uncut [] P m b count = passed_uncut (find m (price m)) count 0
  walk_uncut (j ∷ js) P m b count = by (is_known (mark_at m j)) refl (walk_uncut js)
    where
      by : (x : Bool) → is_known (mark_at m j) ≡ x
          → ((Q : List (Literal ℕ)) (m' : Marks) (b' : Best) (c : ℕ)
          → Uncut c (length js) (walk uncapped close price js Q m' b' c))
          → Uncut count (suc (length js)) (walk uncapped close price (j ∷ js) P m b count)
      by true e h =
          rw (walk_known uncapped close price j js P m b count e) (step_more count (length js) _ (h P m b count))
      by false e h = rw (walk_unknown uncapped close price j js P m b count e)
          (both_uncut count (length js) _ _
          (chosen_uncut (length js) _ h (close (pos j ∷ P)) (λ n. undercuts (price n) b) (pos j ∷ P) b count)
          (λ b'. chosen_uncut (length js) _ h (close (neg j ∷ P)) (λ n. undercuts (price n) b') (neg j ∷ P) b'))

  search_bound : (steps : List ℕ) → Uncut 0 (length steps) (walk_all uncapped close price steps)
  search_bound steps = pursued_uncut (length steps) (walk uncapped close price steps) (walk_uncut steps) (close [])
      (λ n. true) [] unfound 0

  -- the search without a cap is never spent
  pub search_unspent : (steps : List ℕ) (c k : ℕ) → ¬ (search uncapped close price steps ≡ spent c k)
  unfolding search
  search_unspent steps c k = by (walk_all uncapped close price steps) (search_bound steps).uncut
    where
      by : (w : Walked) → ((d : ℕ) → ¬ (w ≡ cut d))
          → ¬ (outcome_of (settled_below (length steps) (close [])) w ≡ spent c k)
      by (passed unfound d) u e = let z : ◌≡◌ {A = ℕ} 0 1 = cc in omega arith
      by (passed (find m p) d) u e = let z : ◌≡◌ {A = ℕ} 0 1 = cc in omega arith
      by (cut d) u e = u d refl

  -- its choices are at most 2 ^ (e + 1) - 2, of e steps
  pub search_few : (steps : List ℕ) → choices (search uncapped close price steps) ≤ 2 ^ suc (length steps) - 2
  unfolding search
  search_few steps = omega (
    arith,
    (search_bound steps).most,
    choices_made (settled_below (length steps) (close [])) (walk_all uncapped close price steps),
  )

-- ---- under a cap

-- w is f cut at the cap: cut where f makes more choices, else the same
pub data Capped (cap : ℕ) (w f : Walked) : Type 0 where
  over : cap < made f → w ≡ cut cap → Capped cap w f
  within : made f ≤ cap → w ≡ f → Capped cap w f

module _ (cap : ℕ) where
  module _ (size : ℕ) (onward free : List (Literal ℕ) → Marks → Best → ℕ → Walked)
      (same : (Q : List (Literal ℕ)) (m : Marks) (b : Best) (c : ℕ) → c ≤ cap
      → Capped cap (onward Q m b c) (free Q m b c))
      (u : (Q : List (Literal ℕ)) (m : Marks) (b : Best) (c : ℕ) → Uncut c size (free Q m b c)) where
    pursued_capped : (p : Progress) (cheap : Marks → Bool) (Q : List (Literal ℕ)) (b : Best) (count : ℕ) → count ≤ cap
        → Capped cap (pursued p cheap Q b count onward) (pursued p cheap Q b count free)
    pursued_capped clash cheap Q b count h = within h refl
    pursued_capped (marked m new) cheap Q b count h = by (cheap m)
      where
        by : (x : Bool) → Capped cap (elim x [ true ↦ onward Q m b count | false ↦ passed b count ])
            (elim x [ true ↦ free Q m b count | false ↦ passed b count ])
        by true = same Q m b count h
        by false = within h refl

    -- one choice
    chosen_capped : (p : Progress) (cheap : Marks → Bool) (Q : List (Literal ℕ)) (b : Best) (count : ℕ) → count ≤ cap
        → Capped cap (chosen (capped cap count) p cheap Q b count onward) (chosen false p cheap Q b count free)
    chosen_capped p cheap Q b count h = by (capped cap count) refl
      where
        by : (x : Bool) → eqb count cap ≡ x
            → Capped cap (chosen x p cheap Q b count onward) (chosen false p cheap Q b count free)
        by true e =
            let at : count ≡ cap = eqb-true count cap e in
            over (omega (arith, (chosen_uncut size free u p cheap Q b count).least)) (ap cut at)
        by false e = pursued_capped p cheap Q b (suc count) (omega (arith, eqb-false count cap e))

  -- both choices of a step
  both_capped : (w f : Walked) (more free : Best → ℕ → Walked) → Capped cap w f
      → ((b : Best) (c : ℕ) → c ≤ cap → Capped cap (more b c) (free b c))
      → ((b : Best) (c : ℕ) → c < made (free b c)) → Capped cap (and_then w more) (and_then f free)
  both_capped w (passed b c) more free (over h e) same least = over (omega (arith, least b c)) (rw e)
  both_capped w (passed b c) more free (within h e) same least = rw e (same b c h)
  both_capped w (cut c) more free (over h e) same least = over h (rw e)
  both_capped w (cut c) more free (within h e) same least = within h (rw e)

  module _ (close : List (Literal ℕ) → Progress) (price : Marks → ℕ) where
    -- from a count within the cap, the walk under it is the walk without one, cut
    pub walk_capped : (steps : List ℕ) (P : List (Literal ℕ)) (m : Marks) (b : Best) (count : ℕ) → count ≤ cap
        → Capped cap (walk (capped cap) close price steps P m b count) (walk uncapped close price steps P m b count)
    unfolding walk
    walk_capped [] P m b count h = within h refl
    walk_capped (j ∷ js) P m b count h = by (is_known (mark_at m j)) refl (walk_capped js)
      where
        by : (x : Bool) → is_known (mark_at m j) ≡ x
            → ((Q : List (Literal ℕ)) (m' : Marks) (b' : Best) (c : ℕ) → c ≤ cap
            → Capped cap (walk (capped cap) close price js Q m' b' c) (walk uncapped close price js Q m' b' c))
            → Capped cap (walk (capped cap) close price (j ∷ js) P m b count)
            (walk uncapped close price (j ∷ js) P m b count)
        by true e same = rw (
          walk_known (capped cap) close price j js P m b count e,
          walk_known uncapped close price j js P m b count e,
        ) (same P m b count h)
        by false e same = rw (
          walk_unknown (capped cap) close price j js P m b count e,
          walk_unknown uncapped close price j js P m b count e,
        )
            (both_capped _ _ _ _
            (chosen_capped _ _ _ same (walk_uncut close price js) (close (pos j ∷ P)) (λ n. undercuts (price n) b)
            (pos j ∷ P) b count h)
            (λ b'. chosen_capped _ _ _ same (walk_uncut close price js) (close (neg j ∷ P))
            (λ n. undercuts (price n) b') (neg j ∷ P) b')
            (λ b' c. (chosen_uncut _ _ (walk_uncut close price js) (close (neg j ∷ P)) (λ n. undercuts (price n) b')
            (neg j ∷ P) b' c).least))

    -- and so is what comes of P
    pub pursue_capped : (steps : List ℕ) (P : List (Literal ℕ)) (b : Best) (count : ℕ) → count ≤ cap
        → Capped cap (pursue close price P b count (walk (capped cap) close price steps))
        (pursue close price P b count (walk uncapped close price steps))
    pursue_capped steps P b =
        pursued_capped (length steps) (walk (capped cap) close price steps) (walk uncapped close price steps)
        (walk_capped steps) (walk_uncut close price steps)
        (close P) (λ n. undercuts (price n) b) P b

-- the choices of what is cut are within the cap
pub capped_made : {cap : ℕ} {w f : Walked} → Capped cap w f → made w ≤ cap
capped_made (over h e) = rw e (omega arith)
capped_made (within h e) = rw e h

module _ (close : List (Literal ℕ) → Progress) (price : Marks → ℕ) (steps : List ℕ) (cap : ℕ) where
  under : Walked
  under = walk_all (capped cap) close price steps

  free : Walked
  free = walk_all uncapped close price steps

  whole : Capped cap under free
  unfolding under free
  whole = pursue_capped cap close price steps [] unfound 0 zero-le

  -- the number of settled steps, which no cap changes
  first : ℕ
  first = settled_below (length steps) (close [])

  -- where the search without a cap makes more choices than the cap, the one under it is spent, at the cap
  pub search_cut : cap < choices (search uncapped close price steps)
      → search (capped cap) close price steps ≡ spent cap (settled (search uncapped close price steps))
  unfolding search under free first
  search_cut more = by whole
    where
      by : Capped cap under free → outcome_of first under ≡ spent cap (settled (outcome_of first free))
      by (over h e) = ap (outcome_of first) e ∙ ap (spent cap) (sym (settled_given first free))
      by (within h e) = absurd (omega (arith, choices_made first free))

  -- where it makes no more, the one under the cap gives the same
  pub search_same : choices (search uncapped close price steps) ≤ cap
      → search (capped cap) close price steps ≡ search uncapped close price steps
  unfolding search under free first
  search_same few = by whole
    where
      by : Capped cap under free → outcome_of first under ≡ outcome_of first free
      by (over h e) = absurd (omega (arith, choices_made first free))
      by (within h e) = ap (outcome_of first) e
