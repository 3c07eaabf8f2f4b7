-- One try of step j, where the search stands: what the code gives is what choosing the step gives, and fewer steps
-- are unsettled.
use Prim.Native.Nat.{ℕ, suc, ◌+◌, ◌≤◌, ◌<◌}
use native.Mathlib.Decide.{dec_lt}
use native.Mathlib.Omega.{arith}
use mathlib.Core.Path.{◌≡◌, refl, sym, ap, subst, ◌∙◌}
use mathlib.Core.Bool.{Bool, true, false, false≢true}
use mathlib.Core.List.{List, ◌∷◌}
use borrow.Author.Tests.{eqb-false}
use lib.Dec.{eqb}
use lib.ListN.{length}
use Rattle.table.specs.Table.{Table}
use Rattle.table.specs.Facts.{Wellformed}
use Rattle.circuit.specs.Logic.{Literal}
use Rattle.circuit.specs.Variables.{variable_count}
use Rattle.closure.specs.Computed.{Marks}
use Rattle.propagate.specs.Memory.{Memory}
use Rattle.closure.specs.Numbered.{numbered_clauses}
use Rattle.closure.proofs.Grow.{closure_keeps}
use Rattle.closure.proofs.Places.{numbered_inside}
use Rattle.search.specs.declared.choices.Choices.{Choices}
use Rattle.std.specs.Prelude.{Some, None, Ok, Err}
use Rattle.search.specs.declared.best.Passed.{Passed}
use Rattle.search.specs.declared.best.Cut.{Cut}
use Rattle.walk.specs.declared.assess.Assessed.{Assessed}
use Rattle.walk.specs.declared.assess.Assessed.TheVariants.{Ended, Unsettled}
use Rattle.search.specs.Search.{Best, Walked, passed}
use Rattle.search.specs.TableSearch.{mark_price}
use Rattle.search.specs.NextCount.{next_count}
use Rattle.search.specs.Finds.{Held, Finished, Stores, Gives}
use Rattle.search.specs.Fine.{Fine, closure_of}
use Rattle.walk.specs.Stands.{
  StandsAt,
  GoesOn,
  Resting,
  Somewhere,
  GivesFrom,
  Comes,
  steps_from,
  walk_from,
  search_from,
  try_from,
}
use Rattle.search.proofs.Step.{and_then}
use Rattle.search.proofs.Cap.{made, pursue_capped, capped_made}
use Rattle.search.proofs.Stand.{Stands, fine_choice, stands_choice}
use Rattle.search.proofs.ByNumber.{fine_within}
use Rattle.search.proofs.ClosureRight.{closure-is_right}
use Rattle.walk.proofs.Giving.{gives_same, gives_cut, gives-passed}
use Rattle.walk.proofs.ChoiceCount.{next_count_some, next_count_none}
use Rattle.walk.proofs.WalkOn.{walk_passed, walk_unsettled, search_marked, choose_capped, choose_next}
use Rattle.walk.proofs.Fewer.{unsettled_steps, unsettled_falls}

-- ---- the try

module _ (T : Table) (wf : Wellformed T) (j : ℕ) (rows : List ℕ) (P : List (Literal ℕ)) (m : Marks)
    (at : StandsAt T j rows P m) (sign : Bool) where
  -- the step, chosen
  abbrev chosen_literal : Literal ℕ
  chosen_literal = record { sign = sign; var = j }

  abbrev Q : List (Literal ℕ)
  Q = chosen_literal ∷ P

  -- where the search stands, as its own laws say it
  stands : Stands (closure-is_right T wf) j P m
  stands = record {
    new = at.new;
    fine = at.fine;
    closed = at.closed;
    held = λ l i. (
      at.fine.within l i,
      closure_keeps (variable_count T) (numbered_clauses T) P (numbered_inside T wf) at.fine.consistent
          (fine_within T at.fine) at.closed i,
    );
    settled = at.settled;
  }

  -- it may be chosen
  pub try_fine : Fine (length T.steps) (record { sign = sign; var = j } ∷ P)
  try_fine = fine_choice (closure-is_right T wf) stands at.inside at.unsettled sign

  -- under a record of choices
  module _ (count : Choices) where
    -- from the cheapest find b
    abbrev tried : Best → Walked
    tried = λ b. try_from T sign count.cap j P b count.made

    -- what was passed is within it
    pub try_within : count.made ≤ count.cap → (b : Best) (bytes : List ℕ) (r : Finished)
        → Gives T count.cap (tried b) bytes r → (p : Passed) → r ≡ Ok p → p.choices.made ≤ p.choices.cap
    try_within h b bytes r g p told = go (eqb count.made count.cap) refl
      where
        back : (b' : Best) × (tried b ≡ passed b' p.choices.made) × Stores T b' p.best bytes
            × (p.choices.cap ≡ count.cap)
        back = gives-passed T count.cap (tried b) bytes p (subst (Gives T count.cap (tried b) bytes) told g)

        ended : tried b ≡ passed back.0 p.choices.made
        ended = back.1

        go : (x : Bool) → eqb count.made count.cap ≡ x → p.choices.made ≤ p.choices.cap
        go true e = omega (
          arith,
          h,
          back.3,
          ap made (sym ended ∙ choose_capped T count.cap (suc j) chosen_literal P b count.made e),
        )
        go false e = omega (
          arith,
          back.3,
          ap made (sym ended ∙ choose_next T count.cap (suc j) chosen_literal P b count.made e),
          capped_made (pursue_capped count.cap (closure_of T) (mark_price T) (steps_from T (suc j)) Q b
              (count.made + 1) (omega (arith, h, eqb-false count.made count.cap e))),
        )

    -- below it
    module _ (more : Choices) (next : Some more ≡ next_count count) (b : Best) where
      below : eqb count.made count.cap ≡ false
      below = (next_count_some count more next).0

      one_more : more ≡ record { made = count.made + 1; cap = count.cap }
      one_more = (next_count_some count more next).1

      -- the choice as a search from what is chosen
      as_search : tried b ≡ search_from T more.cap (suc j) Q b more.made
      as_search =
          choose_next T count.cap (suc j) chosen_literal P b count.made below
          ∙ ap (λ (d : Choices). search_from T d.cap (suc j) Q b d.made) (sym one_more)

      within_cap : count.made ≤ count.cap → more.made ≤ more.cap
      within_cap h = rw one_more (omega (arith, eqb-false count.made count.cap below))

      module _ (best : Held) (M : Memory) (bytes : List ℕ) (assessed : Assessed)
          (comes : Comes T best M bytes Q b assessed) where
        -- the tries of P have ended
        pub try_ended : (after : Held) → assessed ≡ Ended after
            → Gives T count.cap (tried b) bytes (Ok (record { best = after; choices = more }))
        try_ended after told = go (subst (Comes T best M bytes Q b) told comes)
          where
            go : Comes T best M bytes Q b (Ended after)
                → Gives T count.cap (tried b) bytes (Ok (record { best = after; choices = more }))
            go (b', stores, same) =
                gives_same T count.cap bytes (Ok (record { best = after; choices = more }))
                (as_search ∙ same more.cap (suc j) more.made at.inside)
                (stores, (refl, ap (λ (d : Choices). d.cap) one_more))

        -- or a step that is unsettled
        module _ (k : ℕ) (told : assessed ≡ Unsettled k) where
          there : Comes T best M bytes Q b (Unsettled k)
          there = subst (Comes T best M bytes Q b) told comes

          s : StandsAt T k M.rows Q there.0
          s = there.1.stands

          -- the search stands there with fewer steps unsettled, and within the cap
          pub try_goes : count.made ≤ count.cap
              → (unsettled_steps T M.rows < unsettled_steps T rows) × (more.made ≤ more.cap) × Resting T M
              × Somewhere (GoesOn T k M best bytes)
          try_goes h = (
            unsettled_falls T wf j k rows M.rows P m there.0 sign at s,
            within_cap h,
            there.3,
            (Q, there.0, b, there.1),
          )

          -- a later step
          later : suc j ≤ k
          later = go (dec_lt k (suc j))
            where
              go : Dec (k < suc j) → suc j ≤ k
              go (yes l) = absurd (false≢true
                  (sym s.unsettled ∙ (stands_choice
                  (closure-is_right T wf) stands at.inside at.unsettled sign there.0 s.new s.closed).settled k l))
              go (no l) = omega arith

          -- and goes on from there
          pub try_onward : (after : List ℕ) (r : Finished)
              → GivesFrom (GoesOn T k M best bytes) T more.cap (λ R n c. walk_from T more.cap k R n c more.made) after r
              → Gives T count.cap (tried b) after r
          try_onward after r rest =
              gives_same T count.cap after r
              (as_search
              ∙ search_marked T more.cap (suc j) Q b more.made s.closed there.2
              ∙ walk_passed T more.cap Q there.0 b more.made (suc j) k later (omega (arith, s.inside)) s.settled)
              (subst (λ (cap : ℕ). Gives T cap (walk_from T more.cap k Q there.0 b more.made) after r)
              (ap (λ (d : Choices). d.cap) one_more) (rest Q there.0 b there.1))

-- ---- both tries

module _ (T : Table) (count : Choices) (j : ℕ) (rows : List ℕ) (P : List (Literal ℕ)) (m : Marks)
    (at : StandsAt T j rows P m) (b : Best) where
  abbrev kept_try : Walked
  kept_try = try_from T true count.cap j P b count.made

  split : walk_from T count.cap j P m b count.made ≡ and_then kept_try (try_from T false count.cap j P)
  split = walk_unsettled T count.cap P m b count.made j at.inside at.unsettled

  -- at the cap, neither is made
  pub walk_capped : None ≡ next_count count → (bytes : List ℕ)
      → Gives T count.cap (walk_from T count.cap j P m b count.made) bytes (Err (record { choices = count }))
  walk_capped none bytes =
      gives_same T count.cap bytes (Err (record { choices = count }))
      (split
      ∙ ap (λ (w : Walked). and_then w (try_from T false count.cap j P))
      (choose_capped T count.cap (suc j) (record { sign = true; var = j }) P b count.made (next_count_none count none)))
      (refl, refl)

  module _ (bytes : List ℕ) (tried : Finished) (gives : Gives T count.cap kept_try bytes tried) where
    -- the kept try reached the cap
    pub kept_cut : (c : Cut) → tried ≡ Err c
        → Gives T count.cap (walk_from T count.cap j P m b count.made) bytes (Err c)
    kept_cut c told = gives_same T count.cap bytes (Err c) split
        (gives_cut T count.cap kept_try (try_from T false count.cap j P) bytes c
        (subst (Gives T count.cap kept_try bytes) told gives))

    -- or it passed, and the struck try comes after
    module _ (p : Passed) (told : tried ≡ Ok p) where
      pub kept_passed : (b' : Best) × (kept_try ≡ passed b' p.choices.made) × Stores T b' p.best bytes
          × (p.choices.cap ≡ count.cap)
      kept_passed = gives-passed T count.cap kept_try bytes p (subst (Gives T count.cap kept_try bytes) told gives)

      pub kept_then : (after : List ℕ) (r : Finished)
          → ((b' : Best) → Stores T b' p.best bytes
          → Gives T p.choices.cap (try_from T false p.choices.cap j P b' p.choices.made) after r)
          → Gives T count.cap (walk_from T count.cap j P m b count.made) after r
      kept_then after r rest =
          gives_same T count.cap after r
          (split ∙ ap (λ (w : Walked). and_then w (try_from T false count.cap j P)) kept_passed.1)
          (subst (λ (cap : ℕ). Gives T cap (try_from T false cap j P kept_passed.0 p.choices.made) after r)
          kept_passed.3 (rest kept_passed.0 kept_passed.2))
