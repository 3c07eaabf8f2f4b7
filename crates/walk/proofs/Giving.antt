-- Finds and ends of the code that are those of the search.
use Prim.Native.Nat.{ℕ}
use mathlib.Core.Path.{◌≡◌, refl, sym, ap, subst}
use mathlib.Core.List.{List, ◌++◌}
use lib.Dec.{ltb}
use lib.ListN.{length, drop}
use Rattle.table.specs.Table.{Table}
use Rattle.std.specs.Prelude.{Ok, Err}
use Rattle.search.specs.declared.best.Passed.{Passed}
use Rattle.search.specs.declared.best.Cut.{Cut}
use Rattle.search.specs.declared.choices.Choices.{Choices}
use Rattle.search.specs.declared.answer.Answer.TheVariants.{Found, None, Spent}
use Rattle.search.specs.Search.{Best, unfound, find, undercuts, Walked, passed, cut, outcome_of}
use Rattle.search.specs.Answer.{answer_of, list_after}
use Rattle.search.specs.Finds.{Held, NoFind, LeastPrice, Finished, beats, finished, written, Stores, Gives}
use Rattle.search.proofs.Step.{and_then}

module _ (T : Table) where
  -- the same prices undercut it
  pub stored-beats : (b : Best) (best : Held) (bytes : List ℕ) (price : ℕ) → Stores T b best bytes
      → beats price best ≡ undercuts price b
  stored-beats unfound NoFind bytes price h = refl
  stored-beats unfound (LeastPrice q) bytes price h = absurd h
  stored-beats (find m p) NoFind bytes price h = absurd h
  stored-beats (find m p) (LeastPrice q) bytes price h = ap (ltb price) h.0

  -- of the same end of the search
  pub gives_same : (cap : ℕ) (bytes : List ℕ) (r : Finished) {w v : Walked} → w ≡ v → Gives T cap v bytes r
      → Gives T cap w bytes r
  gives_same cap bytes r e g = subst (λ x. Gives T cap x bytes r) (sym e) g

  -- at the cap, nothing comes after
  pub gives_cut : (cap : ℕ) (w : Walked) (more : Best → ℕ → Walked) (bytes : List ℕ) (c : Cut)
      → Gives T cap w bytes (Err c)
      → Gives T cap (and_then w more) bytes (Err c)
  gives_cut cap (passed b d) more bytes c g = absurd g
  gives_cut cap (cut d) more bytes c g = g

  -- what was passed, with the record of choices
  pub gives-passed : (cap : ℕ) (w : Walked) (bytes : List ℕ) (p : Passed) → Gives T cap w bytes (Ok p)
      → (b : Best) × (w ≡ passed b p.choices.made) × Stores T b p.best bytes × (p.choices.cap ≡ cap)
  gives-passed cap (passed b d) bytes p g = (b, ap (passed b) (sym g.1.0), g.0, g.1.1)
  gives-passed cap (cut d) bytes p g = absurd g

  -- ---- once all is walked

  pub gives-answer : (cap k : ℕ) (w : Walked) (bytes : List ℕ) (r : Finished) → Gives T cap w bytes r
      → finished k r ≡ answer_of (outcome_of k w)
  gives-answer cap k (passed b c) bytes (Ok p) g = told b p.best p.choices g.0 g.1.0
    where
      told : (b : Best) (best : Held) (choices : Choices) → Stores T b best bytes → choices.made ≡ c
          → finished k (Ok (record { best = best; choices = choices })) ≡ answer_of (outcome_of k (passed b c))
      told unfound NoFind choices h e = λ i. None (e i) k
      told unfound (LeastPrice q) choices h e = absurd h
      told (find m p) NoFind choices h e = absurd h
      told (find m p) (LeastPrice q) choices h e = λ i. Found (h.0 i) (e i) k
  gives-answer cap k (passed b c) bytes (Err d) g = absurd g
  gives-answer cap k (cut c) bytes (Ok p) g = absurd g
  gives-answer cap k (cut c) bytes (Err d) g = λ i. Spent (g.0 i) k

  pub gives_list : (cap k : ℕ) (w : Walked) (bytes : List ℕ) (r : Finished) (list : List ℕ) → Gives T cap w bytes r
      → written (length T.steps) r bytes list ≡ list_after T (outcome_of k w) list
  gives_list cap k (passed b c) bytes (Ok p) list g = told b p.best g.0
    where
      told : (b : Best) (best : Held) → Stores T b best bytes
          → written (length T.steps) (Ok (record { best = best; choices = p.choices })) bytes list ≡ list_after T
          (outcome_of k (passed b c)) list
      told unfound NoFind h = refl
      told unfound (LeastPrice q) h = absurd h
      told (find m p) NoFind h = absurd h
      told (find m p) (LeastPrice q) h = ap (λ (l : List ℕ). l ++ drop (length T.steps) list) h.1
  gives_list cap k (passed b c) bytes (Err d) list g = absurd g
  gives_list cap k (cut c) bytes (Ok p) list g = absurd g
  gives_list cap k (cut c) bytes (Err d) list g = refl
