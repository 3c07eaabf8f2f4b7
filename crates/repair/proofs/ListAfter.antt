-- What the lent list holds after the search and, where it found, after striking.
use Prim.Native.Nat.{ℕ}
use mathlib.Core.Path.{◌≡◌, sym, ap, ◌∙◌}
use mathlib.Core.List.{List, ◌++◌}
use native.Mathlib.Omega.{arith}
use lib.ListN.{length, take, drop}
use lib.Seq.{take_at, drop_at}
use Rattle.table.specs.Table.{Table}
use Rattle.ctl.specs.Reached.{strike}
use Rattle.search.specs.declared.answer.Answer.TheVariants.{Found}
use Rattle.search.specs.Search.{Outcome, found, none, spent}
use Rattle.search.specs.TableSearch.{list_of}
use Rattle.search.specs.Answer.{answer_of, list_after}
use Rattle.repair.specs.Effect.{written_after}
use Rattle.repair.proofs.Listed.{list_size}

module _ (T : Table) (list after : List ℕ) where
  -- found: the first e bytes are struck
  pub after_found : (o : Outcome) (p c k e : ℕ) → Found p c k ≡ answer_of o → after ≡ list_after T o list
      → e ≡ length T.steps
      → (front : List ℕ) → front ≡ strike T (take e after) → front ++ drop e after ≡ written_after T o list
  after_found (found m q d l) p c k e same is here front struck =
      let rest = drop (length T.steps) list in
      let size = list_size T m ∙ sym here in
      (λ j. (struck ∙ ap (strike T) (ap (take e) is ∙ take_at (list_of T m) rest e size)) j
      ++ (ap (drop e) is ∙ drop_at (list_of T m) rest e size) j)
  after_found (none d l) p c k e same is here front struck = absurd (let z : ◌≡◌ {A = ℕ} 0 1 = cc in omega arith)
  after_found (spent d l) p c k e same is here front struck = absurd (let z : ◌≡◌ {A = ℕ} 0 1 = cc in omega arith)
