-- The unit rule at a gate: what a set of literals that is closed under the clauses of an AND has of it, from what it
-- has of the parts, and back. The parts stand in a list, and one that stands there twice counts once.
use mathlib.Core.Path.{◌≡◌, refl, sym, ap, subst}
use mathlib.Core.List.Memᴰ
use mathlib.Core.List.{List, Memᴰ}
use Rattle.circuit.specs.Logic.{Literal, opposite}
use Rattle.circuit.proofs.Lists.{Each, each_more, each_one, each_map}
use Rattle.circuit.proofs.Gate.{opposite_opposite, and_clauses, short_in, long_in}
use Rattle.closure.proofs.Forced.{ClauseClosed}

-- S is closed under the clauses that make h the AND of ls
pub record ClosedAnd {Var : Type 0} (S : Literal Var
    → Type 0) (h : Literal Var) (ls : List (Literal Var)) : Type 0 where
  pub closed : (C : List (Literal Var)) → Memᴰ C (and_clauses h ls) → ClauseClosed S C

module _ {Var : Type 0} (S : Literal Var → Type 0) (l : Literal Var) where
  -- the opposite of the opposite
  pub twice_in : S l → S (opposite (opposite l))
  twice_in = subst S (sym (opposite_opposite l))

  pub in_twice : S (opposite (opposite l)) → S l
  in_twice = subst S (opposite_opposite l)

module _ {Var : Type 0} {S : Literal Var
    → Type 0} {h : Literal Var} {ls : List (Literal Var)} (c : ClosedAnd S h ls) where
  -- all parts are in, and so is the AND
  pub and_up : Each S ls → S h
  and_up ins = c.closed _ (long_in h ls) h (Memᴰ.head refl) (each_more _ h _ (λ other. absurd (other refl))
      (each_map _ opposite ls (λ l m other. twice_in S l (ins l m))))

  -- the AND is in, and so is each part
  pub and_down : (l : Literal Var) → Memᴰ l ls → S h → S l
  and_down l m i = c.closed _ (short_in h ls l m) l (Memᴰ.tail (Memᴰ.head refl))
      (each_more _ (opposite h) _ (λ other. twice_in S h i) (each_one _ l (λ other. absurd (other refl))))

  -- the opposite of a part is in, and so is that of the AND
  pub and-false : (l : Literal Var) → Memᴰ l ls → S (opposite l) → S (opposite h)
  and-false l m i = c.closed _ (short_in h ls l m) (opposite h) (Memᴰ.head refl)
      (each_more _ (opposite h) _ (λ other. absurd (other refl)) (each_one _ l (λ other. i)))

  -- the opposite of the AND is in and so are all other parts: the opposite of the last one is in
  pub and_last : (l : Literal Var) → Memᴰ l ls → S (opposite h) → ((k : Literal Var) → Memᴰ k ls → ¬ (k ≡ l) → S k)
      → S (opposite l)
  and_last l m i others =
      c.closed _ (long_in h ls) (opposite l) (Memᴰ.tail (Memᴰ.map opposite m)) (each_more _ h _ (λ other. i)
      (each_map _ opposite ls (λ k n other. twice_in S k (others k n (λ e. other (ap opposite e))))))
