-- One gate: an assignment makes the clauses of a gate true just when it gives the output the gate's value. An AND
-- gate makes its output the AND of its inputs, and an OR gate the opposite of its output the AND of their opposites:
-- so both are one literal that is the AND of a list of literals.
use mathlib.Core.Path.{◌≡◌, refl, sym, ap, ap₂, ◌∙◌}
use mathlib.Core.Bool.{Bool, true, false, not, cond, ◌&&◌, ◌||◌, beq, not-not, true≢false, false≢true}
use mathlib.Core.Logic.Iff
use mathlib.Core.Logic.{◌↔◌}
use mathlib.Core.List.Memᴰ
use mathlib.Core.List.{List, [], ◌∷◌, ◌++◌, map, map-map, Memᴰ}
use borrow.Author.Tests.{not-true}
use Rattle.table.specs.Accept.{all as all_of, any as any_of}
use Rattle.ctl.specs.Rule.{every, some}
use Rattle.ctl.proofs.Tabulate.{all_true, all-false}
use Rattle.circuit.specs.Logic.{Literal, pos, neg, opposite, Gate, all, any, gate_clauses, Makes, Satisfies}
use Rattle.circuit.proofs.Lists.{Each, each_more, each_one, each_append, each_map}
use Rattle.circuit.proofs.Quantified.{quantified_same}

-- whether x is the sign: x itself, or its opposite
pub beq_sign : (x sign : Bool) → beq x sign ≡ cond sign x (not x)
beq_sign true true = refl
beq_sign true false = refl
beq_sign false true = refl
beq_sign false false = refl

not_same : (x y : Bool) → (not x ≡ not y) ↔ (x ≡ y)
not_same x y = (λ e. sym (not-not x) ∙ ap not e ∙ not-not y, ap not)

module _ {Var : Type 0} where
  -- ---- literals

  -- the opposite of the opposite
  pub opposite_opposite : (l : Literal Var) → opposite (opposite l) ≡ l
  opposite_opposite l = λ i. record { sign = not-not l.sign i; var = l.var }

  module _ (α : Var → Bool) where
    -- whether α makes a literal true
    abbrev pub makes : Literal Var → Bool
    makes l = beq (α l.var) l.sign

    -- it says so
    pub makes_true : (l : Literal Var) → (makes l ≡ true) ↔ Makes α l
    makes_true l = go (α l.var) l.sign
      where
        go : (x y : Bool) → (beq x y ≡ true) ↔ (x ≡ y)
        go true true = (λ e. refl, λ e. refl)
        go true false = (λ e. absurd (false≢true e), λ e. absurd (true≢false e))
        go false true = (λ e. absurd (false≢true e), λ e. absurd (false≢true e))
        go false false = (λ e. refl, λ e. refl)

    -- a literal or its opposite
    pub makes_opposite : (l : Literal Var) → makes (opposite l) ≡ not (makes l)
    makes_opposite l = go (α l.var) l.sign
      where
        go : (x y : Bool) → beq x (not y) ≡ not (beq x y)
        go true true = refl
        go true false = refl
        go false true = refl
        go false false = refl

    -- a literal is false where its opposite is true, and back
    opposite_false : (l : Literal Var) → Makes α (opposite l) → makes l ≡ false
    opposite_false l t = not-true (makes l) (sym (makes_opposite l) ∙ (makes_true (opposite l)).1 t)

    false_opposite : (l : Literal Var) → makes l ≡ false → Makes α (opposite l)
    false_opposite l f = (makes_true (opposite l)).0 (makes_opposite l ∙ ap not f)

    -- a clause with a true literal
    abbrev pub Holds : List (Literal Var) → Type 0
    Holds C = (l : Literal Var) × Memᴰ l C × Makes α l

    -- the value of a gate
    unfoldable pub gate_value : Gate Var → Bool
    gate_value (all ls) = all_of makes ls
    gate_value (any ls) = any_of makes ls

  -- ---- a gate as a literal that is an AND

  -- the clauses that make h the AND of ls
  abbrev pub and_clauses : Literal Var → List (Literal Var) → List (List (Literal Var))
  and_clauses h ls = map (λ l. opposite h ∷ l ∷ []) ls ++ ((h ∷ map opposite ls) ∷ [])

  -- the literal of the output that is an AND
  abbrev pub head_of : Var → Gate Var → Literal Var
  head_of g (all ls) = pos g
  head_of g (any ls) = neg g

  -- and those that it is the AND of: the inputs of an AND gate, the opposites of those of an OR gate
  abbrev pub parts_of : Gate Var → List (Literal Var)
  parts_of (all ls) = ls
  parts_of (any ls) = map opposite ls

  opposites_back : (ls : List (Literal Var)) → map opposite (map opposite ls) ≡ ls
  opposites_back [] = refl
  opposites_back (l ∷ ls) = ap₂ {C = List (Literal Var)} ◌∷◌ (opposite_opposite l) (opposites_back ls)

  -- the clauses of a gate are those of an AND
  pub gate_clauses_lem : (g : Var) (G : Gate Var) → gate_clauses g G ≡ and_clauses (head_of g G) (parts_of G)
  unfolding gate_clauses
  gate_clauses_lem g (all ls) = refl
  gate_clauses_lem g (any ls) =
      rw (map-map (λ (l : Literal Var). opposite (neg g) ∷ l ∷ []) opposite ls, opposites_back ls)

  -- the inputs of a gate
  abbrev pub inputs : Gate Var → List (Literal Var)
  inputs (all ls) = ls
  inputs (any ls) = ls

  -- the variables of the inputs are in P
  abbrev pub Reads : (Var → Type 0) → Gate Var → Type 0
  Reads P G = Each (λ l. P l.var) (inputs G)

  -- and so are those of the parts
  pub reads_parts : (P : Var → Type 0) (G : Gate Var) → Reads P G → Each (λ l. P l.var) (parts_of G)
  reads_parts P (all ls) reads = reads
  reads_parts P (any ls) reads = each_map _ opposite ls reads

  module _ (h : Literal Var) (ls : List (Literal Var)) where
    -- the short clause of a part is one of these
    pub short_in : (l : Literal Var) → Memᴰ l ls → Memᴰ (opposite h ∷ l ∷ []) (and_clauses h ls)
    short_in l m = Memᴰ.append_left _ (Memᴰ.map (λ l. opposite h ∷ l ∷ []) m)

    -- and so is the long clause
    pub long_in : Memᴰ (h ∷ map opposite ls) (and_clauses h ls)
    long_in = Memᴰ.append_right (map (λ l. opposite h ∷ l ∷ []) ls) (Memᴰ.head refl)

    -- what the short ones and the long one have, each of them has
    pub each_and : (P : List (Literal Var) → Type 0) → ((l : Literal Var) → Memᴰ l ls → P (opposite h ∷ l ∷ []))
        → P (h ∷ map opposite ls) → Each P (and_clauses h ls)
    each_and P short long = each_append P (map _ ls) _ (each_map P (λ l. opposite h ∷ l ∷ []) ls short)
        (each_one P (h ∷ map opposite ls) long)

  -- ---- its clauses are true when it has its value

  module _ (α : Var → Bool) (h : Literal Var) (ls : List (Literal Var)) where
    -- where all parts are true, none of their opposites is the true literal of the long clause
    head_true : all_of (makes α) ls ≡ true → Holds α (h ∷ map opposite ls) → makes α h ≡ true
    head_true e (k, m, t) = each_more (λ k. Makes α k → makes α h ≡ true) h _ (makes_true α h).1
        (each_map _ opposite ls (λ l i o. absurd
        (true≢false (sym ((all_true (makes α) ls).0 e l i) ∙ opposite_false α l o)))) k m t

    -- where a part is false, it is not the true literal of its short clause
    head_false : (l : Literal Var) → makes α l ≡ false → Holds α (opposite h ∷ l ∷ []) → makes α h ≡ false
    head_false l e (k, m, t) = each_more (λ k. Makes α k → makes α h ≡ false) (opposite h) _ (opposite_false α h)
        (each_one _ l (λ o. absurd (true≢false (sym ((makes_true α l).1 o) ∙ e)))) k m t

    clauses_value : Satisfies α (and_clauses h ls) → makes α h ≡ all_of (makes α) ls
    clauses_value sat = go (all_of (makes α) ls) refl
      where
        go : (b : Bool) → all_of (makes α) ls ≡ b → makes α h ≡ b
        go true e = head_true e (sat _ (long_in h ls))
        go false e = let f = all-false (makes α) ls e in head_false f.0 f.2 (sat _ (short_in h ls f.0 f.1))

    value_clauses : makes α h ≡ all_of (makes α) ls → Satisfies α (and_clauses h ls)
    value_clauses e = go (makes α h) refl
      where
        go : (b : Bool) → makes α h ≡ b → Satisfies α (and_clauses h ls)
        go true t = each_and h ls (Holds α)
            (λ l m. (l, Memᴰ.tail (Memᴰ.head refl), (makes_true α l).0 ((all_true (makes α) ls).0 (sym e ∙ t) l m)))
            (h, Memᴰ.head refl, (makes_true α h).0 t)
        go false t =
            let f = all-false (makes α) ls (sym e ∙ t) in
            each_and h ls (Holds α)
            (λ l m. (opposite h, Memᴰ.head refl, false_opposite α h t))
            (opposite f.0, Memᴰ.tail (Memᴰ.map opposite f.1), false_opposite α f.0 f.2)

  -- AND and OR are dual
  any_opposites : (α : Var → Bool) (ls : List (Literal Var))
      → all_of (makes α) (map opposite ls) ≡ not (any_of (makes α) ls)
  unfolding all_of any_of
  any_opposites α [] = refl
  any_opposites α (l ∷ ls) = ap₂ ◌&&◌ (makes_opposite α l) (any_opposites α ls) ∙ go (makes α l) (any_of (makes α) ls)
    where
      go : (x y : Bool) → not x && not y ≡ not (x || y)
      go true y = refl
      go false y = refl

  -- the head is the AND of the parts when the output has the gate's value
  value_parts : (α : Var → Bool) (g : Var) (G : Gate Var)
      → (makes α (head_of g G) ≡ all_of (makes α) (parts_of G)) ↔ (α g ≡ gate_value α G)
  unfolding gate_value
  value_parts α g (all ls) = rw (beq_sign (α g) true) Iff.rfl
  value_parts α g (any ls) = rw (beq_sign (α g) false, any_opposites α ls) (not_same _ _)

  -- An assignment makes the clauses of a gate true just when it gives the output the gate's value.
  pub gate_value_lem : (α : Var → Bool) (g : Var) (G : Gate Var)
      → Satisfies α (gate_clauses g G) ↔ (α g ≡ gate_value α G)
  gate_value_lem α g G =
      rw (gate_clauses_lem g G) (Iff.trans (clauses_value α _ _, value_clauses α _ _) (value_parts α g G))

  -- ---- the value of a gate, read off its inputs

  -- assignments that agree on the inputs give a gate the same value
  pub value_reads : (α β : Var → Bool) (G : Gate Var) → Reads (λ v. α v ≡ β v) G → gate_value α G ≡ gate_value β G
  unfolding gate_value
  value_reads α β (all ls) same =
      quantified_same every (makes α) (makes β) ls (λ l m. ap (λ (x : Bool). beq x l.sign) (same l m))
  value_reads α β (any ls) same =
      quantified_same some (makes α) (makes β) ls (λ l m. ap (λ (x : Bool). beq x l.sign) (same l m))
