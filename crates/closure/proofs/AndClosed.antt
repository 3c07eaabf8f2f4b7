-- A set of literals that treats a gate's output as the gate says is closed under the unit rule for the gate's
-- clauses. Every gate makes one literal the AND of others, so there is one kind of gate.
use Prim.Native.Nat.{ℕ}
use mathlib.Core.Path.{◌≡◌, refl, sym, ap, subst, ◌∙◌}
use mathlib.Core.List.Memᴰ
use mathlib.Core.List.{List, [], ◌∷◌, map, Memᴰ}
use Rattle.circuit.specs.Logic.{Literal, opposite, Gate, all, any, gate_clauses}
use Rattle.circuit.proofs.Lists.{Each, each_none, each_more, each_one, each_map}
use Rattle.circuit.proofs.Gate.{
  opposite_opposite,
  and_clauses,
  head_of,
  parts_of,
  gate_clauses_lem,
  Reads,
  reads_parts,
  each_and,
}
use Rattle.closure.proofs.Forced.{ClauseClosed}

module _ {Var : Type 0} (Q : Literal Var → Type 0) where
  -- Q treats h as the AND of ls: it has h where it has all of them, each of them where it has h, and so on for the
  -- opposites
  pub record AndRules (h : Literal Var) (ls : List (Literal Var)) : Type 0 where
    pub up : Each Q ls → Q h
    pub down : Q h → Each Q ls
    pub refuted : (l : Literal Var) → Memᴰ l ls → Q (opposite l) → Q (opposite h)
    pub last : Q (opposite h) → (l : Literal Var) → Memᴰ l ls → ((k : Literal Var) → Memᴰ k ls → ¬ (k ≡ l) → Q k)
        → Q (opposite l)

  opposite_injective : (k l : Literal Var) → opposite k ≡ opposite l → k ≡ l
  opposite_injective k l e = sym (opposite_opposite k) ∙ ap opposite e ∙ opposite_opposite l

  -- no part has the head's variable, so that the literals of a clause differ
  and_closed : (h : Literal Var) (ls : List (Literal Var)) → AndRules h ls → Each (λ l. ¬ (l.var ≡ h.var)) ls
      → Each (ClauseClosed Q) (and_clauses h ls)
  and_closed h ls r apart = each_and h ls (ClauseClosed Q) short long
    where
      short : (l : Literal Var) → Memᴰ l ls → ClauseClosed Q (opposite h ∷ l ∷ [])
      short l m = each_more _ (opposite h) _
          (λ alone. r.refuted l m (alone l (Memᴰ.tail (Memᴰ.head refl)) (λ e. apart l m (ap (λ k. k.var) e))))
          (each_one _ l (λ alone.
          r.down (subst Q (opposite_opposite h)
          (alone (opposite h) (Memᴰ.head refl) (λ e. apart l m (sym (ap (λ k. k.var) e))))) l m))

      long : ClauseClosed Q (h ∷ map opposite ls)
      long = each_more _ h _
          (λ alone. r.up (λ l m. subst Q (opposite_opposite l)
          (alone (opposite l) (Memᴰ.tail (Memᴰ.map opposite m)) (λ e. apart l m (ap (λ k. k.var) e)))))
          (each_map _ opposite ls (λ l m alone. r.last
          (alone h (Memᴰ.head refl) (λ e. apart l m (sym (ap (λ k. k.var) e)))) l m
          (λ k i d. subst Q (opposite_opposite k)
          (alone (opposite k) (Memᴰ.tail (Memᴰ.map opposite i)) (λ e. d (opposite_injective k l e))))))

  -- the rules of a gate with its output
  abbrev pub GateRules : Var → Gate Var → Type 0
  GateRules g G = AndRules (head_of g G) (parts_of G)

  head_var : (g : Var) (G : Gate Var) → (head_of g G).var ≡ g
  head_var g (all ls) = refl
  head_var g (any ls) = refl

  -- Q is closed under the unit rule for each clause of the gate
  pub gate_closed : (g : Var) (G : Gate Var) → GateRules g G → Reads (λ v. ¬ (v ≡ g)) G
      → Each (ClauseClosed Q) (gate_clauses g G)
  gate_closed g G r apart = rw (gate_clauses_lem g G) (and_closed (head_of g G) (parts_of G) r
      (λ l m e. reads_parts (λ v. ¬ (v ≡ g)) G apart l m (e ∙ head_var g G)))

  -- ---- gates by the number of their inputs

  -- no input
  pub none_rules : (h : Literal Var) → Q h → AndRules h []
  none_rules h q = record {
    up = λ each. q;
    down = λ i. each_none Q;
    refuted = λ l m. absurd (Memᴰ.not-nil m);
    last = λ o l m. absurd (Memᴰ.not-nil m);
  }

  -- one input
  pub one_rules : (h x : Literal Var) → (Q x → Q h) → (Q h → Q x) → (Q (opposite x) → Q (opposite h))
      → (Q (opposite h) → Q (opposite x))
      → AndRules h (x ∷ [])
  one_rules h x up down refuted last = record {
    up = λ each. up (each x (Memᴰ.head refl));
    down = λ q. each_one Q x (down q);
    refuted = each_one _ x refuted;
    last = λ o. each_one _ x (λ others. last o);
  }

  -- one input, given twice
  pub twice_rules : (h x : Literal Var) → AndRules h (x ∷ []) → AndRules h (x ∷ x ∷ [])
  twice_rules h x r = record {
    up = λ each. r.up (each_one Q x (each x (Memᴰ.head refl)));
    down = λ q. each_more Q x _ (r.down q x (Memᴰ.head refl)) (r.down q);
    refuted = each_more _ x _ (r.refuted x (Memᴰ.head refl)) r.refuted;
    last = λ o.
        let x_last = r.last o x (Memᴰ.head refl) (each_one _ x (λ d. absurd (d refl))) in
        each_more _ x _ (λ others. x_last) (each_one _ x (λ others. x_last));
  }

  -- two inputs that differ
  pub two_rules : (h x y : Literal Var) → ¬ (x ≡ y) → (Q x → Q y → Q h) → (Q h → Q x) → (Q h → Q y)
      → (Q (opposite x) → Q (opposite h)) → (Q (opposite y) → Q (opposite h))
      → (Q (opposite h) → Q y → Q (opposite x)) → (Q (opposite h) → Q x → Q (opposite y)) → AndRules h (x ∷ y ∷ [])
  two_rules h x y apart up left right no_left no_right last_left_lem last_right = record {
    up = λ each. up (each x (Memᴰ.head refl)) (each y (Memᴰ.tail (Memᴰ.head refl)));
    down = λ q. each_more Q x _ (left q) (each_one Q y (right q));
    refuted = each_more _ x _ no_left (each_one _ y no_right);
    last = λ o. each_more _ x _
        (λ others. last_left_lem o (others y (Memᴰ.tail (Memᴰ.head refl)) (λ e. apart (sym e))))
        (each_one _ y (λ others. last_right o (others x (Memᴰ.head refl) apart)));
  }

  -- an input for each number of a list, told apart by the number
  pub many_rules : (h : Literal Var) (lit : ℕ → Literal Var) → ((i j : ℕ) → lit i ≡ lit j → i ≡ j) → (js : List ℕ)
      → (((j : ℕ) → Memᴰ j js → Q (lit j)) → Q h)
      → (Q h → (j : ℕ) → Memᴰ j js → Q (lit j))
      → ((j : ℕ) → Memᴰ j js → Q (opposite (lit j)) → Q (opposite h))
      → (Q (opposite h) → (j : ℕ) → Memᴰ j js → ((i : ℕ) → Memᴰ i js → ¬ (i ≡ j) → Q (lit i)) → Q (opposite (lit j)))
      → AndRules h (map lit js)
  many_rules h lit injective js up down refuted last = record {
    up = λ each. up (λ j m. each (lit j) (Memᴰ.map lit m));
    down = λ q. each_map Q lit js (down q);
    refuted = each_map _ lit js refuted;
    last = λ o. each_map _ lit js
        (λ j m others. last o j m (λ i k d. others (lit i) (Memᴰ.map lit k) (λ e. d (injective i j e))));
  }
