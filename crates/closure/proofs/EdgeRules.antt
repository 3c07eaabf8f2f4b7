-- The unit rule at the gate of a step and at N. A and E are treated at once: with `sign` true for A and false for E,
-- the literal of N with this sign is the AND of those of the step gates, and the opposite one of a step gate is the
-- AND of the step and the opposite one of the end.
use Prim.Native.Nat.{ℕ}
use mathlib.Core.Path.{◌≡◌, refl, ap, subst}
use mathlib.Core.Bool.{Bool, not}
use mathlib.Core.List.Memᴰ
use mathlib.Core.List.{List, [], ◌∷◌, map, map-map, Memᴰ}
use Rattle.ctl.specs.Rule.{Quantifier, every, some}
use Rattle.circuit.specs.Logic.{Literal, pos, neg, opposite}
use Rattle.circuit.specs.Variables.{Var, step, literal}
use Rattle.circuit.specs.Gates.{edge_gate, ahead_gate}
use Rattle.circuit.proofs.Lists.{each_more, each_one, each_map}
use Rattle.closure.specs.Dual.{is_every}
use Rattle.closure.proofs.GateRules.{ClosedAnd, twice_in, in_twice, and_up, and_down, and-false, and_last}
use Rattle.closure.proofs.GateOf.{ClosedGate}

-- ---- the gate of step j, over what holds at its end

module _ (S : Literal Var → Type 0) (sign : Bool) (j : ℕ) (gate end : Var) where
  abbrev pub ClosedEdge : Type 0
  ClosedEdge = ClosedAnd S (literal (not sign) gate) (pos (step j) ∷ literal (not sign) end ∷ [])

  module _ (c : ClosedEdge) where
    -- from the step or its end up
    pub edge_struck : S (neg (step j)) → S (literal sign gate)
    edge_struck p = in_twice S (literal sign gate) (and-false c (pos (step j)) (Memᴰ.head refl) p)

    pub edge_end : S (literal sign end) → S (literal sign gate)
    edge_end p = in_twice S (literal sign gate)
        (and-false c (literal (not sign) end) (Memᴰ.tail (Memᴰ.head refl)) (twice_in S (literal sign end) p))

    pub edge_fails : S (pos (step j)) → S (literal (not sign) end) → S (literal (not sign) gate)
    edge_fails p q = and_up c (each_more S _ _ p (each_one S _ q))

    -- and down again
    pub kept_step_lem : S (literal (not sign) gate) → S (pos (step j))
    kept_step_lem = and_down c _ (Memᴰ.head refl)

    pub failed_end : S (literal (not sign) gate) → S (literal (not sign) end)
    failed_end = and_down c _ (Memᴰ.tail (Memᴰ.head refl))

    pub struck_step : S (literal sign gate) → S (literal (not sign) end) → S (neg (step j))
    struck_step p q = and_last c (pos (step j)) (Memᴰ.head refl) (twice_in S (literal sign gate) p)
        (each_more _ _ _ (λ other. absurd (other refl)) (each_one _ _ (λ other. q)))

    pub met_end : S (literal sign gate) → S (pos (step j)) → S (literal sign end)
    met_end p q = in_twice S (literal sign end)
        (and_last c (literal (not sign) end) (Memᴰ.tail (Memᴰ.head refl)) (twice_in S (literal sign gate) p)
        (each_more _ _ _ (λ other. q) (each_one _ _ (λ other. absurd (other refl)))))

-- the clauses of the step gate are these
pub edge_and : (S : Literal Var → Type 0) (q : Quantifier) (j : ℕ) (gate end : Var)
    → ClosedGate S gate (edge_gate q j end)
    → ClosedEdge S (is_every q) j gate end
edge_and S every j gate end c = c
edge_and S some j gate end c = c

-- ---- N, over the gates of the steps js

module _ (S : Literal Var → Type 0) (sign : Bool) (N : Var) (gate : ℕ → Var) (js : List ℕ) where
  abbrev pub ClosedAhead : Type 0
  ClosedAhead = ClosedAnd S (literal sign N) (map (λ j. literal sign (gate j)) js)

  module _ (c : ClosedAhead) where
    pub ahead_up : ((j : ℕ) → Memᴰ j js → S (literal sign (gate j))) → S (literal sign N)
    ahead_up p = and_up c (each_map S (λ j. literal sign (gate j)) js p)

    pub ahead_down : (j : ℕ) → Memᴰ j js → S (literal sign N) → S (literal sign (gate j))
    ahead_down j m = and_down c _ (Memᴰ.map (λ j. literal sign (gate j)) m)

    pub ahead_fails : (j : ℕ) → Memᴰ j js → S (literal (not sign) (gate j)) → S (literal (not sign) N)
    ahead_fails j m = and-false c (literal sign (gate j)) (Memᴰ.map (λ j. literal sign (gate j)) m)

    -- one step is left
    pub ahead_last : (j : ℕ) → Memᴰ j js → S (literal (not sign) N)
        → ((k : ℕ) → Memᴰ k js → ¬ (k ≡ j) → S (literal sign (gate k))) → S (literal (not sign) (gate j))
    ahead_last j m p others = and_last c (literal sign (gate j)) (Memᴰ.map (λ j. literal sign (gate j)) m) p
        (each_map _ (λ j. literal sign (gate j)) js
        (λ k n other. others k n (λ e. other (ap (λ (j : ℕ). literal sign (gate j)) e))))

-- the clauses of N are these
pub ahead_and : (S : Literal Var → Type 0) (q : Quantifier) (N : Var) (gate : ℕ → Var) (js : List ℕ)
    → ClosedGate S N (ahead_gate q (map (λ j. pos (gate j)) js)) → ClosedAhead S (is_every q) N gate js
ahead_and S every N gate js c = c
ahead_and S some N gate js c = subst (ClosedAnd S (neg N)) (map-map opposite (λ j. pos (gate j)) js) c
