-- The gates of a node without next states, at rest: constants, propositions, NOT, AND and OR.
use Prim.Native.Nat.{ℕ, ◌<◌}
use native.Mathlib.Omega.{arith}
use mathlib.Core.Path.{◌≡◌, refl, sym, ap, subst, ◌∙◌}
use mathlib.Core.Bool.{Bool, true, false, cond, true≢false}
use mathlib.Core.List.{[], ◌∷◌}
use borrow.Author.Tests.{lt-ltb, eqb-true, eqb-false}
use lib.Dec.{eqb, ltb}
use lib.ListN.{length}
use Rattle.sets.specs.Member.{set_of}
use Rattle.sets.proofs.SetOf.{in_set}
use Rattle.table.specs.Table.{Table}
use Rattle.table.specs.Facts.{Wellformed}
use Rattle.table.proofs.Bools.{not_so}
use Rattle.ctl.specs.Rule.{Quantifier, every, some}
use Rattle.circuit.specs.Logic.{Literal, pos, neg, Gate, all}
use Rattle.circuit.specs.Variables.{Var, node, value, literal}
use Rattle.circuit.specs.Gates.{is, ahead_gate, constant_gate, at_states}
use Rattle.circuit.proofs.Lists.{Each, each_one, each_over}
use Rattle.rows.specs.Row.{known, turn, WithinAt}
use Rattle.rows.specs.Rules.{constant_row}
use Rattle.rows.proofs.RowLaws.{without-true, set_small}
use Rattle.closure.specs.Dual.{is_every}
use Rattle.closure.specs.Knowledge.{Knowledge}
use Rattle.closure.specs.Rest.{RestBoth, RestSame, Rest}
use Rattle.closure.proofs.TurnedRows.{within_duals}
use Rattle.closure.proofs.AndClosed.{AndRules, GateRules, none_rules, twice_rules}
use Rattle.closure.proofs.Says.{row_of, place_of, Says, Is, one_row, two_rows}
use Rattle.closure.proofs.RestJoin.{both_and}
use Rattle.closure.proofs.RestAhead.{Good}
use Rattle.closure.proofs.Values.{value_is, value_apart}

-- a gate without inputs
constant_shape : (S : Literal Var → Type 0) (v : Var) (b : Bool) → S (literal b v) → GateRules S v (constant_gate b)
constant_shape S v true q = none_rules S (pos v) q
constant_shape S v false q = none_rules S (neg v) q

-- a gate of two variables as an AND
pub pair_shape : (S : Literal Var → Type 0) (q : Quantifier) (v x y : Var)
    → AndRules S (literal (is_every q) v) (literal (is_every q) x ∷ literal (is_every q) y ∷ [])
    → GateRules S v (ahead_gate q (pos x ∷ pos y ∷ []))
pair_shape S every v x y r = r
pair_shape S some v x y r = r

-- the row of a constant knows each of the n states
constant_known : (n : ℕ) → n < 33 → (f : ℕ → Bool) (s : ℕ) → s < n → known (constant_row n (set_of n f)) (f s) s ≡ true
constant_known n few f s h = go (f s) refl
  where
    go : (b : Bool) → f s ≡ b → known (constant_row n (set_of n f)) b s ≡ true
    go true e = (in_set n f s).1 (h, e)
    go false e = (without-true _ (set_of n f) s (set_small n few f)).1 (
      omega arith,
      (in_set 32 (λ t. ltb t n) s).1 (omega arith, lt-ltb s n h),
      not_so _ (λ m. true≢false (sym ((in_set n f s).0 m).1 ∙ e)),
    )

module _ (T : Table) (wf : Wellformed T) (K : Knowledge) (rest : Rest T K) (i : ℕ) (h : i < length T.nodes) where
  -- a gate for each state
  plain_good : (G : ℕ → Gate Var) → ((s : ℕ) → s < length T.states → GateRules (Says T K) (node i s) (G s))
      → Each (Good T K) (at_states T (λ s. is (node i s) (G s) ∷ []))
  unfolding row_of place_of
  plain_good G rules = each_over (length T.states) _ _ (λ s l. each_one _ _ (rules s l, rest.clear i h s l))

  node_is : (sign : Bool) (s : ℕ) → Is T K (literal sign (node i s)) (turn sign (K.nodes i)) s
  unfolding row_of place_of
  node_is sign s = record { row_is = refl; place_is = refl }

  -- constants and propositions
  pub constant_good : (f : ℕ → Bool)
      → ((s : ℕ) → s < length T.states
      → WithinAt s (constant_row (length T.states) (set_of (length T.states) f)) (K.nodes i))
      → Each (Good T K) (at_states T (λ s. is (node i s) (constant_gate (f s)) ∷ []))
  unfolding row_of place_of
  constant_good f r = plain_good _ (λ s l.
      constant_shape (Says T K) (node i s) (f s) (r s l (f s) (constant_known _ (omega (arith, wf.few_states)) f s l)))

  -- NOT
  pub negation_good : (a : ℕ) → a < length T.nodes
      → ((s : ℕ) → s < length T.states → RestSame T K (K.nodes i) (turn false (K.nodes a)) s)
      → Each (Good T K) (at_states T (λ s. is (node i s) (all (neg (value T a s) ∷ [])) ∷ []))
  negation_good a ha r =
      plain_good _ (λ s l. one_row T K (node_is true s) (value_is T K rest a ha false s) (r s l).up (r s l).down)

  -- AND and OR: of one node twice, or of two
  pub both_good : (q : Quantifier) (a b : ℕ) → a < length T.nodes → b < length T.nodes
      → ((s : ℕ) → s < length T.states
      → cond (eqb a b) (RestSame T K (K.nodes i) (K.nodes a) s) (RestBoth T K q i a b s))
      → Each (Good T K) (at_states T
      (λ s. is (node i s) (ahead_gate q (pos (value T a s) ∷ pos (value T b s) ∷ [])) ∷ []))
  both_good q a b ha hb r =
      plain_good _ (λ s l. pair_shape (Says T K) q (node i s) (value T a s) (value T b s) (go s (eqb a b) refl (r s l)))
    where
      go : (s : ℕ) (t : Bool) → eqb a b ≡ t → cond t (RestSame T K (K.nodes i) (K.nodes a) s) (RestBoth T K q i a b s)
          → AndRules (Says T K) (literal (is_every q) (node i s))
          (literal (is_every q) (value T a s) ∷ literal (is_every q) (value T b s) ∷ [])
      go s true e x = subst
          (λ (b : ℕ). AndRules (Says T K) (literal (is_every q) (node i s))
          (literal (is_every q) (value T a s) ∷ literal (is_every q) (value T b s) ∷ []))
          (eqb-true a b e)
          (twice_rules (Says T K) _ _ (one_row T K (node_is (is_every q) s) (value_is T K rest a ha (is_every q) s)
          (within_duals (is_every q) _ _ s x.up) (within_duals (is_every q) _ _ s x.down)))
      go s false e x = two_rows T K (node_is (is_every q) s) (value_is T K rest a ha (is_every q) s)
          (value_is T K rest b hb (is_every q) s)
          (λ d. value_apart T a b s (eqb-false a b e) (ap (λ l. l.var) d))
          (both_and _ _ _ s x.up x.left x.right)
