-- What the rows around a level add to each other is forced, whatever the family of its node. Until is the dual of
-- release, and eventually that of always, so that this is shown of release and always, for literals of either sign.
use Prim.Native.Nat.{ℕ, suc, ◌<◌}
use mathlib.Core.Path.{◌≡◌, refl}
use mathlib.Core.Bool.{Bool, true, false, not}
use mathlib.Core.Logic.{⊎_elim}
use mathlib.Core.List.{Memᴰ}
use lib.ListN.{length}
use Rattle.table.specs.declared.operator.Family.{Family}
use Rattle.table.specs.declared.operator.Family.TheVariants.{Release, Until, Eventually, Always}
use Rattle.table.specs.Table.{Table, node_at}
use Rattle.table.specs.Facts.{Wellformed}
use Rattle.table.proofs.Bools.{or_parts}
use Rattle.ctl.specs.Rule.{Quantifier, fixpoint, operator_of}
use Rattle.circuit.specs.Logic.{Literal}
use Rattle.circuit.specs.Variables.{Var, ahead, inner, level, value}
use Rattle.circuit.specs.Clauses.{Clause, clauses}
use Rattle.rows.specs.declared.row.Row.{Row}
use Rattle.rows.specs.declared.joined.Joined.{Joined}
use Rattle.rows.specs.Row.{turn, clashes}
use Rattle.rows.specs.Words.{SmallRow}
use Rattle.rows.specs.Rules.{either_row, join_release, join_always, turn_joined, join_of}
use Rattle.rows.proofs.RowLaws.{turned_small}
use Rattle.closure.specs.KnowledgeIn.{RowIn, Clash}
use Rattle.closure.proofs.Forced.{ClauseClosed}
use Rattle.closure.proofs.GateOf.{join_gate}
use Rattle.closure.proofs.PairRules.{
  ClosedPair,
  pair_up,
  pair_left,
  pair_right,
  left_false,
  right_false,
  left_last,
  right_last,
  or_left,
  or_right,
  or_left_last,
  or_right_last,
}
use Rattle.closure.proofs.SetsIn.{SetIn, At, set_none, set-or, set-and, set_each, turned_in, in_turned, in_turned-not}
use Rattle.closure.proofs.ClashSound.{clash_in_turned}
use Rattle.closure.proofs.RulesSmall.{either_small, release_small, always_small}

-- what a level joins lies in the set; it fails only where G or N is in the set both ways
pub record JoinIn (T : Table) (S : Literal Var → Type 0) (level a b N : ℕ → Var) (J : Joined) : Type 0 where
  pub level_in : RowIn T S level J.level
  pub a_in : RowIn T S a J.a
  pub b_in : RowIn T S b J.b
  pub ahead_in_lem : RowIn T S N J.ahead
  pub clash : J.fails ≡ true → Clash T S

module _ (T : Table) (wf : Wellformed T) (S : Literal Var → Type 0) (closed : (C : Clause) → Memᴰ C (clauses T)
    → ClauseClosed S C)
    (e : Bool) (level a b N : ℕ → Var) (l x y z : Row)
    (in-level : RowIn T S level l) (in-a : RowIn T S a x) (in_b : RowIn T S b y) (in-N : RowIn T S N z)
    (small-l : SmallRow l) (small-x : SmallRow x) (small-y : SmallRow y) (small-z : SmallRow z) where
  -- what is known true and known false, of the literals with the sign e
  level-yes : SetIn (At T S e level) (turn e l).yes
  level-yes = in_turned T S e level l in-level

  level-no : SetIn (At T S (not e) level) (turn e l).no
  level-no = in_turned-not T S e level l in-level

  a_yes : SetIn (At T S e a) (turn e x).yes
  a_yes = in_turned T S e a x in-a

  a_no : SetIn (At T S (not e) a) (turn e x).no
  a_no = in_turned-not T S e a x in-a

  b_yes : SetIn (At T S e b) (turn e y).yes
  b_yes = in_turned T S e b y in_b

  b_no : SetIn (At T S (not e) b) (turn e y).no
  b_no = in_turned-not T S e b y in_b

  N_yes : SetIn (At T S e N) (turn e z).yes
  N_yes = in_turned T S e N z in-N

  N_no : SetIn (At T S (not e) N) (turn e z).no
  N_no = in_turned-not T S e N z in-N

  -- ---- G = a or N, and the level = b and G

  module _ (inner : ℕ → Var) (G : (s : ℕ) → s < length T.states → ClosedPair S (not e) (inner s) (a s) (N s))
      (L : (s : ℕ) → s < length T.states → ClosedPair S e (level s) (b s) (inner s)) where
    abbrev E : Row
    E = either_row (turn e l) (turn e x) (turn e y) (turn e z)

    abbrev released : Joined
    released = join_release (turn e l) (turn e x) (turn e y) (turn e z)

    G_yes : SetIn (At T S e inner) E.yes
    G_yes = set-or _ _ (set-or _ _ (set_each _ a_yes (λ s p. (p.0, or_left e (G s p.0) p.1)))
        (set_each _ N_yes (λ s p. (p.0, or_right e (G s p.0) p.1))))
        (set_each _ level-yes (λ s p. (p.0, pair_right (L s p.0) p.1)))

    G_no : SetIn (At T S (not e) inner) E.no
    G_no = set-or _ _ (set-and _ _ a_no N_no (λ s p r. (p.0, pair_up (G s p.0) p.1 r.1)))
        (set-and _ _ level-no b_yes (λ s p r. (p.0, right_last (L s p.0) p.1 r.1)))

    N_with : RowIn T S N (turn e released.ahead)
    N_with = turned_in T S e N _
        (set-or _ _ N_yes (set-and _ _ G_yes a_no (λ s p r. (p.0, or_right_last e (G s p.0) p.1 r.1))))
        (set-or _ _ N_no (set_each _ G_no (λ s p. (p.0, pair_right (G s p.0) p.1))))

    release_in : JoinIn T S level a b N (turn_joined e released)
    release_in = record {
      level_in = turned_in T S e level _
          (set-and _ _ b_yes G_yes (λ s p r. (p.0, pair_up (L s p.0) p.1 r.1)))
          (set-or _ _ (set_each _ b_no (λ s p. (p.0, left_false (L s p.0) p.1)))
          (set_each _ G_no (λ s p. (p.0, right_false (L s p.0) p.1))));
      a_in = turned_in T S e a _
          (set-and _ _ G_yes N_no (λ s p r. (p.0, or_left_last e (G s p.0) p.1 r.1)))
          (set_each _ G_no (λ s p. (p.0, pair_left (G s p.0) p.1)));
      b_in = turned_in T S e b _
          (set_each _ level-yes (λ s p. (p.0, pair_left (L s p.0) p.1)))
          (set-and _ _ level-no G_yes (λ s p r. (p.0, left_last (L s p.0) p.1 r.1)));
      ahead_in_lem = N_with;
      clash = λ f. ⊎_elim
          (clash_in_turned T wf S closed e inner E
          (either_small _ _ _ _ (turned_small e l small-l) (turned_small e x small-x) (turned_small e y small-y)
          (turned_small e z small-z))
          (turned_in T S e inner E G_yes G_no))
          (clash_in_turned T wf S closed e N released.ahead
          (release_small _ _ _ _ (turned_small e l small-l) (turned_small e x small-x) (turned_small e y small-y)
          (turned_small e z small-z)).ahead N_with)
          (or_parts (clashes E) _ f);
    }

  -- ---- the level = b and N

  module _ (L : (s : ℕ) → s < length T.states → ClosedPair S e (level s) (b s) (N s)) where
    abbrev lasting : Joined
    lasting = join_always (turn e l) (turn e y) (turn e z)

    up_yes : SetIn (At T S e level) lasting.level.yes
    up_yes = set-or _ _ level-yes (set-and _ _ b_yes N_yes (λ s p r. (p.0, pair_up (L s p.0) p.1 r.1)))

    up_no : SetIn (At T S (not e) level) lasting.level.no
    up_no = set-or _ _ level-no (set-or _ _ (set_each _ b_no (λ s p. (p.0, left_false (L s p.0) p.1)))
        (set_each _ N_no (λ s p. (p.0, right_false (L s p.0) p.1))))

    N_up : RowIn T S N (turn e lasting.ahead)
    N_up = turned_in T S e N _
        (set-or _ _ N_yes (set_each _ up_yes (λ s p. (p.0, pair_right (L s p.0) p.1))))
        (set-or _ _ N_no (set-and _ _ up_no b_yes (λ s p r. (p.0, right_last (L s p.0) p.1 r.1))))

    always_in : JoinIn T S level a b N (turn_joined e lasting)
    always_in = record {
      level_in = turned_in T S e level _ up_yes up_no;
      a_in = turned_in T S e a _ (set_none _) (set_none _);
      b_in = turned_in T S e b _
          (set_each _ up_yes (λ s p. (p.0, pair_left (L s p.0) p.1)))
          (set-and _ _ up_no N_yes (λ s p r. (p.0, left_last (L s p.0) p.1 r.1)));
      ahead_in_lem = N_up;
      clash = clash_in_turned T wf S closed e N lasting.ahead
          (always_small _ _ _ (turned_small e l small-l) (turned_small e y small-y) (turned_small e z small-z)).ahead
          N_up;
    }

-- ---- a level of a node, by its family

pub join_in : (T : Table) (wf : Wellformed T) (S : Literal Var → Type 0) (closed : (C : Clause) → Memᴰ C (clauses T)
    → ClauseClosed S C)
    → (i : ℕ) → i < length T.nodes → (fam : Family) (q : Quantifier) (a b : ℕ)
    → operator_of (node_at T i) ≡ fixpoint fam q a b
    → (m : ℕ) → m < length T.states → (l x y z : Row) → RowIn T S (level i (suc m)) l → RowIn T S (value T a) x
    → RowIn T S (value T b) y
    → RowIn T S (ahead i (suc m)) z → SmallRow l → SmallRow x → SmallRow y → SmallRow z
    → JoinIn T S (level i (suc m)) (value T a) (value T b) (ahead i (suc m)) (join_of fam l x y z)
join_in T wf S closed i h Release q a b e m few l x y z in-l in-x in-y in-z L X Y Z =
    release_in T wf S closed true _ _ _ _ l x y z in-l in-x in-y in-z L X Y Z (inner i (suc m))
    (λ s k. join_gate T wf S closed i h Release q a b e m few s k _ (Memᴰ.head refl))
    (λ s k. join_gate T wf S closed i h Release q a b e m few s k _ (Memᴰ.tail (Memᴰ.head refl)))
join_in T wf S closed i h Until q a b e m few l x y z in-l in-x in-y in-z L X Y Z =
    release_in T wf S closed false _ _ _ _ l x y z in-l in-x in-y in-z L X Y Z (inner i (suc m))
    (λ s k. join_gate T wf S closed i h Until q a b e m few s k _ (Memᴰ.head refl))
    (λ s k. join_gate T wf S closed i h Until q a b e m few s k _ (Memᴰ.tail (Memᴰ.head refl)))
join_in T wf S closed i h Eventually q a b e m few l x y z in-l in-x in-y in-z L X Y Z =
    always_in T wf S closed false _ _ _ _ l x y z in-l in-x in-y in-z L X Y Z
    (λ s k. join_gate T wf S closed i h Eventually q a b e m few s k _ (Memᴰ.head refl))
join_in T wf S closed i h Always q a b e m few l x y z in-l in-x in-y in-z L X Y Z =
    always_in T wf S closed true _ _ _ _ l x y z in-l in-x in-y in-z L X Y Z
    (λ s k. join_gate T wf S closed i h Always q a b e m few s k _ (Memᴰ.head refl))
