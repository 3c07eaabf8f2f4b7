-- Gates of two inputs at one state, where the rules add nothing: a node that is an AND, and G and the level of a
-- fixed-point node.
use Prim.Native.Nat.{ℕ}
use mathlib.Core.Path.{◌≡◌, refl}
use mathlib.Core.Bool.{true, false}
use mathlib.Core.Logic.{inl, inr, ⊎_elim}
use lib.Bits.{bit_and, bit_or}
use Rattle.table.specs.declared.operator.Family.{Family}
use Rattle.table.specs.declared.operator.Family.TheVariants.{Release, Until, Eventually, Always}
use Rattle.rows.specs.declared.row.Row.{Row}
use Rattle.rows.specs.Row.{known, turn, WithinAt, ClearAt}
use Rattle.rows.specs.Rules.{and_output, and_input, either_row, join_release, join_always, join_of, new_of}
use Rattle.rows.proofs.RowLaws.{and-true, or-true}
use Rattle.closure.proofs.TurnedRows.{within_turned, within_left}
use Rattle.closure.proofs.Says.{AndRow}

-- an AND of two nodes
pub both_and : (g a b : Row) (s : ℕ) → WithinAt s (and_output g a b) g → WithinAt s (and_input g b) a
    → WithinAt s (and_input g a) b → AndRow g a b s
both_and g a b s up left right = record {
  up = λ p q. up true ((or-true g.yes _ s).1 (inr ((and-true a.yes b.yes s).1 (p, q))));
  left = left true;
  right = right true;
  no_left = λ p. up false ((or-true g.no _ s).1 (inr ((or-true a.no b.no s).1 (inl p))));
  no_right = λ p. up false ((or-true g.no _ s).1 (inr ((or-true a.no b.no s).1 (inr p))));
  last_left_lem = λ f p. left false ((and-true g.no b.yes s).1 (f, p));
  last_right = λ f p. right false ((and-true g.no a.yes s).1 (f, p));
}

-- ---- a level of release

module _ (level a b ahead : Row) (s : ℕ) where
  -- G, and N with what G adds to it
  abbrev G : Row
  G = either_row level a b ahead

  abbrev N : Row
  N = (join_release level a b ahead).ahead

  -- N has what was known of it
  ahead_within : WithinAt s ahead N
  ahead_within true e = (or-true ahead.yes _ s).1 (inl e)
  ahead_within false e = (or-true ahead.no _ s).1 (inl e)

  either_true_left : known a true s ≡ true → known G true s ≡ true
  either_true_left e = (or-true (bit_or a.yes ahead.yes) level.yes s).1 (inl ((or-true a.yes ahead.yes s).1 (inl e)))

  either_true_ahead : known ahead true s ≡ true → known G true s ≡ true
  either_true_ahead e = (or-true (bit_or a.yes ahead.yes) level.yes s).1 (inl ((or-true a.yes ahead.yes s).1 (inr e)))

  either_true-level : known level true s ≡ true → known G true s ≡ true
  either_true-level e = (or-true (bit_or a.yes ahead.yes) level.yes s).1 (inr e)

  either_false : known a false s ≡ true → known ahead false s ≡ true → known G false s ≡ true
  either_false e f = (or-true (bit_and a.no ahead.no) _ s).1 (inl ((and-true a.no ahead.no s).1 (e, f)))

  either_false-level : known level false s ≡ true → known b true s ≡ true → known G false s ≡ true
  either_false-level e f = (or-true (bit_and a.no ahead.no) _ s).1 (inr ((and-true level.no b.yes s).1 (e, f)))

  module _ (clear : ClearAt s G)
      (up : WithinAt s (join_release level a b ahead).level level)
      (left : WithinAt s (join_release level a b ahead).a a)
      (right : WithinAt s (join_release level a b ahead).b b) where
    -- G is the opposite of an AND, of the opposites of a and of N
    pub either_and : AndRow (turn false G) (turn false a) (turn false N) s
    either_and = record {
      up = λ e f. ⊎_elim (either_false e) (λ g. g) ((or-true ahead.no G.no s).0 f);
      left = left false;
      right = λ e. (or-true ahead.no G.no s).1 (inr e);
      no_left = either_true_left;
      no_right = λ e. ⊎_elim either_true_ahead (λ g. ((and-true G.yes a.no s).0 g).0) ((or-true ahead.yes _ s).0 e);
      last_left_lem = λ e f. ⊎_elim
          (λ g. left true ((and-true G.yes ahead.no s).1 (e, g)))
          (λ g. absurd (clear e g))
          ((or-true ahead.no G.no s).0 f);
      last_right = λ e f. (or-true ahead.yes _ s).1 (inr ((and-true G.yes a.no s).1 (e, f)));
    }

    -- the level is the AND of b and of G
    pub level-and : AndRow level b G s
    level-and = record {
      up = λ e f. up true ((and-true b.yes G.yes s).1 (e, f));
      left = right true;
      right = either_true-level;
      no_left = λ e. up false ((or-true b.no G.no s).1 (inl e));
      no_right = λ e. up false ((or-true b.no G.no s).1 (inr e));
      last_left_lem = λ e f. right false ((and-true level.no G.yes s).1 (e, f));
      last_right = either_false-level;
    }

-- ---- a level of always

module _ (level b ahead : Row) (s : ℕ) (clear : ClearAt s level)
    (up : WithinAt s (join_always level b ahead).level level)
    (right : WithinAt s (join_always level b ahead).b b) where
  -- what is known of the level, with what b and N add to it
  abbrev U : Row
  U = and_output level b ahead

  up_has : WithinAt s level U
  up_has true e = (or-true level.yes _ s).1 (inl e)
  up_has false e = (or-true level.no _ s).1 (inl e)

  -- the level is the AND of b and of N
  pub always_and : AndRow level b (join_always level b ahead).ahead s
  always_and = record {
    up = λ e f. up true (⊎_elim
        (λ g. (or-true level.yes _ s).1 (inr ((and-true b.yes ahead.yes s).1 (e, g))))
        (λ g. g)
        ((or-true ahead.yes U.yes s).0 f));
    left = λ e. right true (up_has true e);
    right = λ e. (or-true ahead.yes U.yes s).1 (inr (up_has true e));
    no_left = λ e. up false ((or-true level.no _ s).1 (inr ((or-true b.no ahead.no s).1 (inl e))));
    no_right = λ e. up false (⊎_elim
        (λ g. (or-true level.no _ s).1 (inr ((or-true b.no ahead.no s).1 (inr g))))
        (λ g. ((and-true U.no b.yes s).0 g).0)
        ((or-true ahead.no _ s).0 e));
    last_left_lem = λ e f. ⊎_elim
        (λ g. right false ((and-true U.no ahead.yes s).1 (up_has false e, g)))
        (λ g. absurd (clear (up true g) e))
        ((or-true ahead.yes U.yes s).0 f);
    last_right = λ e f. (or-true ahead.no _ s).1 (inr ((and-true U.no b.yes s).1 (up_has false e, f)));
  }

-- ---- a level of any family: for until and eventually, of the duals of the rows

-- what is taken back of N is what its ends did not say already
pub added_more : (fam : Family) (level a b ahead : Row)
    → (join_of fam level a b ahead).more ≡ new_of (join_of fam level a b ahead).ahead ahead
added_more Release level a b ahead = refl
added_more Until level a b ahead = refl
added_more Eventually level a b ahead = refl
added_more Always level a b ahead = refl

-- N has what was known of it
pub joined_ahead : (fam : Family) (level a b ahead : Row) (s : ℕ) → WithinAt s ahead (join_of fam level a b ahead).ahead
joined_ahead Release level a b ahead s = ahead_within level a b ahead s
joined_ahead Until level a b ahead s =
    within_turned false _ _ s (ahead_within (turn false level) (turn false a) (turn false b) (turn false ahead) s)
joined_ahead Eventually level a b ahead s = within_turned false _ _ s (within_left (turn false ahead) _ s)
joined_ahead Always level a b ahead s = within_left ahead _ s
