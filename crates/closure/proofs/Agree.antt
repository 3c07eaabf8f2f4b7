-- What the rules make of rows at a state depends only on what the rows know of that state, and N there only on the
-- steps out of it and on what is known at their ends: rows that agree there give rows that agree there.
use Prim.Native.Nat.{ℕ, ◌-◌, ◌^◌, ◌<◌}
use mathlib.Core.Path.{◌≡◌, refl, sym, ap, ap₂, ◌∙◌}
use mathlib.Core.Bool.{Bool, true, false, not, ◌&&◌, ◌||◌}
use native.Mathlib.Nat.{lt_of_le_of_lt}
use lib.Bits.{bit_and, bit_or, and_le_l, or_lt}
use lib.Dec.{eqb, ltb}
use lib.ListN.{length}
use Rattle.sets.specs.Member.{member}
use Rattle.sets.proofs.Laws.{member-and, member-or, member_complement, ext}
use Rattle.sets.proofs.SetOf.{member-set_of-below}
use Rattle.table.specs.declared.operator.Family.{Family}
use Rattle.table.specs.declared.operator.Family.TheVariants.{Release, Until, Eventually, Always}
use Rattle.table.specs.Table.{Table}
use Rattle.table.specs.Rows.{target_set}
use Rattle.ctl.specs.Rule.{Quantifier}
use Rattle.rows.specs.declared.row.Row.{Row}
use Rattle.rows.specs.declared.joined.Joined.{Joined}
use Rattle.rows.specs.Row.{known, turn, union, WithinAt, ClearAt}
use Rattle.rows.specs.Words.{SmallRow}
use Rattle.rows.specs.Rules.{
  unmet,
  ahead_row,
  and_output,
  and_input,
  new_of,
  either_row,
  ahead_with,
  join_release,
  join_always,
  falls,
  join_falling,
  inner_falling,
  turn_joined,
  join_of,
  inner_of,
}
use Rattle.rows.proofs.RowLaws.{turned_small}
use Rattle.readers.specs.Reads.{AgreeAt, AgreeOn}
use Rattle.closure.specs.Dual.{is_every}
use Rattle.closure.specs.Knowledge.{Knowledge, Small}
use Rattle.closure.specs.Rest.{ahead_of}
use Rattle.closure.proofs.Ends.{target_small}

-- ---- words, at one state

and_agrees : (x y x' y' t : ℕ) → member x' t ≡ member x t → member y' t ≡ member y t
    → member (bit_and x' y') t ≡ member (bit_and x y) t
and_agrees x y x' y' t e f = member-and x' y' t ∙ ap₂ ◌&&◌ e f ∙ sym (member-and x y t)

or_agrees : (x y x' y' t : ℕ) → member x' t ≡ member x t → member y' t ≡ member y t
    → member (bit_or x' y') t ≡ member (bit_or x y) t
or_agrees x y x' y' t e f = member-or x' y' t ∙ ap₂ ◌||◌ e f ∙ sym (member-or x y t)

complement_agrees : (y y' t : ℕ) → y < 2 ^ 32 → y' < 2 ^ 32 → member y' t ≡ member y t
    → member (4294967295 - y') t ≡ member (4294967295 - y) t
complement_agrees y y' t h h' e =
    member_complement 32 y' t h' ∙ ap (λ (b : Bool). ltb t 32 && not b) e ∙ sym (member_complement 32 y t h)

-- ---- words, over a set: what is read of them there is the same number

pub inside_same : (set x x' : ℕ) → set < 2 ^ 32 → ((t : ℕ) → member set t ≡ true → member x' t ≡ member x t)
    → bit_and set x' ≡ bit_and set x
inside_same set x x' h same =
    ext 32 (bit_and set x') (bit_and set x) (lt_of_le_of_lt (and_le_l set x') h) (lt_of_le_of_lt (and_le_l set x) h)
    (λ t l. member-and set x' t ∙ at t (member set t) refl ∙ sym (member-and set x t))
  where
    at : (t : ℕ) (b : Bool) → member set t ≡ b → b && member x' t ≡ b && member x t
    at t true m = same t m
    at t false m = refl

pub unmet_same : (target : ℕ) (step end end' : Row) → target < 2 ^ 32 → SmallRow step → SmallRow end → SmallRow end'
    → AgreeOn target end end'
    → unmet target step end' ≡ unmet target step end
unmet_same target step end end' h S E E' agree = inside_same target _ _ h (λ t m.
    complement_agrees (bit_or step.no end.yes) (bit_or step.no end'.yes) t
    (or_lt 32 step.no end.yes S.1 E.0)
    (or_lt 32 step.no end'.yes S.1 E'.0)
    (or_agrees step.no end.yes step.no end'.yes t refl (agree t m true)))

-- ---- rows, at one state

pub within_agrees : (r q r' q' : Row) (s : ℕ) → AgreeAt s r r' → AgreeAt s q q' → WithinAt s r q → WithinAt s r' q'
within_agrees r q r' q' s R Q w sign k = Q sign ∙ w sign (sym (R sign) ∙ k)

pub clear_agrees : (r r' : Row) (s : ℕ) → AgreeAt s r r' → ClearAt s r → ClearAt s r'
clear_agrees r r' s R c y n = c (sym (R true) ∙ y) (sym (R false) ∙ n)

pub turned_agrees : (e : Bool) (r r' : Row) (s : ℕ) → AgreeAt s r r' → AgreeAt s (turn e r) (turn e r')
turned_agrees true r r' s R sign = R sign
turned_agrees false r r' s R true = R false
turned_agrees false r r' s R false = R true

union_agrees : (r q r' q' : Row) (s : ℕ) → AgreeAt s r r' → AgreeAt s q q' → AgreeAt s (union r q) (union r' q')
union_agrees r q r' q' s R Q true = or_agrees _ _ _ _ s (R true) (Q true)
union_agrees r q r' q' s R Q false = or_agrees _ _ _ _ s (R false) (Q false)

pub output_agrees : (g a b g' a' b' : Row) (s : ℕ) → AgreeAt s g g' → AgreeAt s a a' → AgreeAt s b b'
    → AgreeAt s (and_output g a b) (and_output g' a' b')
output_agrees g a b g' a' b' s G A B true = or_agrees _ _ _ _ s (G true) (and_agrees _ _ _ _ s (A true) (B true))
output_agrees g a b g' a' b' s G A B false = or_agrees _ _ _ _ s (G false) (or_agrees _ _ _ _ s (A false) (B false))

pub input_agrees : (g b g' b' : Row) (s : ℕ) → AgreeAt s g g' → AgreeAt s b b'
    → AgreeAt s (and_input g b) (and_input g' b')
input_agrees g b g' b' s G B true = G true
input_agrees g b g' b' s G B false = and_agrees _ _ _ _ s (G false) (B true)

pub new_agrees : (r q r' q' : Row) (s : ℕ) → SmallRow q → SmallRow q' → AgreeAt s r r' → AgreeAt s q q'
    → AgreeAt s (new_of r q) (new_of r' q')
new_agrees r q r' q' s h h' R Q true =
    and_agrees _ _ _ _ s (R true) (complement_agrees q.yes q'.yes s h.0 h'.0 (Q true))
new_agrees r q r' q' s h h' R Q false =
    and_agrees _ _ _ _ s (R false) (complement_agrees q.no q'.no s h.1 h'.1 (Q false))

-- ---- a level: the rule of a family that falls, and then the duals

-- what two levels join agrees at s, and so does what they have for G
pub record JoinAgrees (s : ℕ) (J J' : Joined) (G G' : Row) : Type 0 where
  pub level : AgreeAt s J.level J'.level
  pub a : AgreeAt s J.a J'.a
  pub b : AgreeAt s J.b J'.b
  pub ahead : AgreeAt s J.ahead J'.ahead
  pub more : AgreeAt s J.more J'.more
  pub inner : AgreeAt s G G'

module _ (l a b N l' a' b' N' : Row) (s : ℕ) (h : SmallRow N) (h' : SmallRow N')
    (L : AgreeAt s l l') (A : AgreeAt s a a') (B : AgreeAt s b b') (H : AgreeAt s N N') where
  abbrev G : Row
  G = either_row l a b N

  abbrev G' : Row
  G' = either_row l' a' b' N'

  either_agrees : AgreeAt s G G'
  either_agrees true = or_agrees _ _ _ _ s (or_agrees _ _ _ _ s (A true) (H true)) (L true)
  either_agrees false =
      or_agrees _ _ _ _ s (and_agrees _ _ _ _ s (A false) (H false)) (and_agrees _ _ _ _ s (L false) (B true))

  level_agrees : AgreeAt s (join_release l a b N).level (join_release l' a' b' N').level
  level_agrees true = and_agrees _ _ _ _ s (B true) (either_agrees true)
  level_agrees false = or_agrees _ _ _ _ s (B false) (either_agrees false)

  first_agrees : AgreeAt s (join_release l a b N).a (join_release l' a' b' N').a
  first_agrees true = and_agrees _ _ _ _ s (either_agrees true) (H false)
  first_agrees false = either_agrees false

  with_agrees : AgreeAt s (ahead_with G a N) (ahead_with G' a' N')
  with_agrees true = or_agrees _ _ _ _ s (H true) (and_agrees _ _ _ _ s (either_agrees true) (A false))
  with_agrees false = or_agrees _ _ _ _ s (H false) (either_agrees false)

  release_agrees : JoinAgrees s (join_release l a b N) (join_release l' a' b' N') G G'
  release_agrees = record {
    level = level_agrees;
    a = first_agrees;
    b = input_agrees l G l' G' s L either_agrees;
    ahead = with_agrees;
    more = new_agrees (ahead_with G a N) N (ahead_with G' a' N') N' s h h' with_agrees H;
    inner = either_agrees;
  }

  always_agrees : JoinAgrees s (join_always l b N) (join_always l' b' N') (inner_falling Always l a b N)
      (inner_falling Always l' a' b' N')
  always_agrees =
      let up = output_agrees l b N l' b' N' s L B H in
      let both = union_agrees N (and_input (and_output l b N) b) N' (and_input (and_output l' b' N') b') s H
      (input_agrees (and_output l b N) b (and_output l' b' N') b' s up B) in
      record {
        level = up;
        a = λ sign. refl;
        b = input_agrees (and_output l b N) N (and_output l' b' N') N' s up H;
        ahead = both;
        more = new_agrees (join_always l b N).ahead N (join_always l' b' N').ahead N' s h h' both H;
        inner = λ sign. refl;
      }

falling_agrees : (fam : Family) (l a b N l' a' b' N' : Row) (s : ℕ) → SmallRow N → SmallRow N'
    → AgreeAt s l l' → AgreeAt s a a' → AgreeAt s b b' → AgreeAt s N N'
    → JoinAgrees s (join_falling fam l a b N) (join_falling fam l' a' b' N') (inner_falling fam l a b N)
    (inner_falling fam l' a' b' N')
falling_agrees Release = release_agrees
falling_agrees Until = release_agrees
falling_agrees Eventually = always_agrees
falling_agrees Always = always_agrees

-- and so of the duals
duals_agree : (e : Bool) (J J' : Joined) (G G' : Row) (s : ℕ) → JoinAgrees s J J' G G'
    → JoinAgrees s (turn_joined e J) (turn_joined e J') (turn e G) (turn e G')
duals_agree e J J' G G' s r = record {
  level = turned_agrees e J.level J'.level s r.level;
  a = turned_agrees e J.a J'.a s r.a;
  b = turned_agrees e J.b J'.b s r.b;
  ahead = turned_agrees e J.ahead J'.ahead s r.ahead;
  more = turned_agrees e J.more J'.more s r.more;
  inner = turned_agrees e G G' s r.inner;
}

pub join_agrees : (fam : Family) (level a b ahead level' a' b' ahead' : Row) (s : ℕ) → SmallRow ahead → SmallRow ahead'
    → AgreeAt s level level' → AgreeAt s a a' → AgreeAt s b b' → AgreeAt s ahead ahead'
    → JoinAgrees s (join_of fam level a b ahead) (join_of fam level' a' b' ahead') (inner_of fam level a b ahead)
    (inner_of fam level' a' b' ahead')
join_agrees fam l a b N l' a' b' N' s h h' L A B H = duals_agree e _ _ _ _ s (falling_agrees fam
    (turn e l) (turn e a) (turn e b) (turn e N) (turn e l') (turn e a') (turn e b') (turn e N') s
    (turned_small e N h) (turned_small e N' h')
    (turned_agrees e l l' s L) (turned_agrees e a a' s A) (turned_agrees e b b' s B) (turned_agrees e N N' s H))
  where
    e : Bool
    e = falls fam

-- ---- N: the ends are read only where there is a step, so the words that decide it are the same numbers

pub ahead_agrees : (T : Table) (K K' : Knowledge) → Small K → (q : Quantifier) (end end' : Row) → SmallRow end
    → SmallRow end'
    → (s : ℕ) → s < length T.states → K'.steps s ≡ K.steps s → AgreeOn (target_set T.steps s) end end'
    → ((t : ℕ) → known (K.steps s) true t ≡ true → member (target_set T.steps s) t ≡ true)
    → AgreeAt s (ahead_of T K q end) (ahead_of T K' q end')
ahead_agrees T K K' small q end end' E E' s h steps agree ours =
    turned_agrees (is_every q) (over K end) (over K' end') s at
  where
    target : ℕ
    target = target_set T.steps s

    ends : Row → Row
    ends = turn (is_every q)

    over : Knowledge → Row → Row
    over K end = ahead_row (target_set T.steps) K.steps (length T.states) (ends end)

    agree_ends : AgreeOn target (ends end) (ends end')
    agree_ends t m = turned_agrees (is_every q) end end' t (agree t m)

    left : unmet target (K'.steps s) (ends end') ≡ unmet target (K.steps s) (ends end)
    left = ap (λ (step : Row). unmet target step (ends end')) steps
        ∙ unmet_same target (K.steps s) (ends end) (ends end') (target_small T.steps s) (small.steps s)
        (turned_small (is_every q) end E) (turned_small (is_every q) end' E') agree_ends

    missed : bit_and (K'.steps s).yes (ends end').no ≡ bit_and (K.steps s).yes (ends end).no
    missed = ap (λ (step : Row). bit_and step.yes (ends end').no) steps
        ∙ inside_same (K.steps s).yes (ends end).no (ends end').no (small.steps s).0
        (λ t o. agree_ends t (ours t o) false)

    at : AgreeAt s (over K end) (over K' end')
    at true = member-set_of-below _ _ s h ∙ ap (λ (x : ℕ). eqb x 0) left ∙ sym (member-set_of-below _ _ s h)
    at false = member-set_of-below _ _ s h ∙ ap (λ (x : ℕ). not (eqb x 0)) missed ∙ sym (member-set_of-below _ _ s h)
