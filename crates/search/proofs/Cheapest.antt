-- The search without a cap finds the cheapest model, the first in rank of those, or that there is none, where its
-- closure and its prices are right. The order of trying is the order of rank, so of two finds of one price the first
-- found is the first in rank: strictly cheaper is enough.
use Prim.Native.Nat.{ℕ, zero, suc, ◌+◌, ◌≤◌, ◌<◌}
use native.Mathlib.Omega.{arith}
use mathlib.Core.Path.{◌≡◌, refl, sym, ap, subst, ◌∙◌}
use mathlib.Core.Logic.{◌↔◌, ◌⊎◌, inl, inr, ⊎_elim}
use mathlib.Core.Bool.{Bool, true, false, true≢false}
use mathlib.Core.List.Memᴰ
use mathlib.Core.List.{List, [], ◌∷◌}
use borrow.Author.Tests.{ltb-true, ltb-false}
use lib.ListN.{length, get_or}
use Rattle.ctl.specs.Rank.{RanksBefore, Cheapest}
use Rattle.circuit.specs.Logic.{Literal, pos, neg}
use Rattle.closure.specs.Computed.{Marks, mark_at, is_known, Progress, clash, marked, settled_below}
use Rattle.search.specs.Search.{
  Best,
  unfound,
  find,
  undercuts,
  Walked,
  passed,
  cut,
  found,
  none,
  outcome_of,
  uncapped,
  pursue,
  choose,
  walk,
  walk_all,
  search,
}
use Rattle.search.proofs.Step.{pursued, and_then, walk_known, walk_unknown}
use Rattle.search.proofs.InOrder.{up_from, below_up_from}
use Rattle.search.specs.TableSearch.{bytes_of}
use Rattle.search.proofs.Agree.{AgreesWith, member_none, member_more, Among}
use Rattle.search.proofs.Needs.{ClosureIsRight, PriceIsRight}
use Rattle.search.proofs.Stand.{
  Stands,
  stands_first,
  stands_next,
  fine_choice,
  stands_choice,
  settled_same,
  settled_member,
  settled_only,
}
use Rattle.search.proofs.Undercut.{under_below, under_lower, not_under_higher}
use Rattle.ctl.specs.Range.{below}

module _ {e : ℕ} {Model : List ℕ → Type 0} {close : List (Literal ℕ) → Progress} {Fine : List (Literal ℕ)
    → Type 0} {price : Marks → ℕ} {cost : List ℕ → ℕ}
    (right : ClosureIsRight e Model close Fine) (priced : PriceIsRight e price cost) where
  -- From the find b on, b' is right of the models that agree with P: none undercuts b, and it stays; or b' is the
  -- cheapest of them, and undercuts b.
  pub data Answers (P : List (Literal ℕ)) (b b' : Best) : Type 0 where
    stays : b' ≡ b → ((list : List ℕ) → Among Model P list → undercuts (cost list) b ≡ false) → Answers P b b'
    finds : (m : Marks) → b' ≡ find m (cost (bytes_of e m)) → undercuts (cost (bytes_of e m)) b ≡ true
        → Cheapest cost (Among Model P) (bytes_of e m) → Answers P b b'

  abbrev pub Walks : List (Literal ℕ) → Best → Walked → Type 0
  Walks P b (passed b' c) = Answers P b b'
  Walks P b (cut c) = ⊥

  -- the models that agree with one literal more are among those that agree with P
  among_less : {l : Literal ℕ} {P : List (Literal ℕ)} {list : List ℕ} → Among Model (l ∷ P) list → Among Model P list
  among_less a = (a.0, λ k i. a.1 k (Memᴰ.tail i))

  -- a model that agrees with P keeps step k or strikes it
  kept_or_struck : (k : ℕ) → k < e → (P : List (Literal ℕ)) (list : List ℕ) → Among Model P list
      → Among Model (pos k ∷ P) list ⊎ Among Model (neg k ∷ P) list
  kept_or_struck k inside P list a =
      by (get_or list k 0) refl (right.model_bits list a.0 k (rw (right.model_size list a.0) inside))
    where
      by : (b : ℕ) → get_or list k 0 ≡ b → b ≤ 1 → Among Model (pos k ∷ P) list ⊎ Among Model (neg k ∷ P) list
      by zero q h = inr (a.0, member_more (AgreesWith list) q a.1)
      by (suc zero) q h = inl (a.0, member_more (AgreesWith list) q a.1)
      by (suc (suc b)) q h = absurd (omega arith)

  module _ {k : ℕ} {P : List (Literal ℕ)} {m : Marks} (s : Stands right k P m) (inside : k < e) where
    -- the cheapest that keeps step k is the cheapest, where none that strikes it undercuts it: those of its price
    -- rank after
    cheapest_kept : (l : List ℕ) → Cheapest cost (Among Model (pos k ∷ P)) l
        → ((list : List ℕ) → Among Model (neg k ∷ P) list → cost l ≤ cost list) → Cheapest cost (Among Model P) l
    cheapest_kept l c more = record {
      lowest = λ list a. ⊎_elim (c.lowest list) (more list) (kept_or_struck k inside P list a);
      first = record {
        member = (among_less c.first.member.0, refl);
        before = λ list a other. by list a.1 other (kept_or_struck k inside P list a.0);
      };
    }
      where
        by : (list : List ℕ) → cost list ≡ cost l → ¬ (list ≡ l)
            → Among Model (pos k ∷ P) list ⊎ Among Model (neg k ∷ P) list → RanksBefore l list
        by list same other (inl a) = c.first.before list (a, same) other
        by list same other (inr a) =
            let here = c.first.member.0 in
            record {
              step = k;
              inside = rw (right.model_size l here.0) inside;
              agree = settled_same right s (omega arith) l list (among_less here) (among_less a);
              kept = here.1 (pos k) (Memᴰ.head refl);
              struck = a.1 (neg k) (Memᴰ.head refl);
            }

    -- the cheapest that strikes step k is the cheapest, where it undercuts all that keep it
    cheapest_struck : (l : List ℕ) → Cheapest cost (Among Model (neg k ∷ P)) l
        → ((list : List ℕ) → Among Model (pos k ∷ P) list → cost l < cost list) → Cheapest cost (Among Model P) l
    cheapest_struck l c more = record {
      lowest = λ list a. ⊎_elim (λ x. let h : cost l < cost list = more list x in omega arith) (c.lowest list)
          (kept_or_struck k inside P list a);
      first = record {
        member = (among_less c.first.member.0, refl);
        before = λ list a other. by list a.1 other (kept_or_struck k inside P list a.0);
      };
    }
      where
        by : (list : List ℕ) → cost list ≡ cost l → ¬ (list ≡ l)
            → Among Model (pos k ∷ P) list ⊎ Among Model (neg k ∷ P) list → RanksBefore l list
        by list same other (inl a) = let h : cost l < cost list = more list a in absurd (omega arith)
        by list same other (inr a) = c.first.before list (a, same) other

    -- the answers of both choices are an answer
    both_answer : (b b₁ b₂ : Best) → Answers (pos k ∷ P) b b₁ → Answers (neg k ∷ P) b₁ b₂ → Answers P b b₂
    both_answer b b₁ b₂ (stays e₁ none₁) (stays e₂ none₂) = stays (e₂ ∙ e₁)
        (λ list a. ⊎_elim (none₁ list) (λ x. subst (λ y. undercuts (cost list) y ≡ false) e₁ (none₂ list x))
        (kept_or_struck k inside P list a))
    both_answer b b₁ b₂ (stays e₁ none₁) (finds m₂ e₂ under₂ c₂) =
        let under : undercuts (cost (bytes_of e m₂)) b ≡ true =
        subst (λ y. undercuts (cost (bytes_of e m₂)) y ≡ true) e₁ under₂ in
        finds m₂ e₂ under (cheapest_struck (bytes_of e m₂) c₂ (λ list a. under_below b _ _ under (none₁ list a)))
    both_answer b b₁ b₂ (finds m₁ e₁ under₁ c₁) (stays e₂ none₂) =
        finds m₁ (e₂ ∙ e₁) under₁ (cheapest_kept (bytes_of e m₁) c₁
        (λ list a. ltb-false (cost list) (cost (bytes_of e m₁))
        (subst (λ y. undercuts (cost list) y ≡ false) e₁ (none₂ list a))))
    both_answer b b₁ b₂ (finds m₁ e₁ under₁ c₁) (finds m₂ e₂ under₂ c₂) =
        let less : cost (bytes_of e m₂) < cost (bytes_of e m₁) =
        ltb-true _ _ (subst (λ y. undercuts (cost (bytes_of e m₂)) y ≡ true) e₁ under₂) in
        finds m₂ e₂ (under_lower b _ _ less under₁) (cheapest_struck (bytes_of e m₂) c₂
        (λ list a. let h : cost (bytes_of e m₁) ≤ cost list = c₁.lowest list a in omega arith))

  -- a model that agrees with P costs no less than the marks of P
  marks_least : {P : List (Literal ℕ)} {m : Marks} {new : Bool} → Fine P → close P ≡ marked m new → (list : List ℕ)
      → Among Model P list → price m ≤ cost list
  marks_least {P} {m} fine c list a = priced.least m list (λ j h q. right.mark_sound fine c list a.0 a.1 j false h q)

  -- what comes of P, of a walk that goes on to answer
  pursue_answers : (k : ℕ) (P : List (Literal ℕ)) → Fine P → (onward : List (Literal ℕ) → Marks → Best → ℕ → Walked)
      → ((m : Marks) (new : Bool) → close P ≡ marked m new → Stands right k P m)
      → ((m : Marks) (b : Best) (c : ℕ) → Stands right k P m → undercuts (price m) b ≡ true
      → Walks P b (onward P m b c))
      → (b : Best) (count : ℕ) → Walks P b (pursue close price P b count onward)
  pursue_answers k P fine onward stand answers b count = by (close P) refl
    where
      by : (p : Progress) → close P ≡ p → Walks P b (pursued p (λ n. undercuts (price n) b) P b count onward)
      by clash q = stays refl (λ list a. absurd (right.clash_sound fine q list a.0 a.1))
      by (marked m new) q = cheap (undercuts (price m) b) refl
        where
          cheap : (x : Bool) → undercuts (price m) b ≡ x
              → Walks P b (elim x [ true ↦ onward P m b count | false ↦ passed b count ])
          cheap true u = answers m b count (stand m new q) u
          cheap false u = stays refl (λ list a. not_under_higher b _ _ (marks_least fine q list a) u)

  -- an unsettled step, of a walk that goes on to answer
  module _ {k : ℕ} {P : List (Literal ℕ)} {m : Marks} (s : Stands right k P m) (inside : k < e)
      (i : is_known (mark_at m k) ≡ false)
      (onward : List (Literal ℕ) → Marks → Best → ℕ → Walked)
      (answers : (Q : List (Literal ℕ)) (m' : Marks) (b : Best) (c : ℕ) → Stands right (suc k) Q m'
      → undercuts (price m') b ≡ true → Walks Q b (onward Q m' b c)) where
    one_choice : (sign : Bool) (b : Best) (count : ℕ)
        → Walks (record { sign = sign; var = k } ∷ P) b
        (choose uncapped close price (record { sign = sign; var = k }) P b count onward)
    one_choice sign b count =
        pursue_answers (suc k) (record { sign = sign; var = k } ∷ P) (fine_choice right s inside i sign) onward
        (stands_choice right s inside i sign) (answers (record { sign = sign; var = k } ∷ P)) b (suc count)

    both_choices : (b : Best) (count : ℕ)
        → Walks P b (and_then (choose uncapped close price (pos k) P b count onward)
        (λ b₁ c. choose uncapped close price (neg k) P b₁ c onward))
    both_choices b count = by (choose uncapped close price (pos k) P b count onward) (one_choice true b count)
      where
        second : (b₁ : Best) (w : Walked) → Answers (pos k ∷ P) b b₁ → Walks (neg k ∷ P) b₁ w → Walks P b w
        second b₁ (passed b₂ c) a₁ a₂ = both_answer s inside b b₁ b₂ a₁ a₂
        second b₁ (cut c) a₁ a₂ = a₂

        by : (w : Walked) → Walks (pos k ∷ P) b w
            → Walks P b (and_then w (λ b₁ c. choose uncapped close price (neg k) P b₁ c onward))
        by (passed b₁ c) a = second b₁ (choose uncapped close price (neg k) P b₁ c onward) a (one_choice false b₁ c)
        by (cut c) a = a

  -- where every step is settled, the list of the marks is found
  settled_found : {P : List (Literal ℕ)} {m : Marks} (b : Best) → Stands right e P m → undercuts (price m) b ≡ true
      → Answers P b (find m (price m))
  settled_found {P} {m} b s cheap =
      let same : price m ≡ cost (bytes_of e m) = priced.exact m s.settled in
      finds m (ap (find m) same) (subst (λ (p : ℕ). undercuts p b ≡ true) same cheap) (record {
        lowest = λ list a. rw (settled_only right s list a) (omega arith);
        first = record {
          member = (settled_member right s, refl);
          before = λ list a other. absurd (other (settled_only right s list a.0));
        };
      })

  -- from where it stands, with the n steps from k on to pass, the walk answers for P
  pub walk_answers : (n k : ℕ) → k + n ≡ e → (P : List (Literal ℕ)) (m : Marks) (b : Best) (count : ℕ)
      → Stands right k P m → undercuts (price m) b ≡ true
      → Walks P b (walk uncapped close price (up_from k n) P m b count)
  unfolding walk up_from
  walk_answers zero k sum P m b count s cheap = let all : k ≡ e = omega arith in settled_found b (rw all at s) cheap
  walk_answers (suc n) k sum P m b count s cheap =
      by (is_known (mark_at m k)) refl (walk_answers n (suc k) (omega arith))
    where
      by : (x : Bool) → is_known (mark_at m k) ≡ x
          → ((Q : List (Literal ℕ)) (m' : Marks) (b' : Best) (c : ℕ) → Stands right (suc k) Q m'
          → undercuts (price m') b' ≡ true
          → Walks Q b' (walk uncapped close price (up_from (suc k) n) Q m' b' c))
          → Walks P b (walk uncapped close price (k ∷ up_from (suc k) n) P m b count)
      by true i rest = rw (walk_known uncapped close price k (up_from (suc k) n) P m b count i)
          (rest P m b count (stands_next right s i) cheap)
      by false i rest = rw (walk_unknown uncapped close price k (up_from (suc k) n) P m b count i)
          (both_choices s (omega arith) i (walk uncapped close price (up_from (suc k) n)) rest b count)

  -- all that is walked answers for all models
  all_answers : Walks [] unfound (walk_all uncapped close price (below e))
  all_answers = rw below_up_from
      (pursue_answers 0 [] right.fine_none (walk uncapped close price (up_from 0 e)) (stands_first right)
      (walk_answers e 0 (omega arith) []) unfound 0)

  -- the number of settled steps that each answer carries
  first : ℕ
  first = settled_below (length (below e)) (close [])

  -- the search gives none exactly where there is no model
  pub search_none : ((c : ℕ) × (k : ℕ) × (search uncapped close price (below e) ≡ none c k))
      ↔ ((list : List ℕ) → ¬ Model list)
  unfolding search first
  search_none = (
    λ r. to (walk_all uncapped close price (below e)) all_answers r.0 r.1 r.2,
    from (walk_all uncapped close price (below e)) all_answers,
  )
    where
      no_model : (b : Best) → b ≡ unfound → Answers [] unfound b → (list : List ℕ) → ¬ Model list
      no_model b q (stays _ empty) list model = true≢false (empty list (model, member_none (AgreesWith list)))
      no_model b q (finds m f _ _) list model = let w : unfound ≡ find m (cost (bytes_of e m)) = sym q
          ∙ f in let z : ◌≡◌ {A = ℕ} 0 1 = cc in omega arith

      to : (w : Walked) → Walks [] unfound w → (c k : ℕ) → outcome_of first w ≡ none c k → (list : List ℕ)
          → ¬ Model list
      to (passed unfound d) a c k q = no_model unfound refl a
      to (passed (find m p) d) a c k q = let z : ◌≡◌ {A = ℕ} 0 1 = cc in absurd (omega arith)
      to (cut d) a c k q = absurd a

      from_found : (m : Marks) (p : ℕ) → Answers [] unfound (find m p) → ((list : List ℕ) → ¬ Model list) → ⊥
      from_found m p (stays f _) empty = let z : ◌≡◌ {A = ℕ} 0 1 = cc in omega arith
      from_found m p (finds n f _ c) empty = empty (bytes_of e n) c.first.member.0.0

      from : (w : Walked) → Walks [] unfound w → ((list : List ℕ) → ¬ Model list)
          → (c : ℕ) × (k : ℕ) × (outcome_of first w ≡ none c k)
      from (passed unfound c) a empty = (c, first, refl)
      from (passed (find m p) c) a empty = absurd (from_found m p a empty)
      from (cut c) a empty = absurd a

  -- and what it finds gives the cheapest model, with its price
  pub search_found : (m : Marks) (p c k : ℕ) → search uncapped close price (below e) ≡ found m p c k
      → Cheapest cost Model (bytes_of e m) × (p ≡ cost (bytes_of e m))
  unfolding search first
  search_found m p c k = by (walk_all uncapped close price (below e)) all_answers
    where
      whole : Cheapest cost (Among Model []) (bytes_of e m) → Cheapest cost Model (bytes_of e m)
      whole f = record {
        lowest = λ list model. f.lowest list (model, member_none (AgreesWith list));
        first = record {
          member = (f.first.member.0.0, refl);
          before = λ list model other. f.first.before list ((model.0, member_none (AgreesWith list)), model.1) other;
        };
      }

      of_find : (m' : Marks) (p' : ℕ) → m' ≡ m → p' ≡ p → Answers [] unfound (find m' p')
          → Cheapest cost Model (bytes_of e m) × (p ≡ cost (bytes_of e m))
      of_find m' p' same_m same_p (stays f _) = let z : ◌≡◌ {A = ℕ} 0 1 = cc in absurd (omega arith)
      of_find m' p' same_m same_p (finds n f _ c) =
          let n_m : n ≡ m = cc in
          let price_p : p ≡ cost (bytes_of e n) = cc in
          (whole (rw n_m at c), rw n_m at price_p)

      by : (w : Walked) → Walks [] unfound w → outcome_of first w ≡ found m p c k
          → Cheapest cost Model (bytes_of e m) × (p ≡ cost (bytes_of e m))
      by (passed unfound d) a q = let z : ◌≡◌ {A = ℕ} 0 1 = cc in absurd (omega arith)
      by (passed (find m' p') d) a q = let same_m : m' ≡ m = cc in let same_p : p'
          ≡ p = cc in of_find m' p' same_m same_p a
      by (cut d) a q = absurd a
