-- Where a search stands at step k: what it has chosen, its closure, and that every step below k is settled.
use Prim.Native.Nat.{ℕ, suc, ◌≤◌, ◌<◌}
use native.Mathlib.Omega.{arith}
use mathlib.Core.Path.{◌≡◌, sym, ap, ◌∙◌}
use mathlib.Core.Bool.{Bool, true, false, cond}
use mathlib.Core.List.{List, [], ◌∷◌, Memᴰ}
use lib.ListN.{length, get_or}
use lib.Seq.{ext_get_or}
use Rattle.circuit.specs.Logic.{Literal}
use Rattle.closure.specs.Computed.{known, Marks, mark_at, is_known, Progress, marked}
use Rattle.closure.proofs.Marks.{known_of, unknown_at}
use Rattle.search.proofs.InOrder.{below_suc}
use Rattle.search.specs.TableSearch.{bit_of, bytes_of}
use Rattle.search.proofs.Agree.{length-bytes_of, get_d_bytes_of, member_none, member_more, Among}
use Rattle.search.proofs.Needs.{ClosureIsRight}

module _ {e : ℕ} {Model : List ℕ → Type 0} {close : List (Literal ℕ) → Progress} {Fine : List (Literal ℕ) → Type 0}
    (right : ClosureIsRight e Model close Fine) where
  -- m are the marks of P, whose literals they hold, and every step below k is settled
  pub record Stands (k : ℕ) (P : List (Literal ℕ)) (m : Marks) : Type 0 where
    pub new : Bool
    pub fine : Fine P
    pub closed : close P ≡ marked m new
    pub held : (l : Literal ℕ) → Memᴰ l P → (l.var < e) × (mark_at m l.var ≡ known l.sign)
    pub settled : (j : ℕ) → j < k → is_known (mark_at m j) ≡ true

  -- at the start
  pub stands_first : (m : Marks) (b : Bool) → close [] ≡ marked m b → Stands 0 [] m
  stands_first m b c =
      record {
        new = b;
        fine = right.fine_none;
        closed = c;
        held = member_none _;
        settled = λ j h. absurd (omega arith);
      }

  -- past a settled step
  pub stands_next : {k : ℕ} {P : List (Literal ℕ)} {m : Marks} → Stands k P m → is_known (mark_at m k) ≡ true
      → Stands (suc k) P m
  stands_next {m} s i =
      record {
        new = s.new;
        fine = s.fine;
        closed = s.closed;
        held = s.held;
        settled = below_suc (λ j. is_known (mark_at m j) ≡ true) s.settled i;
      }

  module _ {k : ℕ} {P : List (Literal ℕ)} {m : Marks} (s : Stands k P m) (inside : k < e)
      (i : is_known (mark_at m k) ≡ false) (sign : Bool) where
    -- an unsettled step may be chosen
    pub fine_choice : Fine (record { sign = sign; var = k } ∷ P)
    fine_choice = right.fine_more s.fine s.closed k sign inside (unknown_at m k i)

    -- past it, chosen
    pub stands_choice : (m' : Marks) (b : Bool) → close (record { sign = sign; var = k } ∷ P) ≡ marked m' b
        → Stands (suc k) (record { sign = sign; var = k } ∷ P) m'
    stands_choice m' b c =
        record {
          new = b;
          fine = fine_choice;
          closed = c;
          held = member_more _ (inside, now) (λ l q. let h = s.held l q in (h.0, still l.var l.sign h.0 h.1));
          settled = below_suc (λ j. is_known (mark_at m' j) ≡ true) earlier (ap is_known now);
        }
      where
        now : mark_at m' k ≡ known sign
        now = right.keeps fine_choice c

        still : (j : ℕ) (x : Bool) → j < e → mark_at m j ≡ known x → mark_at m' j ≡ known x
        still = right.grows s.fine fine_choice s.closed c

        earlier : (j : ℕ) → j < k → is_known (mark_at m' j) ≡ true
        earlier j h =
            let r = known_of (mark_at m j) (s.settled j h) in
            ap is_known (still j r.0 (omega arith) r.1)

  -- the models that agree with P agree with each other below k
  pub settled_same : {k : ℕ} {P : List (Literal ℕ)} {m : Marks} → Stands k P m → k ≤ e → (l l' : List ℕ)
      → Among Model P l → Among Model P l'
      → (j : ℕ) → j < k → get_or l j 0 ≡ get_or l' j 0
  settled_same {P} {m} s inside l l' a a' j h = bit l a ∙ sym (bit l' a')
    where
      r : (x : Bool) × (mark_at m j ≡ known x)
      r = known_of (mark_at m j) (s.settled j h)

      bit : (list : List ℕ) → Among Model P list → get_or list j 0 ≡ cond r.0 1 0
      bit list b = right.mark_sound s.fine s.closed list b.0 b.1 j r.0 (omega arith) r.1

  -- where every step is settled, the list of the marks is a model that agrees with P
  pub settled_member : {P : List (Literal ℕ)} {m : Marks} → Stands e P m → Among Model P (bytes_of e m)
  settled_member {P} {m} s = (
    right.complete s.fine s.closed s.settled,
    λ l i. let h = s.held l i in get_d_bytes_of e m l.var h.0 ∙ ap bit_of h.1,
  )

  -- and there is no other
  pub settled_only : {P : List (Literal ℕ)} {m : Marks} → Stands e P m → (list : List ℕ) → Among Model P list
      → list ≡ bytes_of e m
  settled_only {P} {m} s list a =
      let size : length list ≡ e = right.model_size list a.0 in
      ext_get_or 0 list (bytes_of e m) (size ∙ sym (length-bytes_of e m))
      (λ j h. settled_same s (omega arith) list (bytes_of e m) a (settled_member s) j (omega arith))
