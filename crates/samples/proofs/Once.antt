-- A sample with its search computed once: what the search ends with, and the answer and the list of the call, are
-- those of one outcome.
use Prim.Native.Nat.{ℕ}
use mathlib.Core.Path.{◌≡◌, refl, sym, ◌∙◌}
use mathlib.Core.Bool.{Bool, true}
use mathlib.Core.List.{List}
use Rattle.std.specs.Prelude.{◌&&◌, eqb}
use Rattle.table.specs.Table.{Table, table_of}
use Rattle.table.specs.Accept.{all, table_verdict}
use Rattle.table.specs.Buffer.{on_accepted}
use Rattle.table.specs.Verdict.{Verdict, verdict_number}
use Rattle.search.specs.Search.{Outcome}
use Rattle.search.specs.TableSearch.{search_under}
use Rattle.repair.specs.Effect.{repair_verdict, written_after, answer_at}
use Rattle.samples.specs.Samples.{Expected, Case, repaired, judged, searches, answers, passes, lent_list, lent_work}

unfoldable pub ends : List ℕ → Table → Expected → Verdict → Outcome → Bool
ends table T expected tests o =
    eqb (verdict_number (table_verdict table)) 0
    && searches T expected o
    && answers T expected
    (answer_at tests o)
    (on_accepted tests (written_after T o (lent_list T)) (lent_list T))
    (lent_list T)

unfoldable pub once : Case → Bool
once (repaired table cap expected) =
    let T = table_of table in
    ends table T expected (repair_verdict table (lent_list T) (lent_work T) (lent_work T)) (search_under T cap)
once (judged table list number) = passes (judged table list number)

same : (c : Case) → once c ≡ passes c
unfolding ends once passes
same (repaired table cap expected) = refl
same (judged table list number) = refl

-- so samples pass where they do with one search each
pub all_pass : (cs : List Case) → all once cs ≡ true → all passes cs ≡ true
all_pass cs h = sym (λ i. all (λ c. same c i) cs) ∙ h
