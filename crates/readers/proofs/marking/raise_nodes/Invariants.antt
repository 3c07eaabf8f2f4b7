-- `raise_nodes` meets its contract: each node named has what is put into its words, one after the other.
use Prim.Native.Nat.{ℕ}
use mathlib.Core.Path.{◌≡◌}
use mathlib.Core.Bool.{true}
use mathlib.Core.List.{List}
use lib.ListN.{get_or}
use Rattle.sets.specs.Member.{member}
use Rattle.sets.proofs.Walk.{Left}
use Rattle.readers.specs.declared.who_reads.Readers.{Readers}
use Rattle.readers.specs.Readers.{OfNode}
use Rattle.readers.specs.Marked.{Raised}
use Rattle.readers.proofs.MarkLaws.{Gone}
use Rattle.readers.proofs.marking.raise_nodes.Given as goal

-- all words of node i have a set, and the first of them another
abbrev pub AllHave : Readers → List ℕ → ℕ → ℕ → Type 0
AllHave r looks set i = (k s : ℕ) → OfNode r i k → member set s ≡ true → member (get_or looks k 0) s ≡ true

abbrev pub FirstHas : Readers → List ℕ → ℕ → ℕ → Type 0
FirstHas r looks more i = (s : ℕ) → OfNode r i (get_or r.first i 0) → member more s ≡ true
    → member (get_or looks (get_or r.first i 0) 0) s ≡ true

abbrev pub invariant-loop-i : goal.invariant-loop-i
invariant-loop-i l = record {
  left : Left l.nodes l.i-iterator.left;
  raised : Raised l.initial.looks l.looks;
  all : Gone l.nodes l.i-iterator.left (AllHave l.readers l.looks l.set);
  first : Gone l.nodes l.i-iterator.left (FirstHas l.readers l.looks l.more);
}
