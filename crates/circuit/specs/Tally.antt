-- How many nodes there are of the kinds that cost alike, and what their costs add up to. Specification, "Net".
use Rattle.std.specs.Prelude.{ℕ, ◌+◌, ◌*◌, Bool, ◌&&◌, leb, List, length, get_or}
use Rattle.sets.specs.Member.{count_of}
use Rattle.table.specs.declared.record.Node.{Node}
use Rattle.table.specs.Table.{zero_node}
use Rattle.circuit.specs.declared.tallies.Tallies.{Tallies}

-- a node of a kind from the first to the last
abbrev pub of_kinds : ℕ → ℕ → Node → Bool
of_kinds first last x = leb first x.kind && leb x.kind last

-- how many nodes are
abbrev pub tally : ℕ → ℕ → List Node → ℕ
tally first last nodes = count_of (length nodes) (λ i. of_kinds first last (get_or nodes i zero_node))

abbrev pub tallies : List Node → Tallies
tallies nodes = record {
  plain = tally 0 5 nodes;
  next = tally 6 7 nodes;
  paired = tally 8 11 nodes;
  single = tally 12 15 nodes;
}

-- e + n, and each tally times its cost
abbrev pub tallied : ℕ → ℕ → Tallies → ℕ
tallied n e t =
    e + n
    + t.plain * n
    + t.next * (e + n)
    + t.paired * (n + n * (e + 3 * n))
    + t.single * (n + n * (e + 2 * n))
