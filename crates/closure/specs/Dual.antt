-- The rules are those of A; E is its dual.
use Rattle.std.specs.Prelude.{Bool, true, false}
use Rattle.ctl.specs.Rule.{Quantifier, every, some}

-- A is taken as it is, E as its dual
abbrev pub is_every : Quantifier → Bool
is_every every = true
is_every some = false
