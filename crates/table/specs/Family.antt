-- The families of the kinds from 8 on, and their children.
use Rattle.std.specs.Prelude.{ℕ, cond, ltb}
use Rattle.table.specs.declared.record.Node.{Node}
use Rattle.table.specs.declared.operator.Family.{Family}
use Rattle.table.specs.declared.operator.Family.TheVariants.{Release, Until, Eventually, Always}

-- by twos: V, U, F and G
abbrev pub family_of : ℕ → Family
family_of kind = cond (ltb kind 10) Release (cond (ltb kind 12) Until (cond (ltb kind 14) Eventually Always))

-- the child whose set is level 0: b of V and U, and of F and G the one child, a
abbrev pub second_of : Node → ℕ
second_of x = cond (ltb x.kind 12) x.b x.a
