-- `shape_of` meets its contract: a kind that no arm names is past the list of shapes.
use Prim.Native.Nat.{ℕ}
use mathlib.Core.Path.{◌≡◌, refl, sym}
use native.Mathlib.Omega.{arith}
use lib.ListN.{get_or-eq_default}
use Rattle.table.specs.declared.shape.Shape.TheVariants.{Constant, Unary, Binary, Unknown}
use Rattle.table.specs.Shape.{shapes, shape_of}
use Rattle.table.proofs.Numbers.{two, four}
use Rattle.table.proofs.shape.shape_of.Goals as goal

pub returns-in-0 : goal.returns-in-0
returns-in-0 c = two (λ (k : ℕ). Constant ≡ shape_of k) 0 c.args.kind (omega arith) (omega arith) refl refl

pub returns-in_default : goal.returns-in_default
returns-in_default c = sym (get_or-eq_default shapes Unknown {n = c.args.kind} (omega arith))

pub returns-in-4 : goal.returns-in-4
returns-in-4 c = two (λ (k : ℕ). Binary ≡ shape_of k) 4 c.args.kind (omega arith) (omega arith) refl refl

pub returns-in-4-2 : goal.returns-in-4-2
returns-in-4-2 c = four (λ (k : ℕ). Binary ≡ shape_of k) 8 c.args.kind (omega arith) (omega arith) refl refl refl refl

pub returns-in-3-2 : goal.returns-in-3-2
returns-in-3-2 c = two (λ (k : ℕ). Unary ≡ shape_of k) 6 c.args.kind (omega arith) (omega arith) refl refl

pub returns-in-3-3 : goal.returns-in-3-3
returns-in-3-3 c = four (λ (k : ℕ). Unary ≡ shape_of k) 12 c.args.kind (omega arith) (omega arith) refl refl refl refl
