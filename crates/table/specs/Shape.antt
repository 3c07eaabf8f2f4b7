-- What the fields of a node of each kind are. Specification, "Rules".
use Rattle.std.specs.Prelude.{ℕ, List, [], ◌∷◌, get_or}
use Rattle.table.specs.declared.shape.Shape.{Shape}
use Rattle.table.specs.declared.shape.Shape.TheVariants.{Constant, Proposition, Unary, Binary, Unknown}

-- what the fields a and b of each kind are, from kind 0 on; every later kind is unknown
abbrev pub shapes : List Shape
shapes =
    Constant
    ∷ Constant
    ∷ Proposition
    ∷ Unary
    ∷ Binary
    ∷ Binary
    ∷ Unary
    ∷ Unary
    ∷ Binary
    ∷ Binary
    ∷ Binary
    ∷ Binary
    ∷ Unary
    ∷ Unary
    ∷ Unary
    ∷ Unary
    ∷ []

abbrev pub shape_of : ℕ → Shape
shape_of kind = get_or shapes kind Unknown
