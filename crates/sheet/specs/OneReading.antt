-- A sheet has one reading.
use Rattle.std.specs.Prelude.{ℕ, ◌≡◌, ◌↔◌, List, Some}
use Rattle.sheet.specs.Form.{Sheet, InRange, IsSheet, render}
use Rattle.sheet.specs.Parse.{parse}

pub record OneReading : Type 0 where
  -- a text parses to values exactly when it is the rendering of these values, and they are in their ranges
  pub values : (text : List ℕ) (v : Sheet) → (parse text ≡ Some v) ↔ (InRange v × (text ≡ render v))
  -- a text is of sheet form exactly when it parses
  pub form : (text : List ℕ) → IsSheet text ↔ ((v : Sheet) × (parse text ≡ Some v))
  -- two sheets of values in their ranges are no one text
  pub one : (v w : Sheet) → InRange v → InRange w → render v ≡ render w → v ≡ w
