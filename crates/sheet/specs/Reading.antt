-- What the code hands back stands for: a value, and the rest of the text as a slice.
use Rattle.std.specs.Prelude.{ℕ, zero, suc, List, [], ◌∷◌, Option, Some, None}
use Rattle.std.specs.Borrow.{Bor}
use Rattle.sheet.specs.declared.form.Form.{Form}
use Rattle.sheet.specs.Form.{Sheet}
use Rattle.sheet.specs.Parse.{Parsed, Parser, got, broken, state_parser, step_parser, node_parser}

-- a value, and the text behind it
abbrev pub reading : {A : Type 0} → Option (A × Bor (List ℕ)) → Parsed A
reading (Some r) = got r.0 r.1.now
reading None = broken

-- the value a, and the text behind what was passed over
abbrev pub passing : {A : Type 0} → A → Option (Bor (List ℕ)) → Parsed A
passing a (Some rest) = got a rest.now
passing a None = broken

-- the values of the first lines, so many, as far as they are of the form
module _ {A : Type 0} where
  abbrev pub values_from : Parsed A → (List ℕ → List A) → List A
  values_from (got x rest) more = x ∷ more rest
  values_from broken more = []

  unfoldable pub values : ℕ → Parser A → List ℕ → List A
  values zero p text = []
  values (suc count) p text = values_from (p text) (values count p)

-- the values of a block's lines, and the text behind them
abbrev pub block_reading : {A : Type 0} → ℕ → Parser A → Option (Bor (List ℕ) × Bor (List ℕ)) → Parsed (List A)
block_reading count p (Some r) = got (values count p r.0.now) r.1.now
block_reading count p None = broken

-- the sheet with these counts, whose lines begin these texts
abbrev pub sheet_of_lines : Form → Sheet
sheet_of_lines f =
    record {
      counts = f.counts;
      states = values f.counts.states state_parser f.states.now;
      steps = values f.counts.steps step_parser f.steps.now;
      nodes = values f.counts.nodes node_parser f.nodes.now;
    }

abbrev pub form_reading : Option Form → Option Sheet
form_reading (Some f) = Some (sheet_of_lines f)
form_reading None = None
