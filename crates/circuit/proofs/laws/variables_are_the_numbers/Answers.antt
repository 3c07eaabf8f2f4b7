use Rattle.circuit.proofs.Numbered.{variables_are_the_numbers}
use Rattle.circuit.proofs.laws.variables_are_the_numbers.Goals as goal

pub returns : goal.returns
returns c = variables_are_the_numbers
