-- A sheet has one reading: the three laws of the whole sheet.
use Rattle.sheet.specs.OneReading.{OneReading}
use Rattle.sheet.proofs.Whole.{parse_exact, sheet_parses, render_injective}

pub one_reading : OneReading
one_reading = record { values = parse_exact; form = sheet_parses; one = render_injective }
