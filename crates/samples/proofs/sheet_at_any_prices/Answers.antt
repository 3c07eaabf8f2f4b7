use Rattle.samples.proofs.Prices.{sheet_at_any_prices}
use Rattle.samples.proofs.sheet_at_any_prices.Goals as goal

pub returns : goal.returns
returns c = sheet_at_any_prices
