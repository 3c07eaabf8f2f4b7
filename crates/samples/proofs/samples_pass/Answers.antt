use Rattle.samples.proofs.Samples.{samples_pass}
use Rattle.samples.proofs.Families.{families_pass}
use Rattle.samples.proofs.Prices.{prices_pass}
use Rattle.samples.proofs.Settled.{settled_pass}
use Rattle.samples.proofs.samples_pass.Goals as goal

pub returns : goal.returns
returns c = record { plain = samples_pass; families = families_pass; prices = prices_pass; settled = settled_pass }
