use Rattle.vega_scales.proofs.ScaleLemmas.{as_long}
use Rattle.vega_scales.proofs.laws.laws_of_scales.Goals as goal

pub returns : goal.returns
returns c = as_long
