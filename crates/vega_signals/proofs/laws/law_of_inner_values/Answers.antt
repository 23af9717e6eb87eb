use Rattle.vega_signals.proofs.InnerLaw.{inner_first}
use Rattle.vega_signals.proofs.laws.law_of_inner_values.Goals as goal

pub returns : goal.returns
returns c = inner_first
