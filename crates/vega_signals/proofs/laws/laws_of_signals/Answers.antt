use Rattle.vega_signals.proofs.OrderLaw.{settle_in_order}
use Rattle.vega_signals.proofs.laws.laws_of_signals.Goals as goal

pub returns : goal.returns
returns c = settle_in_order
