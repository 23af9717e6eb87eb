use Rattle.vega_standing.proofs.Accepted.{accepted}
use Rattle.vega_standing.proofs.laws.accepted_signals_are_in_order.Goals as goal

pub returns : goal.returns
returns c = accepted
