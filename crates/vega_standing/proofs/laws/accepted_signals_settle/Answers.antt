use Rattle.vega_standing.proofs.Accepted.{all_settle}
use Rattle.vega_standing.proofs.laws.accepted_signals_settle.Goals as goal

pub returns : goal.returns
returns c = all_settle c.laws_of_signals.ensures
