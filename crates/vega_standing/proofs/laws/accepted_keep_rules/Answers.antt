use Rattle.vega_standing.proofs.Whole.{accepted}
use Rattle.vega_standing.proofs.laws.accepted_keep_rules.Goals as goal

pub returns : goal.returns
returns c = accepted
