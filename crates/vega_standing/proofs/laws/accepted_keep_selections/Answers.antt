use Rattle.vega_standing.proofs.SelectionsKept.{accepted}
use Rattle.vega_standing.proofs.laws.accepted_keep_selections.Goals as goal

pub returns : goal.returns
returns c = accepted
