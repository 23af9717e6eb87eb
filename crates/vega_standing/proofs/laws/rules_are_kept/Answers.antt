use Rattle.vega_standing.proofs.Whole.{all_kept}
use Rattle.vega_standing.proofs.laws.rules_are_kept.Goals as goal

pub returns : goal.returns
returns c = all_kept
