use Rattle.vega_standing.proofs.Whole.{files_kept}
use Rattle.vega_standing.proofs.laws.files_keep_rules.Goals as goal

pub returns : goal.returns
returns c = files_kept
