use Rattle.vega_standing.proofs.FoldsKept.{all_folds_pass}
use Rattle.vega_standing.proofs.laws.folds_are_kept.Goals as goal

pub returns : goal.returns
returns c = all_folds_pass
