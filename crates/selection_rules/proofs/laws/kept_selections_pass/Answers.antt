use Rattle.selection_rules.proofs.TestLemmas.{kept_pass}
use Rattle.selection_rules.proofs.laws.kept_selections_pass.Goals as goal

pub returns : goal.returns
returns c = kept_pass
