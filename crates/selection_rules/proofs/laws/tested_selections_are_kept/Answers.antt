use Rattle.selection_rules.proofs.TestLemmas.{tested_are_kept}
use Rattle.selection_rules.proofs.laws.tested_selections_are_kept.Goals as goal

pub returns : goal.returns
returns c = tested_are_kept
