use Rattle.scene_tree.proofs.MoveLemmas.{stays}
use Rattle.scene_tree.proofs.moves.law_of_moves.Goals as goal

pub returns : goal.returns
returns c = stays
