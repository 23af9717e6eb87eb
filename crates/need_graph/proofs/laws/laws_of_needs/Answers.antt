use Rattle.need_graph.proofs.NeedLemmas.{itself}
use Rattle.need_graph.proofs.laws.laws_of_needs.Goals as goal

pub returns : goal.returns
returns c = itself
