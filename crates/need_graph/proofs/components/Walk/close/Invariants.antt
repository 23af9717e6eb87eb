use Rattle.std.proofs.Common.{length}
use Rattle.need_graph.proofs.components.Walk.close.Given as goal

abbrev pub decreases-loop-w : goal.decreases-loop-w
decreases-loop-w l = length l.self.open
