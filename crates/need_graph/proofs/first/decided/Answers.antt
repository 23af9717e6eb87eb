use Rattle.std.proofs.Common.{sym, arith}
use Rattle.need_graph.proofs.NeedLemmas.{no_node}
use Rattle.need_graph.proofs.first.decided.Goals as goal

pub returns-then-v-len : goal.returns-then-v-len
returns-then-v-len c = sym (no_node c.args.needs.now c.args.v (omega arith))
