use Rattle.std.proofs.Common.{take}
use Rattle.need_graph.specs.inner.Search.{Adds}
use Rattle.need_graph.proofs.search.add_all.Given as goal

abbrev pub invariant-loop-v : goal.invariant-loop-v
invariant-loop-v l = Adds (take l.v-index l.nodes) l.initial.seen l.initial.waiting l.seen l.waiting
