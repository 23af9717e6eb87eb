use Rattle.std.proofs.Common.{◌+◌, length}
use Rattle.need_graph.specs.inner.Search.{count_unseen, IsSearch}
use Rattle.need_graph.proofs.search.needs_itself.Given as goal

abbrev pub invariant-loop-u : goal.invariant-loop-u
invariant-loop-u l = IsSearch l.needs l.v l.seen l.waiting

abbrev pub decreases-loop-u : goal.decreases-loop-u
decreases-loop-u l = count_unseen l.seen + length l.waiting
