use Rattle.std.proofs.Common.{◌≡◌, ℕ, ◌<◌, true}
use Rattle.need_graph.specs.Needs.{needs_of}
use Rattle.need_graph.specs.inner.Levels.{level_of, all_within}
use Rattle.need_graph.proofs.levels.never_rises.Given as goal

abbrev pub invariant-loop-v : goal.invariant-loop-v
invariant-loop-v l = (u : ℕ) → u < l.v → all_within l.levels (level_of l.levels u) (needs_of l.needs u) ≡ true
