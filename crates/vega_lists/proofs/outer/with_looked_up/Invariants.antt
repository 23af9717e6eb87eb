use Rattle.std.proofs.Common.{take}
use Rattle.vega_lists.proofs.OuterLemmas.{TakesSoFar}
use Rattle.vega_lists.proofs.outer.with_looked_up.Given as goal

abbrev pub invariant-loop-transform : goal.invariant-loop-transform
invariant-loop-transform g l = TakesSoFar (g.O.ListReader.named l.outer) l.fn.lists (take l.transform-index l.transforms) l.next
