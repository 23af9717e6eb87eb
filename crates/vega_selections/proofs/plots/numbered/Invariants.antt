use Rattle.std.proofs.Common.{◌≡◌, ◌++◌}
use Rattle.std.specs.Vec.Iter.{into_iter_items}
use Rattle.vega_selections.specs.Plots.{numbered}
use Rattle.vega_selections.proofs.plots.numbered.Given as goal

abbrev pub invariant-loop-span : goal.invariant-loop-span
invariant-loop-span l = l.out ++ numbered l.unit (into_iter_items l.span-iterator) ≡ numbered 0 l.fn.spans
