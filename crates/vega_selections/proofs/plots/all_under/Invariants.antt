use Rattle.std.proofs.Common.{◌≡◌, ◌++◌, map}
use Rattle.std.specs.Vec.Iter.{into_iter_items}
use Rattle.vega_selections.specs.Plots.{under}
use Rattle.vega_selections.proofs.plots.all_under.Given as goal

abbrev pub invariant-loop-span : goal.invariant-loop-span
invariant-loop-span l = l.out ++ map (under l.fields) (into_iter_items l.span-iterator) ≡ map (under l.fields) l.fn.spans
