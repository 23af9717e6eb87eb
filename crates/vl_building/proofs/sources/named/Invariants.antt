use Rattle.std.proofs.Common.{◌≡◌, ◌++◌}
use Rattle.std.specs.Vec.Iter.{into_iter_items}
use Rattle.vl_building.specs.Sources.{named_from}
use Rattle.vl_building.proofs.sources.named.Given as goal

abbrev pub invariant-loop-at : goal.invariant-loop-at
invariant-loop-at l = l.out ++ named_from l.number (into_iter_items l.at-iterator) ≡ named_from 0 l.fn.all
