use Rattle.std.proofs.Common.{◌≡◌, ◌++◌}
use Rattle.std.specs.Vec.Iter.{into_iter_items}
use Rattle.vl_building.specs.Spec.{bare_params}
use Rattle.vl_building.proofs.spec.bare_params.Given as goal

abbrev pub invariant-loop-at : goal.invariant-loop-at
invariant-loop-at l = l.out ++ bare_params (into_iter_items l.at-iterator) ≡ bare_params l.fn.params
