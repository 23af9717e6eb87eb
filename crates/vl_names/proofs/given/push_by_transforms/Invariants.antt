use Rattle.std.proofs.Common.{◌≡◌, ◌++◌, drop, flat_map}
use Rattle.std.specs.List.{enumerate_from}
use Rattle.vl_names.specs.Given.{given_by_transform}
use Rattle.vl_names.proofs.given.push_by_transforms.Given as goal

abbrev pub invariant-loop-number : goal.invariant-loop-number
invariant-loop-number l =
    l.out ++ flat_map (given_by_transform l.tree l.trail) (enumerate_from l.number (drop l.number l.transforms))
    ≡ l.fn.out ++ flat_map (given_by_transform l.tree l.trail) (enumerate_from 0 l.transforms)
