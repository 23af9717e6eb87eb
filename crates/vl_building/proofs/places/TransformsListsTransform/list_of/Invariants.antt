use Rattle.std.proofs.Common.{◌≡◌, ◌++◌, drop, map}
use Rattle.std.specs.List.{enumerate_from}
use Rattle.vl_building.specs.Views.{transform_at}
use Rattle.vl_building.specs.inner.Named.{shown}
use Rattle.vl_building.proofs.places.TransformsListsTransform.list_of.Given as goal

abbrev pub invariant-loop-number : goal.invariant-loop-number
invariant-loop-number l = l.transforms ++ map (transform_at (shown l.named) l.place) (enumerate_from l.number (drop l.number l.items))
    ≡ map (transform_at (shown l.named) l.place) (enumerate_from 0 l.items)
