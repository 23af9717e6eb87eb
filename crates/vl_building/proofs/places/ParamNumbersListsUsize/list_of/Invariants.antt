use Rattle.std.proofs.Common.{◌≡◌, ◌++◌, drop}
use Rattle.std.specs.List.{enumerate_from, filter_map}
use Rattle.vl_building.specs.Views.{param_number}
use Rattle.vl_building.specs.inner.Named.{shown}
use Rattle.vl_building.proofs.places.ParamNumbersListsUsize.list_of.Given as goal

abbrev pub invariant-loop-number : goal.invariant-loop-number
invariant-loop-number l = l.numbers ++ filter_map (param_number (shown l.named) l.place) (enumerate_from l.number (drop l.number l.items))
    ≡ filter_map (param_number (shown l.named) l.place) (enumerate_from 0 l.items)
