use Rattle.std.proofs.Common.{◌≡◌, ◌++◌, drop}
use Rattle.std.specs.List.{filter_map, enumerate_from}
use Rattle.vega_assemble.specs.Lists.{list_if_wanted}
use Rattle.vega_assemble.proofs.lists.push_plain.Given as goal

abbrev pub invariant-loop-place : goal.invariant-loop-place
invariant-loop-place l =
    l.out ++ filter_map (list_if_wanted l.stem l.scale) (enumerate_from l.place (drop l.place l.columns))
    ≡ l.fn.out ++ filter_map (list_if_wanted l.stem l.scale) (enumerate_from 0 l.columns)
