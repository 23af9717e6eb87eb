use Rattle.std.proofs.Common.{◌≡◌, ◌++◌, drop}
use Rattle.std.specs.List.{filter_map}
use Rattle.vl_building.proofs.parts.picked.Given as goal

abbrev pub invariant-loop-value : goal.invariant-loop-value
invariant-loop-value g l = l.out ++ filter_map g.R.Picks.picks (drop l.value-index l.values) ≡ filter_map g.R.Picks.picks l.values
