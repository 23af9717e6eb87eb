use Rattle.std.proofs.Common.{◌≡◌, drop}
use Rattle.std.specs.List.{list_any}
use Rattle.vega_assemble.specs.Scales.{asks_for, is_foot}
use Rattle.vega_assemble.proofs.scales.some_asks_for_foot.Given as goal

abbrev pub invariant-loop-unit : goal.invariant-loop-unit
invariant-loop-unit l =
    list_any (asks_for is_foot l.channel) (drop l.unit-index l.units) ≡ list_any (asks_for is_foot l.channel) l.units
