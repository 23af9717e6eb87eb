use Rattle.std.proofs.Common.{◌≡◌, drop}
use Rattle.vega_assemble.specs.Scales.{some_way, is_foot}
use Rattle.vega_assemble.proofs.scales.some_foot.Given as goal

abbrev pub invariant-loop-way : goal.invariant-loop-way
invariant-loop-way l =
    some_way is_foot (drop l.way-index l.ways) ≡ some_way is_foot l.ways
