use Rattle.std.proofs.Common.{◌≡◌, take, map}
use Rattle.vl_building.proofs.parts.each.Given as goal

abbrev pub invariant-loop-value : goal.invariant-loop-value
invariant-loop-value g l = l.list ≡ map g.R.Reads.reads (take l.value-index l.values)
