use Rattle.std.proofs.Common.{◌≡◌, drop}
use Rattle.vega_copies.specs.inner.Levels.{values_at}
use Rattle.vega_copies.proofs.names.value_at.Given as goal

abbrev pub invariant-loop-level : goal.invariant-loop-level
invariant-loop-level l = (values_at l.stores (drop l.level-index l.levels)).value l.name ≡ (values_at l.stores l.levels).value l.name
