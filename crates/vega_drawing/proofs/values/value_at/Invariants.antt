use Rattle.std.proofs.Common.{◌≡◌, drop}
use Rattle.vega_drawing.specs.inner.Levels.{values_over}
use Rattle.vega_drawing.proofs.values.value_at.Given as goal

abbrev pub invariant-loop-level : goal.invariant-loop-level
invariant-loop-level l = (values_over l.stores (drop l.level-index l.levels)).value l.name ≡ (values_over l.stores l.levels).value l.name
