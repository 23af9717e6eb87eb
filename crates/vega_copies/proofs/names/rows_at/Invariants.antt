use Rattle.std.proofs.Common.{◌≡◌, drop}
use Rattle.vega_copies.specs.inner.Levels.{rows_at}
use Rattle.vega_copies.proofs.names.rows_at.Given as goal

abbrev pub invariant-loop-level : goal.invariant-loop-level
invariant-loop-level l = rows_at l.sources (drop l.level-index l.levels) l.name ≡ rows_at l.sources l.levels l.name
