use Rattle.std.proofs.Common.{◌≡◌, ◌+◌, drop, map}
use Rattle.cell_value.specs.State.{dataset_of}
use Rattle.param_flow.specs.inner.Sources.{count_in}
use Rattle.plain_engine.proofs.sources.count_rows.Given as goal

abbrev pub invariant-loop-source : goal.invariant-loop-source
invariant-loop-source l = l.count + count_in (map dataset_of (drop l.source-index l.sources)) ≡ count_in (map dataset_of l.sources)
