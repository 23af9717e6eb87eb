use Rattle.std.proofs.Common.{◌≡◌, drop, map}
use Rattle.cell_value.specs.State.{dataset_of}
use Rattle.vega_lists.specs.Scopes.{list_named}
use Rattle.vega_signals.proofs.lists.source_named.Given as goal

abbrev pub invariant-loop-source : goal.invariant-loop-source
invariant-loop-source l = list_named (map dataset_of (drop l.source-index l.sources)) l.name ≡ list_named (map dataset_of l.sources) l.name
