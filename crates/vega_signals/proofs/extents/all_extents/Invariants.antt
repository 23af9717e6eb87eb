use Rattle.std.proofs.Common.{drop, map}
use Rattle.cell_value.specs.State.{dataset_of}
use Rattle.vega_lists.specs.Held.{scope_read}
use Rattle.vega_signals.specs.Extents.{set_extents}
use Rattle.vega_signals.proofs.ExtentLemmas.{SetsLeft}
use Rattle.vega_signals.proofs.extents.all_extents.Given as goal

abbrev pub invariant-loop-set : goal.invariant-loop-set
invariant-loop-set g l =
    let values = g.P.ParamReader.values l.params in
    let outer = g.O.ListReader.named l.outer in
    SetsLeft values l.sources outer (set_extents values (map dataset_of l.sources) (scope_read outer) l.sets) (drop l.set-index l.sets) l.lists l.out
