use Rattle.std.proofs.Common.{drop, map}
use Rattle.cell_value.specs.State.{dataset_of}
use Rattle.vega_lists.specs.Lists.{lists_of}
use Rattle.vega_lists.specs.Held.{scope_read}
use Rattle.vega_lists.specs.Inside.{rows_inside}
use Rattle.vega_lists.proofs.ListLemmas.{ListsLeft}
use Rattle.vega_lists.proofs.lists.with_sets.Given as goal

abbrev pub invariant-loop-set : goal.invariant-loop-set
invariant-loop-set g l =
    let values = g.P.ParamReader.values l.params in
    let outer = g.O.ListReader.named l.outer in
    ListsLeft values l.sources outer (lists_of values (map dataset_of l.sources) (scope_read (rows_inside l.sources outer l.fn.begun)) l.sets)
    (drop l.set-index l.sets) l.lists
