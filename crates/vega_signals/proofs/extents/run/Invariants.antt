use Rattle.std.proofs.Common.{drop, map, ◌++◌}
use Rattle.cell_value.specs.Datum.{datum_of}
use Rattle.vega_signals.specs.Extents.{all_left, extents_in}
use Rattle.vega_signals.specs.inner.Rows.{scope_by}
use Rattle.vega_signals.proofs.ExtentLemmas.{IsOnTheWay}
use Rattle.vega_signals.proofs.extents.run.Given as goal

abbrev pub invariant-loop-transform : goal.invariant-loop-transform
invariant-loop-transform g l =
    let values = g.P.ParamReader.values l.params in
    let scope = scope_by (g.O.ListReader.named l.outer) l.lists in
    IsOnTheWay values scope (all_left values scope l.transforms (map datum_of l.fn.rows))
    (l.fn.out ++ extents_in values scope l.transforms (map datum_of l.fn.rows))
    (drop l.transform-index l.transforms) l.left l.out
