use Rattle.std.proofs.Common.{drop, map}
use Rattle.cell_value.specs.Datum.{datum_of}
use Rattle.vega_lists.specs.Transforms.{all_transformed}
use Rattle.vega_lists.specs.Held.{scope_in}
use Rattle.vega_lists.proofs.StepLemmas.{IsOnTheWay}
use Rattle.vega_lists.proofs.steps.run.Given as goal

abbrev pub invariant-loop-transform : goal.invariant-loop-transform
invariant-loop-transform g l =
    let values = g.P.ParamReader.values l.params in
    let scope = scope_in l.sources l.lists in
    IsOnTheWay values scope (all_transformed values scope l.transforms (map datum_of l.fn.rows)) (drop l.transform-index l.transforms) l.made
