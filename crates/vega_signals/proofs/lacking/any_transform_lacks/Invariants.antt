use Rattle.std.proofs.Common.{◌≡◌, drop}
use Rattle.std.specs.List.{list_any}
use Rattle.vega_signals.specs.Lacking.{transform_lacks}
use Rattle.vega_signals.proofs.lacking.any_transform_lacks.Given as goal

abbrev pub invariant-loop-transform : goal.invariant-loop-transform
invariant-loop-transform g l =
    list_any (transform_lacks (g.P.ParamReader.values l.values)) (drop l.transform-index l.transforms)
    ≡ list_any (transform_lacks (g.P.ParamReader.values l.values)) l.transforms
