use Rattle.std.proofs.Common.{◌≡◌, drop, map}
use Rattle.std.specs.List.{list_any}
use Rattle.vega_signals.specs.Lacking.{lacks}
use Rattle.vega_signals.proofs.lacking.any_lacks.Given as goal

abbrev pub invariant-loop-name : goal.invariant-loop-name
invariant-loop-name g l =
    list_any (lacks (g.P.ParamReader.values l.values)) (map (λ name. name.now) (drop l.name-index l.names))
    ≡ list_any (lacks (g.P.ParamReader.values l.values)) (map (λ name. name.now) l.names)
