use Rattle.std.proofs.Common.{◌≡◌, drop}
use Rattle.std.specs.List.{list_any}
use Rattle.vega_signals.specs.Lacking.{set_lacks}
use Rattle.vega_signals.proofs.lacking.any_set_lacks.Given as goal

abbrev pub invariant-loop-set : goal.invariant-loop-set
invariant-loop-set g l =
    list_any (set_lacks (g.P.ParamReader.values l.values)) (drop l.set-index l.sets) ≡ list_any (set_lacks (g.P.ParamReader.values l.values)) l.sets
