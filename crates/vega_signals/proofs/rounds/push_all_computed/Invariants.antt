use Rattle.std.proofs.Common.{◌≡◌, ◌++◌, take, flat_map}
use Rattle.vega_signals.specs.Extents.{computed_here}
use Rattle.vega_signals.proofs.rounds.push_all_computed.Given as goal

abbrev pub invariant-loop-signal : goal.invariant-loop-signal
invariant-loop-signal g l = l.out ≡ l.fn.out ++ flat_map (computed_here (g.P.ParamReader.values l.params)) (take l.signal-index l.signals)
