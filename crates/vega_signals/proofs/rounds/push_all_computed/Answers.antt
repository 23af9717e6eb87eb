use Rattle.vega_signals.specs.Extents.{computed_here}
use Rattle.vega_signals.proofs.RoundLemmas.{more_flat}
use Rattle.vega_signals.proofs.rounds.push_all_computed.Goals as goal

pub loop-signal-preserved : goal.loop-signal-preserved
loop-signal-preserved g c =
    more_flat (computed_here (g.P.ParamReader.values c.args.params.now)) c.args.signals.now
    c.loop-signal.signal-index c.signal-item.result c.args.out.now c.loop-signal.out
    c.push_computed.new.out c.loop-signal-test.true c.signal-item.is c.loop-signal.invariant c.in_ok-push_computed.ensures
