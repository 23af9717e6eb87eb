use Rattle.std.proofs.Common.{◌≡◌, map}
use Rattle.cell_value.specs.State.{dataset_of}
use Rattle.vega_lists.specs.Held.{scope_read}
use Rattle.vega_signals.specs.Settling.{own_after}
use Rattle.vega_signals.proofs.rounds.settle.Given as goal

abbrev pub invariant-loop-round : goal.invariant-loop-round
invariant-loop-round g l =
    l.now ≡ own_after (map dataset_of l.object.sources.now) (scope_read (g.O.ListReader.named l.object.lists.now))
    (g.P.ParamReader.values l.object.outer.now) l.object.given.now l.object.signals.now l.object.sets.now l.round
