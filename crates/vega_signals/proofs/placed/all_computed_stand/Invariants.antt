use Rattle.std.proofs.Common.{◌≡◌, drop}
use Rattle.std.specs.List.{list_all}
use Rattle.vega_signals.specs.inner.Places.{number_under, computed_stands}
use Rattle.vega_signals.proofs.placed.all_computed_stand.Given as goal

abbrev pub invariant-loop-signal : goal.invariant-loop-signal
invariant-loop-signal l =
    list_all (computed_stands (number_under l.places) l.most) (drop l.signal-index l.signals)
    ≡ list_all (computed_stands (number_under l.places) l.most) l.signals
