use Rattle.std.proofs.Common.{◌≡◌, drop, map, max}
use Rattle.vega_signals.specs.inner.Places.{number_under, greatest}
use Rattle.vega_signals.proofs.placed.greatest.Given as goal

abbrev pub invariant-loop-name : goal.invariant-loop-name
invariant-loop-name l =
    max l.most (greatest (number_under l.places) (map (λ name. name.now) (drop l.name-index l.names)))
    ≡ greatest (number_under l.places) (map (λ name. name.now) l.names)
